-- Reads in lists by their places.
use Rattle.std.proofs.Common.{◌≡◌, ℕ, ◌+◌, ◌<◌, ◌≤◌, List, [], ◌∷◌, ◌++◌, length, take, get_or, refl, sym}
use Rattle.std.proofs.Common.{ap, ◌∙◌, cond, eq-eqb, replicate, take_all, zero, suc}
use Rattle.std.specs.Prelude.{filter}
use Rattle.std.specs.List.{AllByRecursion}
use Rattle.std.proofs.lemmas.Bool.{ne_eqb}
use Rattle.std.proofs.lemmas.List.{append-nil}
use Rattle.std.proofs.lemmas.List.Elements.{filter_more}
use Rattle.trail_replay.specs.Reads.{list_below}
use Rattle.trail_replay.proofs.PreparedTables.{get_or-list_below}
use Rattle.tree_check.specs.declared.read_at.ReadAt.{ReadAt}
use Rattle.tree_check.specs.Buckets.{with_read}
use Rattle.tree_check.specs.Reads.{is_at, AreOf}
use Rattle.tree_check.proofs.Below.{set_below, below_same}
use Rattle.tree_check.proofs.Stays.{filter_sessions}

-- the first so many reads at a place
abbrev pub first_at : List ReadAt → ℕ → ℕ → List ReadAt
first_at reads i place = filter (is_at place) (take i reads)

pub none_at : (reads : List ReadAt) (places : ℕ)
    → replicate places [] ≡ list_below (first_at reads 0) places
none_at reads places = sym (below_same [] places)

own_more : (reads : List ReadAt) (i : ℕ) (none : ReadAt) → i < length reads
    → first_at reads (i + 1) (get_or reads i none).place
    ≡ first_at reads i (get_or reads i none).place ++ get_or reads i none ∷ []
own_more reads i none in_range =
    let read = get_or reads i none in
    filter_more (is_at read.place) reads i none in_range
    ∙ ap (λ b. first_at reads i read.place ++ cond b (read ∷ []) [])
    (eq-eqb read.place read.place refl)

other_more : (reads : List ReadAt) (i : ℕ) (none : ReadAt) (place : ℕ) → i < length reads
    → (place ≡ (get_or reads i none).place → ⊥)
    → first_at reads i place ≡ first_at reads (i + 1) place
other_more reads i none place in_range apart =
    let read = get_or reads i none in
    sym (filter_more (is_at place) reads i none in_range
    ∙ ap (λ b. first_at reads i place ++ cond b (read ∷ []) [])
    (ne_eqb read.place place (λ same. apart (sym same)))
    ∙ append-nil (first_at reads i place))

-- the lists with one read more
pub read_more : (reads : List ReadAt) (i : ℕ) (none : ReadAt) (places : ℕ) → i < length reads
    → with_read (list_below (first_at reads i) places) (get_or reads i none)
    ≡ list_below (first_at reads (i + 1)) places
read_more reads i none places in_range =
    let read = get_or reads i none in
    let lists = list_below (first_at reads i) places in
    set_below (first_at reads i) (first_at reads (i + 1)) places read.place
    (get_or lists read.place [] ++ read ∷ [])
    (λ below. own_more reads i none in_range
    ∙ ap (λ xs. xs ++ read ∷ [])
    (sym (get_or-list_below (first_at reads i) places read.place [] below)))
    (λ place below apart. other_more reads i none place in_range apart)

pub all_at : (reads : List ReadAt) (i places : ℕ) → length reads ≤ i
    → list_below (first_at reads i) places ≡ list_below (λ place. filter (is_at place) reads) places
all_at reads i places whole =
    ap (λ rs. list_below (λ place. filter (is_at place) rs) places) (take_all i reads whole)

-- reads of these sessions are so at each place
pub each_of : (sessions : ℕ) (reads : List ReadAt) (places : ℕ) → AreOf sessions reads
    → AllByRecursion (AreOf sessions) (list_below (λ place. filter (is_at place) reads) places)
each_of sessions reads zero are = tt
each_of sessions reads (suc places) are =
    both (list_below (λ place. filter (is_at place) reads) places) (filter (is_at places) reads)
    (each_of sessions reads places are) (filter_sessions sessions (is_at places) reads are) where
      both : (lists : List (List ReadAt)) (own : List ReadAt) → AllByRecursion (AreOf sessions) lists
          → AreOf sessions own → AllByRecursion (AreOf sessions) (lists ++ own ∷ [])
      both [] own each last = (last, tt)
      both (list ∷ lists) own each last = (each.0, both lists own each.1 last)

-- so are those in one of the lists
pub one_of : (sessions place : ℕ) (lists : List (List ReadAt)) → AllByRecursion (AreOf sessions) lists
    → AreOf sessions (get_or lists place [])
one_of sessions place [] each = tt
one_of sessions zero (list ∷ lists) each = each.0
one_of sessions (suc place) (list ∷ lists) each = one_of sessions place lists each.1
