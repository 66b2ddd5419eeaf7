-- A plain tree after a post of one of its sessions, and after a read.
use Rattle.std.proofs.Common.{◌≡◌, ◌≢◌, ℕ, ◌+◌, ◌<◌, ◌≤◌, List, [], ◌∷◌, ◌++◌, length, refl}
use Rattle.std.proofs.Common.{ap, sym, arith, zero, suc, slice_set, ◌⊎◌, inl, inr}
use Rattle.std.proofs.Common.{length-append, length-set}
use Rattle.std.specs.Prelude.{Some, slice_get, replicate}
use Rattle.std.specs.List.{AllByRecursion}
use Rattle.std.proofs.lemmas.Bool.{ne_eqb}
use Rattle.risk_board.specs.declared.hand.Line.{Line}
use Rattle.risk_board.specs.History.{Event, posted, IsOwnLegal, array_after}
use Rattle.risk_board.specs.History.Event.{Posted, Saw}
use Rattle.risk_board.specs.Kept.{ArePlaces, IsPlain}
use Rattle.risk_board.proofs.Posts.{line}
use Rattle.risk_board.proofs.Legal.{own_post, other_post, own_read, are_places_of_more}
use Rattle.risk_board.proofs.Legal.{are_places_with_post, are_places_with_read}

-- what stands in a list after one place is set
pub slice_get_after_set : {X : Type 0} (xs : List X) (i j : ℕ) (x found : X)
    → slice_get (slice_set xs i x) j ≡ Some found
    → ((j ≡ i) × (found ≡ x)) ⊎ ((j ≢ i) × (slice_get xs j ≡ Some found))
slice_get_after_set [] i j x found at = absurd (cc)
slice_get_after_set (y ∷ xs) zero zero x found at = inl (refl, cc)
slice_get_after_set (y ∷ xs) zero (suc j) x found at = inr ((λ q. omega arith), at)
slice_get_after_set (y ∷ xs) (suc i) zero x found at = inr ((λ q. omega arith), at)
slice_get_after_set {X} (y ∷ xs) (suc i) (suc j) x found at =
    go (slice_get_after_set xs i j x found at)
  where
    go : ((j ≡ i) × (found ≡ x)) ⊎ ((j ≢ i) × (slice_get xs j ≡ Some found))
        → ((suc j ≡ suc i) × (found ≡ x)) ⊎ ((suc j ≢ suc i) × (slice_get xs j ≡ Some found))
    go (inl p) = inl (ap (λ n. suc n) p.0, p.1)
    go (inr p) = inr ((λ q. p.0 (omega arith)), p.1)

all_with_last : (P : Line → Type 0) (lines : List Line) (last : Line) → AllByRecursion P lines
    → P last → AllByRecursion P (lines ++ last ∷ [])
all_with_last P [] last all here = (here, all)
all_with_last P (x ∷ lines) last all here = (all.0, all_with_last P lines last all.1 here)

all_below_same : (m n : ℕ) (lines : List Line) → m ≡ n
    → AllByRecursion (λ line. line.session < m) lines
    → AllByRecursion (λ line. line.session < n) lines
all_below_same m n [] same below = below
all_below_same m n (x ∷ lines) same below =
    (omega (arith, below.0), all_below_same m n lines same below.1)

-- one session after a post, its own or another's
post_at : (whole : List ℕ → ℕ) (unit components : ℕ) (lines : List Line)
    (events : List (List Event)) (session : ℕ) (own : List Event) (value : ℕ)
    → slice_get events session ≡ Some own → IsPlain whole unit components lines events
    → (other : ℕ) (others : List Event)
    → ((other ≡ session) × (others ≡ own ++ Posted value ∷ []))
    ⊎ ((other ≢ session) × (slice_get events other ≡ Some others))
    → let more = lines ++ line session (1 + length (posted own)) value ∷ [] in
    IsOwnLegal whole unit components more other others × ArePlaces (length more) others
post_at whole unit components lines events session own value at plain other others (inl p) =
    let last : Line = line session (1 + length (posted own)) value in
    let longer : length lines ≤ length (lines ++ last ∷ []) =
    omega (arith, length-append lines (last ∷ [])) in
    rw (p.0, p.1) (
      own_post whole unit components lines session own value (plain.each session own at).0,
      are_places_of_more (length lines) _ (own ++ Posted value ∷ []) longer
          (are_places_with_post (length lines) own value (plain.each session own at).1),
    )
post_at whole unit components lines events session own value at plain other others (inr p) =
    let last : Line = line session (1 + length (posted own)) value in
    let longer : length lines ≤ length (lines ++ last ∷ []) =
    omega (arith, length-append lines (last ∷ [])) in (
      other_post whole unit components lines other others last
          (ne_eqb session other (λ q. p.0 (sym q))) (plain.each other others p.1).0,
      are_places_of_more (length lines) _ others longer (plain.each other others p.1).1,
    )

-- a post keeps a plain tree plain
pub plain_with_post : (whole : List ℕ → ℕ) (unit components : ℕ) (lines : List Line)
    (events : List (List Event)) (session : ℕ) (own : List Event) (value : ℕ)
    → session < length events → slice_get events session ≡ Some own
    → IsPlain whole unit components lines events
    → IsPlain whole unit components
    (lines ++ line session (1 + length (posted own)) value ∷ [])
    (slice_set events session (own ++ Posted value ∷ []))
plain_with_post whole unit components lines events session own value below at plain =
    let last : Line = line session (1 + length (posted own)) value in
    let more : List Event = own ++ Posted value ∷ [] in
    let same : length events ≡ length (slice_set events session more) =
    sym (length-set events session more) in
    record {
      few = omega (arith, plain.few);
      sessions = all_below_same (length events) _ (lines ++ last ∷ []) same
          (all_with_last (λ l. l.session < length events) lines last plain.sessions below);
      each = λ other others found.
          post_at whole unit components lines events session own value at plain other others
          (slice_get_after_set events session other more others found);
    }

-- one session after a read, its own or another's
read_at : (whole : List ℕ → ℕ) (unit components : ℕ) (lines : List Line)
    (events : List (List Event)) (session : ℕ) (own : List Event)
    → slice_get events session ≡ Some own → IsPlain whole unit components lines events
    → (other : ℕ) (others : List Event)
    → let seen = Saw (length lines) (length lines) (whole (array_after unit components lines)) in
    ((other ≡ session) × (others ≡ own ++ seen ∷ []))
    ⊎ ((other ≢ session) × (slice_get events other ≡ Some others))
    → IsOwnLegal whole unit components lines other others × ArePlaces (length lines) others
read_at whole unit components lines events session own at plain other others (inl p) =
    let value : ℕ = whole (array_after unit components lines) in
    let mine = plain.each session own at in
    rw (p.0, p.1) (
      own_read whole unit components lines session own mine.1 mine.0,
      are_places_with_read (length lines) own value mine.1,
    )
read_at whole unit components lines events session own at plain other others (inr p) =
    plain.each other others p.1

-- a read of all lines keeps a plain tree plain
pub plain_with_read : (whole : List ℕ → ℕ) (unit components : ℕ) (lines : List Line)
    (events : List (List Event)) (session : ℕ) (own : List Event)
    → slice_get events session ≡ Some own → IsPlain whole unit components lines events
    → let seen = Saw (length lines) (length lines) (whole (array_after unit components lines)) in
    IsPlain whole unit components lines (slice_set events session (own ++ seen ∷ []))
plain_with_read whole unit components lines events session own at plain =
    let seen : Event =
    Saw (length lines) (length lines) (whole (array_after unit components lines)) in
    let same : length events ≡ length (slice_set events session (own ++ seen ∷ [])) =
    sym (length-set events session (own ++ seen ∷ [])) in
    record {
      few = omega (arith, plain.few);
      sessions = all_below_same (length events) _ lines same plain.sessions;
      each = λ other others found.
          read_at whole unit components lines events session own at plain other others
          (slice_get_after_set events session other (own ++ seen ∷ []) others found);
    }

no_events : {X : Type 0} (n i : ℕ) (own : List X) → slice_get (replicate n []) i ≡ Some own
    → own ≡ []
no_events zero i own at = absurd (cc)
no_events (suc n) zero own at = cc
no_events (suc n) (suc i) own at = no_events n i own at

-- a tree before any event is plain
pub plain_of_none : (whole : List ℕ → ℕ) (unit components sessions : ℕ)
    (events : List (List Event)) → events ≡ replicate sessions [] → length events ≤ components
    → IsPlain whole unit components [] events
plain_of_none whole unit components sessions events none few = record {
  few = few;
  sessions = tt;
  each = λ session own at.
      let empty : own ≡ [] = no_events sessions session own (rw none at at) in
      rw empty (record { each_once = refl; reads = tt; stamps = tt }, tt);
}
