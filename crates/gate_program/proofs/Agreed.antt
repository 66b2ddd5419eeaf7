-- The trees of a journal agree with what it tells of them.
use Rattle.std.proofs.Common.{◌≡◌, ℕ, suc, ◌+◌, ◌≤◌, ◌<◌, ◌&&◌, List, [], ◌∷◌, ◌++◌, length, map, max, refl, sym}
use Rattle.std.proofs.Common.{ap, subst, ◌∙◌, arith, Bool, true, false, length-append}
use Rattle.std.proofs.lemmas.List.{length-map}
use Rattle.std.proofs.lemmas.Option.{slice_get_within}
use Rattle.std.specs.Prelude.{Option, Some, None, slice_get, ◌↔◌}
use Rattle.std.specs.List.{AllByRecursion, list_all, flat_map, enumerate_from}
use Rattle.admit_core.specs.Admitted.{StaysWithin}
use Rattle.fold_law.specs.Sum.{sum_of}
use Rattle.fold_law.specs.Whole.{whole_of}
use Rattle.fold_law.specs.declared.limits.TheConstants.{LEAF, SESSIONS}
use Rattle.limit_table.specs.Trees.{fold_of, halt_tree, limit_of}
use Rattle.limit_table.specs.declared.limits.Limits.{Limits}
use Rattle.risk_board.proofs.Doublings.{components_are_few}
use Rattle.risk_board.specs.History.{Event, IsLegal, components_of}
use Rattle.risk_board.specs.History.Event.{Posted, Saw}
use Rattle.risk_board.specs.declared.hand.Line.{Line}
use Rattle.risk_journal.specs.ActLists.{events_of}
use Rattle.risk_journal.specs.declared.acts.Act.{Act}
use Rattle.trail_replay.proofs.BlockLaws.{all-append}
use Rattle.trail_replay.specs.Arrays.{AreLines}
use Rattle.tree_check.specs.Agreeing.{CanBeChecked, stays_if, tree_agrees}
use Rattle.tree_check.specs.Reads.{AreOf, own_reads, reads_in}
use Rattle.tree_check.specs.Staying.{IsOwn, stays_along}
use Rattle.tree_check.specs.Walked.{are_walked}
use Rattle.tree_check.specs.declared.agreeing.ToldTree.{ToldTree}
use Rattle.tree_check.specs.declared.read_at.ReadAt.{ReadAt}
use Rattle.gate_program.specs.Agreeing.{AreTold, CanBeTold, IsTold}
use Rattle.gate_files.proofs.Lists.{behind, there_still}
use Rattle.gate_program.proofs.Histories.{fold_below, fold_halt, no_halt_limit}

-- what is known of reads in a legal history under a fold
pub record WalkLaw (join : ℕ → ℕ → ℕ) : Type 0 where
  pub walked : (components : ℕ) (lines : List Line) (events : List (List Event))
      → components ≤ SESSIONS → AreLines LEAF lines
      → IsLegal (whole_of join 0) 0 components lines events
      → are_walked join 0 lines (reads_in events) ≡ true

-- what is known of what is admitted in one
pub record StayLaw : Type 0 where
  pub same : (limit : ℕ) (lines : List Line) (events : List (List Event))
      → (stays_along limit (length events) lines (reads_in events) ≡ true)
      ↔ StaysWithin limit (length events) lines events
  pub within : (limit components : ℕ) (lines : List Line) (events : List (List Event))
      → IsLegal (whole_of sum_of 0) 0 components lines events
      → StaysWithin limit (length events) lines events

-- the reads of a session are its own
own_are_of : (many session : ℕ) (events : List Event) → session < many
    → AreOf many (own_reads session events)
own_are_of many session [] below = tt
own_are_of many session (Posted value ∷ events) below = own_are_of many session events below
own_are_of many session (Saw stamp place value ∷ events) below =
    (below, own_are_of many session events below)

reads_from : (many first : ℕ) (events : List (List Event)) → first + length events ≤ many
    → AreOf many (flat_map (λ own. own_reads own.0 own.1) (enumerate_from first events))
reads_from many first [] few = tt
reads_from many first (own ∷ events) few =
    all-append (λ read. read.session < many) (own_reads first own) _
    (own_are_of many first own (omega (arith, few)))
    (reads_from many (first + 1) events (omega (arith, few)))

-- each line is of a session, with a leaf value
lines_are_own : (many : ℕ) (lines : List Line) → AllByRecursion (λ line. line.session < many) lines
    → AreLines LEAF lines → AllByRecursion (IsOwn many) lines
lines_are_own many [] sessions lines = tt
lines_are_own many (line ∷ rest) (session, sessions) (one, lines) =
    (record { session = session; value = one.1 }, lines_are_own many rest sessions lines)

both_true : (a b : Bool) → a ≡ true → b ≡ true → (a && b) ≡ true
both_true true true one two = refl
both_true false b one two = absurd cc
both_true true false one two = absurd cc

-- what holds of each of a list by its place
pub all_by_place : {X : Type 0} (P : X → Type 0) (xs : List X)
    → ((place : ℕ) (x : X) → slice_get xs place ≡ Some x → P x) → AllByRecursion P xs
all_by_place P [] each = tt
all_by_place P (x ∷ xs) each = (each 0 x refl, all_by_place P xs (λ place y at. each (suc place) y at))

pub all_yes : {X : Type 0} (p : X → Bool) (xs : List X)
    → ((place : ℕ) (x : X) → slice_get xs place ≡ Some x → p x ≡ true) → list_all p xs ≡ true
all_yes p [] each = refl
all_yes p (x ∷ xs) each =
    both_true (p x) (list_all p xs) (each 0 x refl)
    (all_yes p xs (λ place y at. each (suc place) y at))

module _ (limits : Limits) (acts : List (List Act)) (lines : List (List Line))
    (told : CanBeTold limits acts lines) (tree : ℕ) (own : ToldTree)
    (is : IsTold limits acts lines tree own) where
  abbrev history : List Line
  history = own.history.lines.items

  abbrev events : List (List Event)
  events = map (events_of tree) acts

  many : length events ≡ length acts
  many = length-map acts (events_of tree)

  -- it can be checked
  pub can_be_checked : CanBeChecked LEAF (length acts) own
  can_be_checked =
      let total = told.totals tree history is.lines_are in
      record {
        lines = total.lines;
        own = lines_are_own (length acts) history total.sessions total.lines;
        reads = subst (λ (reads : List ReadAt). AreOf (length acts) reads) (sym is.reads_are)
            (reads_from (length acts) 0 events (omega (arith, many)));
        few = total.few;
        most = told.few;
      }

  walked : (join : ℕ → ℕ → ℕ) → WalkLaw join
      → IsLegal (whole_of join 0) 0 (components_of (length acts)) history events
      → are_walked join 0 history own.reads.items ≡ true
  walked join law legal =
      ap (are_walked join 0 history) is.reads_are
      ∙ law.walked (components_of (length acts)) history events
      (components_are_few (length acts) told.few) (told.totals tree history is.lines_are).lines legal

  stays : StayLaw → (limit : Option ℕ)
      → IsLegal (whole_of sum_of 0) 0 (components_of (length acts)) history events
      → stays_if limit (length acts) history own.reads.items ≡ true
  stays law None legal = refl
  stays law (Some limit) legal =
      ap (stays_along limit (length acts) history) is.reads_are
      ∙ ap (λ n. stays_along limit n history (reads_in events)) (sym many)
      ∙ (law.same limit history events).1
      (law.within limit (components_of (length acts)) history events legal)

  -- a tree of sums agrees
  pub sums_agree : WalkLaw sum_of → StayLaw → tree < halt_tree limits
      → tree_agrees sum_of 0 (length acts) own ≡ true
  sums_agree law stay below =
      let legal = subst (λ (whole : List ℕ → ℕ). IsLegal whole 0 (components_of (length acts))
      history events) (fold_below limits tree below) (told.legal.legal tree history is.lines_are) in
      both_true _ _ (walked sum_of law legal) (stays stay own.limit legal)

  -- and so does the halt tree
  pub halt_agrees : WalkLaw max → tree ≡ halt_tree limits
      → tree_agrees max 0 (length acts) own ≡ true
  halt_agrees law same =
      let legal = subst (λ (whole : List ℕ → ℕ). IsLegal whole 0 (components_of (length acts))
      history events) (ap (fold_of limits) same ∙ fold_halt limits)
      (told.legal.legal tree history is.lines_are) in
      both_true _ _ (walked max law legal)
      (ap (λ (limit : Option ℕ). stays_if limit (length acts) history own.reads.items)
      (is.limit_is ∙ ap (limit_of limits) same ∙ no_halt_limit limits))

-- the trees, of which the halt tree is the last
module _ (limits : Limits) (acts : List (List Act)) (lines : List (List Line))
    (told : CanBeTold limits acts lines) (all sums halts : List ToldTree)
    (are : AreTold limits acts lines all) (many : length all ≡ length lines)
    (split : all ≡ sums ++ halts) (one : length halts ≡ 1) where
  sums_many : length sums ≡ halt_tree limits
  sums_many = omega (
    arith,
    ap length split,
    length-append sums halts,
    many,
    told.legal.count,
    one,
  )

  sum_is : (place : ℕ) (own : ToldTree) → slice_get sums place ≡ Some own
      → IsTold limits acts lines place own
  sum_is place own at =
      are place own (ap (λ (l : List ToldTree). slice_get l place) split
      ∙ there_still sums halts place own at)

  halt_is : (place : ℕ) (own : ToldTree) → slice_get halts place ≡ Some own
      → IsTold limits acts lines (length sums + place) own
  halt_is place own at =
      are (length sums + place) own
      (ap (λ (l : List ToldTree). slice_get l (length sums + place)) split
      ∙ behind sums halts place ∙ at)

  pub sums_can : (n : ℕ) → n ≡ length acts → AllByRecursion (CanBeChecked LEAF n) sums
  sums_can n same = subst (λ (m : ℕ). AllByRecursion (CanBeChecked LEAF m) sums) (sym same)
      (all_by_place (CanBeChecked LEAF (length acts)) sums (λ place own at.
      can_be_checked limits acts lines told place own (sum_is place own at)))

  pub halts_can : (n : ℕ) → n ≡ length acts → AllByRecursion (CanBeChecked LEAF n) halts
  halts_can n same = subst (λ (m : ℕ). AllByRecursion (CanBeChecked LEAF m) halts) (sym same)
      (all_by_place (CanBeChecked LEAF (length acts)) halts (λ place own at.
      can_be_checked limits acts lines told (length sums + place) own (halt_is place own at)))

  pub sums_yes : WalkLaw sum_of → StayLaw → (n : ℕ) → n ≡ length acts
      → list_all (tree_agrees sum_of 0 n) sums ≡ true
  sums_yes law stay n same = subst (λ (m : ℕ). list_all (tree_agrees sum_of 0 m) sums ≡ true)
      (sym same)
      (all_yes (tree_agrees sum_of 0 (length acts)) sums (λ place own at.
      sums_agree limits acts lines told place own (sum_is place own at) law stay
      (omega (arith, slice_get_within sums place own at, sums_many))))

  pub halts_yes : WalkLaw max → (n : ℕ) → n ≡ length acts
      → list_all (tree_agrees max 0 n) halts ≡ true
  halts_yes law n same = subst (λ (m : ℕ). list_all (tree_agrees max 0 m) halts ≡ true)
      (sym same)
      (all_yes (tree_agrees max 0 (length acts)) halts (λ place own at.
      halt_agrees limits acts lines told (length sums + place) own (halt_is place own at) law
      (omega (arith, slice_get_within halts place own at, one, sums_many))))
