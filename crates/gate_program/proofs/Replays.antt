-- The lines of a replay and the acts with places are one legal history in each tree, and have totals.
use Rattle.std.proofs.Common.{◌≡◌, ℕ, zero, suc, ◌+◌, ◌^◌, ◌<◌, ◌≤◌, List, [], ◌∷◌, ◌++◌}
use Rattle.std.proofs.Common.{length, map, max, get_or, length-append}
use Rattle.std.proofs.Common.{refl, sym, ap, ◌∙◌, subst, arith, inl, inr}
use Rattle.std.proofs.lemmas.List.{length-map, get_or_append_left, get_or-append-add}
use Rattle.std.proofs.lemmas.Bool.{cases_lt}
use Rattle.std.proofs.lemmas.Option.{unwrap_or-slice_get, slice_get_within}
use Rattle.std.specs.Prelude.{Some, slice_get, slice_index, unwrap_or, All}
use Rattle.std.specs.List.{AllByRecursion}
use Rattle.fold_law.specs.Sum.{sum_of}
use Rattle.fold_law.specs.Whole.{whole_of}
use Rattle.risk_board.specs.declared.hand.Call.{Call}
use Rattle.risk_board.specs.declared.hand.Line.{Line}
use Rattle.risk_board.specs.History.{Event, IsLegal, array_after, components_of}
use Rattle.risk_board.specs.History.{events_of_calls}
use Rattle.risk_journal.specs.declared.acts.Act.{Act}
use Rattle.risk_journal.specs.ActLists.{calls_below, calls_at, events_of, placed_by, place_in}
use Rattle.risk_journal.specs.ActLists.{unplaced}
use Rattle.risk_journal.proofs.PlacedActs.{alike}
use Rattle.limit_table.specs.declared.limits.Limits.{Limits}
use Rattle.limit_table.specs.Trees.{halt_tree}
use Rattle.node_rule.specs.declared.view.Plan.{Plan}
use Rattle.f_array.specs.Passes.{PassValue}
use Rattle.f_array.specs.declared.record.Record.{Record}
use Rattle.f_array.specs.Records.{Did, did_of}
use Rattle.trail_replay.specs.Histories.{history_of, places_of, AreLegalIn}
use Rattle.trail_replay.specs.Reads.{list_below}
use Rattle.trail_replay.proofs.PreparedTables.{get_or-list_below}
use Rattle.stamp_word.specs.Places.{IsLeast}
use Rattle.risk_journal.proofs.PlacedEvents.{events_below, events_at}
use Rattle.trail_replay.specs.Arrays.{AreLines}
use Rattle.trail_replay.specs.Fronts.{IsLawful, last_stamp}
use Rattle.trail_replay.proofs.Walkable.{walkable}
use Rattle.fold_law.specs.declared.limits.TheConstants.{LEAF}
use Rattle.gate_program.specs.declared.forests.Forests.{Forests}
use Rattle.gate_program.specs.declared.forests.Passes.{Passes}
use Rattle.gate_program.specs.declared.forests.Records.{Records}
use Rattle.gate_program.specs.Forests.{HaveClosed, HaveLeft, HaveRun}
use Rattle.gate_program.specs.Histories.{AreHistories}
use Rattle.gate_program.specs.Totals.{HasTotal, HaveTotals}

length-list_below : {A : Type 0} (f : ℕ → A) (n : ℕ) → length (list_below f n) ≡ n
length-list_below f zero = refl
length-list_below f (suc n) =
    let rest = length-list_below f n in
    omega (arith, length-append (list_below f n) (f n ∷ []))

-- of the lists for so many trees and one more, that of a tree and that of the one behind
module _ {A : Type 0} (f g : ℕ → A) (trees : ℕ) where
  abbrev pub both : List A
  both = list_below f trees ++ list_below g 1

  pub in_first : (tree : ℕ) (d : A) → tree < trees → get_or both tree d ≡ f tree
  in_first tree d below =
      get_or_append_left (list_below f trees) (list_below g 1) d tree
      (omega (arith, length-list_below f trees, below))
      ∙ get_or-list_below f trees tree d below

  pub in_last : (d : A) → get_or both trees d ≡ g 0
  in_last d =
      let at : length (list_below f trees) + 0 ≡ trees = omega (arith, length-list_below f trees) in
      subst (λ n. get_or both n d ≡ g 0) at
      (get_or-append-add (list_below f trees) (list_below g 1) 0 d)

  pub count_both : length both ≡ trees + 1
  count_both = omega (
    arith,
    length-append (list_below f trees) (list_below g 1),
    length-list_below f trees,
    length-list_below g 1,
  )

-- the lists are these, so what stands at a place does
stands : {A : Type 0} (xs : List A) (k : ℕ) (x y : A) → slice_get xs k ≡ Some x
    → get_or xs k x ≡ y → x ≡ y
stands xs k x y is at =
    ap (λ o. unwrap_or o x) (sym is) ∙ unwrap_or-slice_get xs k x ∙ at

-- the events of a tree by the calls of the passes are those by the acts
same_events : (place at : ℕ → ℕ) (tree : ℕ) (passes : List Did) (pick : List Act → List Call)
    (own : List Act → List Event) (acts : List (List Act))
    → map (λ did. did.calls) passes ≡ map pick acts
    → ((stamp : ℕ) → at stamp ≡ place stamp)
    → ((one : List Act) → events_of_calls place tree (pick one) ≡ own one)
    → map (λ (did : Did). events_of_calls at tree did.calls) passes ≡ map own acts
same_events place at tree passes pick own acts calls same each =
    split passes
    ∙ ap (map (events_of_calls at tree)) calls
    ∙ each_of acts
  where
    at_is : at ≡ place
    at_is = λ i stamp. same stamp i

    split : (all : List Did) → map (λ (did : Did). events_of_calls at tree did.calls) all
        ≡ map (events_of_calls at tree) (map (λ (did : Did). did.calls) all)
    split [] = refl
    split (did ∷ all) = ap (λ more. events_of_calls at tree did.calls ∷ more) (split all)

    each_of : (all : List (List Act)) → map (events_of_calls at tree) (map pick all) ≡ map own all
    each_of [] = refl
    each_of (one ∷ all) =
        ap (λ e. e ∷ map (events_of_calls at tree) (map pick all))
        (ap (λ p. events_of_calls p tree (pick one)) at_is ∙ each one)
        ∙ ap (λ more. own one ∷ more) (each_of all)

-- the same of acts that are placed
placed_twice : (f : Act → Act) (own : List Act → List Event) (acts : List (List Act))
    → map own (map (map f) acts) ≡ map (λ one. own (map f one)) acts
placed_twice f own [] = refl
placed_twice f own (one ∷ acts) = ap (λ more. own (map f one) ∷ more) (placed_twice f own acts)

-- What is known of the histories of a lawful record: each tree's lines and places are legal, a `u32`
-- counts its lines, and the arrays behind them have leaf values alone.
pub record HistoryLaws (join : ℕ → ℕ → ℕ) : Type 0 where
  pub legal : (taken : Record) (tree : ℕ) → IsLawful 0 LEAF join taken → tree < taken.shape.trees
      → AreLegalIn join 0 taken tree (history_of taken tree) (places_of taken tree)
  pub few : (taken : Record) (tree : ℕ) → IsLawful 0 LEAF join taken → tree < taken.shape.trees
      → length (history_of taken tree) < 2 ^ 32
  pub leaves : (taken : Record) (tree components : ℕ) → IsLawful 0 LEAF join taken → 0 ≤ LEAF
      → All (λ value. value ≤ LEAF) (array_after 0 components (history_of taken tree))

-- the leaves of the least tree are as many as the components
pub record LeavesLaw : Type 0 where
  pub leaves : (sessions levels : ℕ) → 1 ≤ sessions → IsLeast sessions levels
      → 2 ^ levels ≡ components_of sessions

module _ (trees : ℕ) (records : Records) (acts : List (List Act))
    (left : HaveLeft trees records acts) (sum_laws : HistoryLaws sum_of) (halt_laws : HistoryLaws max)
    (leaves_law : LeavesLaw) where
  abbrev sums : Record
  sums = records.sums

  abbrev halts : Record
  halts = records.halts

  abbrev lines : List (List Line)
  lines = both (history_of sums) (history_of halts) trees

  abbrev places : List (List ℕ)
  places = both (places_of sums) (places_of halts) trees

  abbrev placed : List (List Act)
  placed = map (map (placed_by (place_in places))) acts

  many : length placed ≡ length acts
  many = length-map acts (map (placed_by (place_in places)))

  sum_at : (tree : ℕ) → tree < trees → (stamp : ℕ)
      → slice_index (places_of sums tree) stamp ≡ place_in places tree stamp
  sum_at tree below stamp = ap (λ own. slice_index own stamp)
      (sym (in_first (places_of sums) (places_of halts) trees tree [] below))

  halt_at : (stamp : ℕ) → slice_index (places_of halts 0) stamp ≡ place_in places trees stamp
  halt_at stamp = ap (λ own. slice_index own stamp)
      (sym (in_last (places_of sums) (places_of halts) trees []))

  sum_events : (tree : ℕ) → tree < trees
      → map (λ (did : Did). events_of_calls (λ stamp. slice_index (places_of sums tree) stamp) tree
      did.calls) sums.passes.items ≡ map (events_of tree) placed
  sum_events tree below =
      same_events (place_in places tree) _ tree sums.passes.items (calls_below trees)
      (λ one. events_of tree (map (placed_by (place_in places)) one)) acts left.calls
      (sum_at tree below) (λ one. events_below (place_in places) trees tree one below)
      ∙ sym (placed_twice (placed_by (place_in places)) (events_of tree) acts)

  halt_events : map (λ (did : Did). events_of_calls (λ stamp. slice_index (places_of halts 0) stamp)
      0 did.calls) halts.passes.items ≡ map (events_of trees) placed
  halt_events =
      same_events (place_in places trees) _ 0 halts.passes.items (calls_at trees)
      (λ one. events_of trees (map (placed_by (place_in places)) one)) acts left.halt_calls
      halt_at (λ one. events_at (place_in places) trees one)
      ∙ sym (placed_twice (placed_by (place_in places)) (events_of trees) acts)

  legal_of : (whole : List ℕ → ℕ) (levels : ℕ) (own is : List Line) (events all : List (List Event))
      → IsLeast (length acts) levels → own ≡ is → events ≡ all
      → IsLegal whole 0 (2 ^ levels) is events
      → IsLegal whole 0 (components_of (length placed)) own all
  legal_of whole levels own is events all least same same_all legal =
      let components : 2 ^ levels ≡ components_of (length placed) =
      leaves_law.leaves (length acts) levels left.some least ∙ ap components_of (sym many) in
      subst (λ n. IsLegal whole 0 n own all) components
      (subst (λ l. IsLegal whole 0 (2 ^ levels) l all) (sym same)
      (subst (IsLegal whole 0 (2 ^ levels) is) same_all legal))

  sum_in : (tree : ℕ) → tree < trees → tree < sums.shape.trees
  sum_in tree below = omega (arith, below, left.sum_trees)

  halt_in : 0 < halts.shape.trees
  halt_in = omega (arith, left.halt_trees)

  sum_is : (tree : ℕ) (own : List Line) → tree < trees → slice_get lines tree ≡ Some own
      → own ≡ history_of sums tree
  sum_is tree own below is =
      stands lines tree own _ is (in_first (history_of sums) (history_of halts) trees tree own below)

  halt_is : (own : List Line) → slice_get lines trees ≡ Some own → own ≡ history_of halts 0
  halt_is own is =
      stands lines trees own _ is (in_last (history_of sums) (history_of halts) trees own)

  sum_legal : (tree : ℕ) (own : List Line) → tree < trees → slice_get lines tree ≡ Some own
      → IsLegal (whole_of sum_of 0) 0 (components_of (length placed)) own
      (map (events_of tree) placed)
  sum_legal tree own below is =
      legal_of (whole_of sum_of 0) sums.shape.levels own (history_of sums tree) _ _ left.levels
      (sum_is tree own below is) (sum_events tree below)
      (sum_laws.legal sums tree left.lawful (sum_in tree below))

  halt_legal : (own : List Line) → slice_get lines trees ≡ Some own
      → IsLegal (whole_of max 0) 0 (components_of (length placed)) own
      (map (events_of trees) placed)
  halt_legal own is =
      legal_of (whole_of max 0) halts.shape.levels own (history_of halts 0) _ _ left.halt_levels
      (halt_is own is) halt_events (halt_laws.legal halts 0 left.halt_lawful halt_in)

  of_sessions : (tree : ℕ) (own : List Line)
      → AllByRecursion (λ line. line.session < length (map (events_of tree) placed)) own
      → AllByRecursion (λ line. line.session < length placed) own
  of_sessions tree own =
      subst (λ (n : ℕ). AllByRecursion (λ line. line.session < n) own)
      (length-map placed (events_of tree))

  total_of : (tree : ℕ) (own is : List Line) → own ≡ is
      → AllByRecursion (λ line. line.session < length (map (events_of tree) placed)) own
      → length is < 2 ^ 32 → AreLines LEAF is
      → All (λ value. value ≤ LEAF) (array_after 0 (components_of (length placed)) is)
      → HasTotal (length placed) own
  total_of tree own is same sessions few lines leaves = record {
    sessions = of_sessions tree own sessions;
    few = subst (λ (l : List Line). length l < 2 ^ 32) (sym same) few;
    lines = subst (λ (l : List Line). AreLines LEAF l) (sym same) lines;
    leaves = subst (λ (l : List Line). All (λ value. value ≤ LEAF)
        (array_after 0 (components_of (length placed)) l)) (sym same) leaves;
  }

  totals : HaveTotals (length placed) lines
  totals tree own is =
      let inside : tree < length lines = slice_get_within lines tree own is in
      elim (cases_lt tree trees) [
        | inl below ↦ total_of tree own (history_of sums tree) (sum_is tree own below is)
            (sum_legal tree own below is).sessions
            (sum_laws.few sums tree left.lawful (sum_in tree below))
            (walkable 0 LEAF sum_of sums tree (last_stamp sums tree) left.lawful)
            (sum_laws.leaves sums tree _ left.lawful (omega arith))
        | inr above ↦ at_halt tree own
            (omega (arith, inside, above, count_both (history_of sums) (history_of halts) trees)) is
      ]
    where
      at_halt : (tree : ℕ) (own : List Line) → tree ≡ trees → slice_get lines tree ≡ Some own
          → HasTotal (length placed) own
      at_halt tree own same is =
          let there : slice_get lines trees ≡ Some own =
          subst (λ (n : ℕ). slice_get lines n ≡ Some own) same is in
          total_of trees own (history_of halts 0) (halt_is own there) (halt_legal own there).sessions
          (halt_laws.few halts 0 left.halt_lawful halt_in)
          (walkable 0 LEAF max halts 0 (last_stamp halts 0) left.halt_lawful)
          (halt_laws.leaves halts 0 _ left.halt_lawful (omega arith))

  pub are_histories : AreHistories trees placed lines
  are_histories = record {
    count = count_both (history_of sums) (history_of halts) trees;
    sums = λ tree own below is. sum_legal tree own below is;
    halt = λ own is. halt_legal own is;
    totals = totals;
  }

-- the lists of one record's trees, and then those of the other's
pub joined_both : {A : Type 0} (f g : ℕ → A) (trees first second : ℕ) (start mid end : List A)
    → start ≡ [] → mid ≡ start ++ list_below f first → end ≡ mid ++ list_below g second
    → first ≡ trees → second ≡ 1 → end ≡ both f g trees
joined_both f g trees first second start mid end none one two as_many alone =
    two
    ∙ ap (λ own. own ++ list_below g second)
    (one ∙ ap (λ own. own ++ list_below f first) none ∙ ap (list_below f) as_many)
    ∙ ap (λ n. list_below f trees ++ list_below g n) alone

-- in the terms of what a replay gives
pub histories_told : (trees : ℕ) (placed acts : List (List Act)) (lines : List (List Line))
    (told places : List (List ℕ)) (own : List (List Line)) → told ≡ places
    → placed ≡ map (map (placed_by (place_in told))) acts → lines ≡ own
    → AreHistories trees (map (map (placed_by (place_in places))) acts) own
    → AreHistories trees placed lines
histories_told trees acts_placed acts lines told places own same are_placed are_lines histories =
    subst (λ all. AreHistories trees all lines)
    (sym (are_placed ∙ ap (λ p. map (map (placed_by (place_in p))) acts) same))
    (subst (AreHistories trees (map (map (placed_by (place_in places))) acts)) (sym are_lines)
    histories)

-- placed acts of all sessions differ in the places of their reads alone
all_alike : (place : ℕ → ℕ → ℕ) (acts : List (List Act))
    → map (map unplaced) (map (map (placed_by place)) acts) ≡ map (map unplaced) acts
all_alike place [] = refl
all_alike place (own ∷ acts) =
    ap (λ (l : List Act). l ∷ map (map unplaced) (map (map (placed_by place)) acts))
    (alike place own)
    ∙ ap (λ (l : List (List Act)). map unplaced own ∷ l) (all_alike place acts)

pub told_alike : (place : ℕ → ℕ → ℕ) (told acts : List (List Act))
    → told ≡ map (map (placed_by place)) acts
    → map (map unplaced) told ≡ map (map unplaced) acts
told_alike place told acts are = ap (map (map unplaced)) are ∙ all_alike place acts

did_calls : (passes : List PassValue)
    → map (λ did. did.calls) (map did_of passes) ≡ map (λ pass. pass.track.calls) passes
did_calls [] = refl
did_calls (pass ∷ passes) =
    ap (λ (l : List (List Call)). pass.track.calls ∷ l) (did_calls passes)

-- sessions that ran over forests that were closed left this
pub have_left : (limits : Limits) (forests : Forests) (passes : Passes) (records : Records)
    (acts : List (List Act)) → HaveRun limits forests passes acts
    → HaveClosed forests passes records → HaveLeft (halt_tree limits) records acts
have_left limits forests passes records acts run closed = record {
  some = run.some;
  lawful = closed.sums.lawful;
  halt_lawful = closed.halts.lawful;
  sum_trees = closed.sums.trees ∙ ap (λ (p : Plan). p.trees) run.opened.sums.plan;
  halt_trees = closed.halts.trees ∙ ap (λ (p : Plan). p.trees) run.opened.halts.plan;
  levels = subst (λ (l : ℕ). IsLeast (length acts) l)
      (sym (closed.sums.levels ∙ ap (λ (p : Plan). p.levels) run.opened.sums.plan))
      run.opened.sums.least;
  halt_levels = subst (λ (l : ℕ). IsLeast (length acts) l)
      (sym (closed.halts.levels ∙ ap (λ (p : Plan). p.levels) run.opened.halts.plan))
      run.opened.halts.least;
  calls = ap (map (λ did. did.calls)) closed.sums.passes_are ∙ did_calls passes.sums.items
      ∙ run.called.sums;
  halt_calls = ap (map (λ did. did.calls)) closed.halts.passes_are ∙ did_calls passes.halts.items
      ∙ run.called.halts;
}
