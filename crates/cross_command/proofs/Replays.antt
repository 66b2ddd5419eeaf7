-- The lines of a replay and the acts with places are one legal history in each tree.
use Rattle.std.proofs.Common.{◌≡◌, ℕ, zero, suc, ◌^◌, ◌<◌, ◌≤◌, List, [], ◌∷◌, ◌++◌}
use Rattle.std.proofs.Common.{length, map, get_or, length-append}
use Rattle.std.proofs.Common.{refl, sym, ap, ◌∙◌, subst, arith}
use Rattle.std.proofs.lemmas.List.{length-map}
use Rattle.std.proofs.lemmas.Option.{unwrap_or-slice_get, slice_get_within}
use Rattle.std.specs.Prelude.{Some, slice_get, slice_index, unwrap_or}
use Rattle.fold_law.specs.Whole.{whole_of}
use Rattle.limit_table.specs.declared.limits.Limits.{Limits}
use Rattle.risk_board.specs.declared.hand.Call.{Call}
use Rattle.risk_board.specs.declared.hand.Line.{Line}
use Rattle.risk_board.specs.History.{Event, IsLegal, components_of, events_of_calls}
use Rattle.risk_journal.specs.declared.acts.Act.{Act}
use Rattle.risk_journal.specs.ActLists.{calls_of, events_of, placed_by, place_in}
use Rattle.stamp_word.specs.Places.{IsLeast}
use Rattle.node_rule.specs.declared.view.Plan.{Plan}
use Rattle.f_array.specs.Passes.{PassValue}
use Rattle.f_array.specs.declared.record.Record.{Record}
use Rattle.f_array.specs.Records.{Did, did_of}
use Rattle.trail_replay.specs.Fronts.{IsLawful}
use Rattle.trail_replay.specs.Histories.{history_of, places_of, AreLegalIn}
use Rattle.trail_replay.specs.Reads.{list_below}
use Rattle.trail_replay.proofs.PreparedTables.{get_or-list_below}
use Rattle.cross_guard.specs.Halves.{cross_cap, cross_join}
use Rattle.cross_guard.specs.Told.{cross_trees}
use Rattle.cross_command.specs.declared.forest.CrossForest.{CrossForest}
use Rattle.cross_command.specs.Finish.{ArePlaced, all_with_places}
use Rattle.cross_command.specs.Forest.{HasClosed, HaveCalled, HaveLeft}
use Rattle.cross_command.specs.Replayed.{AreHistories}
use Rattle.cross_command.proofs.PlacedCalls.{events_all}

length-list_below : {A : Type 0} (f : ℕ → A) (n : ℕ) → length (list_below f n) ≡ n
length-list_below f zero = refl
length-list_below f (suc n) =
    let rest = length-list_below f n in
    omega (arith, length-append (list_below f n) (f n ∷ []))

-- the lists are these, so what stands at a place does
stands : {A : Type 0} (xs : List A) (k : ℕ) (x y : A) → slice_get xs k ≡ Some x
    → get_or xs k x ≡ y → x ≡ y
stands xs k x y is at =
    ap (λ o. unwrap_or o x) (sym is) ∙ unwrap_or-slice_get xs k x ∙ at

-- the events of a tree by the calls of the passes are those by the acts
same_events : (place at : ℕ → ℕ) (tree : ℕ) (passes : List Did)
    (own : List Act → List Event) (acts : List (List Act))
    → map (λ did. did.calls) passes ≡ map calls_of acts
    → ((stamp : ℕ) → at stamp ≡ place stamp)
    → ((one : List Act) → events_of_calls place tree (calls_of one) ≡ own one)
    → map (λ (did : Did). events_of_calls at tree did.calls) passes ≡ map own acts
same_events place at tree passes own acts calls same each =
    split passes
    ∙ ap (map (events_of_calls at tree)) calls
    ∙ each_of acts
  where
    at_is : at ≡ place
    at_is = λ i stamp. same stamp i

    split : (all : List Did) → map (λ (did : Did). events_of_calls at tree did.calls) all
        ≡ map (events_of_calls at tree) (map (λ (did : Did). did.calls) all)
    split [] = refl
    split (did ∷ all) = ap (λ more. events_of_calls at tree did.calls ∷ more) (split all)

    each_of : (all : List (List Act)) → map (events_of_calls at tree) (map calls_of all)
        ≡ map own all
    each_of [] = refl
    each_of (one ∷ all) =
        ap (λ e. e ∷ map (events_of_calls at tree) (map calls_of all))
        (ap (λ p. events_of_calls p tree (calls_of one)) at_is ∙ each one)
        ∙ ap (λ more. own one ∷ more) (each_of all)

-- the same of acts that are placed
placed_twice : (f : Act → Act) (own : List Act → List Event) (acts : List (List Act))
    → map own (map (map f) acts) ≡ map (λ one. own (map f one)) acts
placed_twice f own [] = refl
placed_twice f own (one ∷ acts) = ap (λ more. own (map f one) ∷ more) (placed_twice f own acts)

-- What is known of the histories of a lawful record: each tree's lines and places are legal, and
-- the leaves of the least tree are as many as the components.
pub record HistoryLaws : Type 0 where
  pub legal : (taken : Record) (tree : ℕ) → IsLawful 0 cross_cap cross_join taken
      → tree < taken.shape.trees
      → AreLegalIn cross_join 0 taken tree (history_of taken tree) (places_of taken tree)
  pub leaves : (sessions levels : ℕ) → 1 ≤ sessions → IsLeast sessions levels
      → 2 ^ levels ≡ components_of sessions

module _ (trees : ℕ) (taken : Record) (acts : List (List Act)) (left : HaveLeft trees taken acts)
    (laws : HistoryLaws) where
  abbrev lines : List (List Line)
  lines = list_below (history_of taken) taken.shape.trees

  abbrev places : List (List ℕ)
  places = list_below (places_of taken) taken.shape.trees

  abbrev placed : List (List Act)
  placed = all_with_places (place_in places) acts

  many : length placed ≡ length acts
  many = length-map acts (map (placed_by (place_in places)))

  place_at : (tree : ℕ) → tree < taken.shape.trees → (stamp : ℕ)
      → slice_index (places_of taken tree) stamp ≡ place_in places tree stamp
  place_at tree below stamp = ap (λ own. slice_index own stamp)
      (sym (get_or-list_below (places_of taken) taken.shape.trees tree [] below))

  tree_events : (tree : ℕ) → tree < taken.shape.trees
      → map (λ (did : Did). events_of_calls (λ stamp. slice_index (places_of taken tree) stamp) tree
      did.calls) taken.passes.items ≡ map (events_of tree) placed
  tree_events tree below =
      same_events (place_in places tree) _ tree taken.passes.items
      (λ one. events_of tree (map (placed_by (place_in places)) one)) acts left.calls
      (place_at tree below) (λ one. events_all (place_in places) tree one)
      ∙ sym (placed_twice (placed_by (place_in places)) (events_of tree) acts)

  legal_of : (own is : List Line) (events all : List (List Event)) → own ≡ is → events ≡ all
      → IsLegal (whole_of cross_join 0) 0 (2 ^ taken.shape.levels) is events
      → IsLegal (whole_of cross_join 0) 0 (components_of (length placed)) own all
  legal_of own is events all same same_all legal =
      let components : 2 ^ taken.shape.levels ≡ components_of (length placed) =
      laws.leaves (length acts) taken.shape.levels left.some left.levels
      ∙ ap components_of (sym many) in
      subst (λ n. IsLegal (whole_of cross_join 0) 0 n own all) components
      (subst (λ l. IsLegal (whole_of cross_join 0) 0 (2 ^ taken.shape.levels) l all) (sym same)
      (subst (IsLegal (whole_of cross_join 0) 0 (2 ^ taken.shape.levels) is) same_all legal))

  inside : (tree : ℕ) (own : List Line) → slice_get lines tree ≡ Some own → tree < taken.shape.trees
  inside tree own is = omega (
    arith,
    slice_get_within lines tree own is,
    length-list_below (history_of taken) taken.shape.trees,
  )

  tree_legal : (tree : ℕ) (own : List Line) → slice_get lines tree ≡ Some own
      → IsLegal (whole_of cross_join 0) 0 (components_of (length placed)) own
      (map (events_of tree) placed)
  tree_legal tree own is =
      let below = inside tree own is in
      legal_of own (history_of taken tree) _ _
      (stands lines tree own _ is
      (get_or-list_below (history_of taken) taken.shape.trees tree own below))
      (tree_events tree below) (laws.legal taken tree left.lawful below)

  pub are_histories : AreHistories trees acts placed lines
  are_histories = record {
    place = place_in places;
    placed_are = refl;
    count = length-list_below (history_of taken) taken.shape.trees ∙ left.trees_are;
    legal = tree_legal;
  }

-- the lists of a record's trees, behind none
pub behind_none : {A : Type 0} (f : ℕ → A) (trees : ℕ) (start end : List A)
    → start ≡ [] → end ≡ start ++ list_below f trees → end ≡ list_below f trees
behind_none f trees start end none is = is ∙ ap (λ own. own ++ list_below f trees) none

-- in the terms of what a replay gives
pub histories_told : (trees : ℕ) (now acts : List (List Act)) (rows : List (List Line))
    (told known : List (List ℕ)) (own : List (List Line)) → told ≡ known
    → now ≡ map (map (placed_by (place_in told))) acts → rows ≡ own
    → AreHistories trees acts (map (map (placed_by (place_in known))) acts) own
    → AreHistories trees acts now rows
histories_told trees now acts rows told known own same are_placed are_lines histories =
    subst (λ all. AreHistories trees acts all rows)
    (sym (are_placed ∙ ap (λ p. map (map (placed_by (place_in p))) acts) same))
    (subst (AreHistories trees acts (map (map (placed_by (place_in known))) acts)) (sym are_lines)
    histories)

did_calls : (passes : List PassValue)
    → map (λ did. did.calls) (map did_of passes) ≡ map (λ pass. pass.track.calls) passes
did_calls [] = refl
did_calls (pass ∷ passes) =
    ap (λ (l : List (List Call)). pass.track.calls ∷ l) (did_calls passes)

-- sessions that ran over a forest that was closed left this
pub have_left : (limits : Limits) (forest : CrossForest) (passes : List PassValue) (taken : Record)
    (acts : List (List Act)) → HaveCalled limits forest passes acts
    → HasClosed forest.trees.plan passes taken → HaveLeft (cross_trees limits) taken acts
have_left limits forest passes taken acts ran closed = record {
  some = ran.some;
  lawful = closed.lawful;
  trees_are = closed.trees ∙ ap (λ (p : Plan). p.trees) ran.opened.trees.plan;
  levels = subst (λ (l : ℕ). IsLeast (length acts) l)
      (sym (closed.levels ∙ ap (λ (p : Plan). p.levels) ran.opened.trees.plan))
      ran.opened.trees.least;
  calls = ap (map (λ did. did.calls)) closed.passes_are ∙ did_calls passes ∙ ran.called;
}

-- the histories of the limits' trees
pub are_placed : (limits : Limits) (acts now : List (List Act)) (rows : List (List Line))
    → AreHistories (cross_trees limits) acts now rows → ArePlaced limits acts now rows
are_placed limits acts now rows own = record {
  place = own.place;
  placed_are = own.placed_are;
  legal = record { count = own.count; legal = own.legal };
}
