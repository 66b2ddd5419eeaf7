use Rattle.std.proofs.Common.{map, max, ap, ◌∙◌}
use Rattle.fold_law.specs.Sum.{sum_of}
use Rattle.trail_replay.specs.Histories.{history_of, places_of}
use Rattle.gate_program.proofs.Replays.{HistoryLaws, LeavesLaw, are_histories, joined_both}
use Rattle.gate_program.proofs.Replays.{histories_told, told_alike}
use Rattle.gate_program.proofs.replay.journal_of.Goals as goal

pub returns-clause-histories : goal.returns-clause-histories
returns-clause-histories g c trees left =
    let sums = c.args.records.now.sums in
    let halts = c.args.records.now.halts in
    let lines = joined_both (history_of sums) (history_of halts) trees
    sums.shape.trees halts.shape.trees _ _ _ (ap (map _) c.new.ensures.items)
    c.in_ok-add_histories.ensures.lines c.in_ok-add_histories-2.ensures.lines left.sum_trees
    left.halt_trees in
    let places = joined_both (places_of sums) (places_of halts) trees
    sums.shape.trees halts.shape.trees _ _ _ (ap (map _) c.new-2.ensures.items)
    c.in_ok-add_histories.ensures.places c.in_ok-add_histories-2.ensures.places left.sum_trees
    left.halt_trees in
    let sum_laws : HistoryLaws sum_of = record {
      legal = c.histories_are_legal_by_places.ensures;
      few = c.histories_have_totals.ensures.few;
      leaves = c.histories_have_totals.ensures.leaves;
    } in
    let halt_laws : HistoryLaws max = record {
      legal = c.histories_are_legal_by_places-2.ensures;
      few = c.histories_have_totals-2.ensures.few;
      leaves = c.histories_have_totals-2.ensures.leaves;
    } in
    let leaves_law : LeavesLaw = record { leaves = c.components_are_leaves.ensures } in
    histories_told trees _ _ _ _ _ _ (ap (map _) c.deref.ensures.value ∙ places)
    c.in_ok-acts.ensures lines
    (are_histories trees c.args.records.now _ left sum_laws halt_laws leaves_law)

pub returns-clause-acts : goal.returns-clause-acts
returns-clause-acts g c = told_alike _ _ _ c.in_ok-acts.ensures
