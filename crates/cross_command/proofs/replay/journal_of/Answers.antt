use Rattle.std.proofs.Common.{map, ap, ◌∙◌}
use Rattle.trail_replay.specs.Histories.{history_of, places_of}
use Rattle.cross_command.proofs.Replays.{HistoryLaws, are_histories, behind_none, histories_told}
use Rattle.cross_command.proofs.replay.journal_of.Goals as goal

pub returns : goal.returns
returns g c = λ trees left.
    let taken = c.args.taken.now in
    let lines = behind_none (history_of taken) taken.shape.trees _ _
    (ap (map _) c.new.ensures.items) c.in_ok-add_histories.ensures.lines in
    let places = behind_none (places_of taken) taken.shape.trees _ _
    (ap (map _) c.new-2.ensures.items) c.in_ok-add_histories.ensures.places in
    let laws : HistoryLaws = record {
      legal = c.histories_are_legal_by_places.ensures;
      leaves = c.components_are_leaves.ensures;
    } in
    histories_told trees _ _ _ _ _ _ (ap (map _) c.deref.ensures.value ∙ places)
    c.in_ok-acts.ensures lines (are_histories trees taken _ left laws)
