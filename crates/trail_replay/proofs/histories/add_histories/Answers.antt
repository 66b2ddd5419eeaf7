use Rattle.trail_replay.proofs.ReplayedTrees.{lines_added, places_added}
use Rattle.trail_replay.proofs.histories.add_histories.Goals as goal

pub returns-clause-lines : goal.returns-clause-lines
returns-clause-lines g c =
    lines_added c.args.taken.now c.add_all.result _ _ c.args.taken.now.shape.trees
    c.in_ok-done.done.items c.in_ok-done.ensures c.add_all.ensures.whole c.add_all.ensures.lines

pub returns-clause-places : goal.returns-clause-places
returns-clause-places g c =
    places_added c.args.taken.now c.add_all.result _ _ c.args.taken.now.shape.trees
    c.in_ok-done.done.items c.in_ok-done.ensures c.add_all.ensures.whole c.add_all.ensures.places
