use Rattle.trail_replay.proofs.BlockSteps.{root_stamp}
use Rattle.trail_replay.proofs.prepared.last_of.Goals as goal

pub returns : goal.returns
returns c =
    root_stamp c.args.taken.now c.requires.stamped c.args.tree c.requires.tree
    c.index.result.now c.root.result c.stamp_of.result c.stamp_of.ensures.stamp
    c.index.ensures c.root.ensures
