use Rattle.fold_law.specs.declared.limits.TheConstants.{LEAF}
use Rattle.fold_law.specs.Sum.{sum_of}
use Rattle.trail_replay.proofs.ClosedRecords.{closed_is_lawful}
use Rattle.tree_tests.proofs.replay_tests.close.Goals as goal

pub returns-clause-lawful : goal.returns-clause-lawful
returns-clause-lawful c =
    closed_is_lawful 0 LEAF sum_of c.args.forest c.args.passes.items c.in-Ok.taken
    c.requires.passes c.in-Ok.ensures.shape c.in-Ok.ensures.passes c.in-Ok.ensures.kept
