use Rattle.make_load.proofs.WholeLoads.{session_splits, session_size}
use Rattle.make_load.proofs.laws.loads_are_whole.Goals as goal

pub returns-clause-frames : goal.returns-clause-frames
returns-clause-frames c = session_splits

pub returns-clause-size : goal.returns-clause-size
returns-clause-size c = session_size
