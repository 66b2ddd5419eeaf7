use Rattle.std.proofs.Common.{length}
use Rattle.tree_check.proofs.Within.{staying}
use Rattle.tree_check.proofs.laws.staying_is_within.Goals as goal

pub returns : goal.returns
returns c = λ limit lines events. staying limit lines events (length events)
