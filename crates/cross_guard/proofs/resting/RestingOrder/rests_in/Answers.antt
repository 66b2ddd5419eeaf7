-- Values that can be posted join to one that can.
use Rattle.std.proofs.Common.{arith}
use Rattle.cross_guard.proofs.Capped.{fold_capped}
use Rattle.cross_guard.proofs.resting.RestingOrder.rests_in.Goals as goal

pub returns-clause-capped : goal.returns-clause-capped
returns-clause-capped c =
    rw (c.join_all.ensures, c.deref.ensures.value)
    (fold_capped 0 _ (omega arith) c.self.invariant.capped)
