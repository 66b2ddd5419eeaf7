-- In a legal history admitted orders never cross.
use Rattle.cross_guard.proofs.Clearing.{never_cross}
use Rattle.cross_guard.proofs.laws.admitted_orders_never_cross.Goals as goal

pub returns : goal.returns
returns c = never_cross
