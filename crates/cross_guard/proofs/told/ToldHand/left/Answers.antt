-- The hand's own posts are those of the acts.
use Rattle.std.proofs.Common.{◌∙◌}
use Rattle.cross_guard.proofs.ToldSteps.{left_same}
use Rattle.cross_guard.proofs.told.ToldHand.left.Goals as goal

pub returns : goal.returns
returns g c =
    rw (← c.self.view_is) (c.left.ensures ∙ left_same _ _ _ _ c.self.invariant.0 c.args.tree)
