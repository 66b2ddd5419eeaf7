-- The hand's own posts are those of the acts.
use Rattle.std.proofs.Common.{◌∙◌}
use Rattle.admit_core.proofs.Steps.{left_same}
use Rattle.admit_core.proofs.hands.Hands.left.Goals as goal

pub returns : goal.returns
returns g c =
    let inside = rw (← c.self.view_is) at c.requires in
    rw (← c.self.view_is) (c.left.ensures ∙ left_same _ _ _ _ _ _ c.self.invariant.0 c.args.tree inside)
