use Rattle.std.proofs.Common.{subst}
use Rattle.std.specs.Prelude.{IfSome}
use Rattle.node_rule.specs.Views.{ascent_of}
use Rattle.node_rule.specs.Own.{IsBelowRoot}
use Rattle.node_rule.specs.Standing.{Standing}
use Rattle.node_rule.proofs.BelowRoot.{ascent_below_root}
use Rattle.node_rule.proofs.climb.Climb.node.Goals as goal

pub returns-in-Some-clause-below : goal.returns-in-Some-clause-below
returns-in-Some-clause-below g c =
    let inside = c.self.inside in
    subst (λ (s : Standing). IfSome (ascent_of s.view) (IsBelowRoot s.plan)) c.self.view_is
    (ascent_below_root g.F.Fold.under inside.plan inside.number inside.calls.items
    inside.trail.items inside.ascent inside.seat.me.0 c.self.invariant.0)
