use Rattle.std.proofs.Common.{ap, ◌∙◌, subst}
use Rattle.node_rule.specs.declared.view.Plan.{Plan}
use Rattle.node_rule.specs.Standing.{IsStanding}
use Rattle.node_rule.proofs.Held.{held_on_way, on_way_stands}
use Rattle.node_rule.proofs.words.Words.in_hand.Goals as goal

pub returns-clause-stands : goal.returns-clause-stands
returns-clause-stands g c =
    subst (λ (p : Plan). IsStanding p c.in-Some.x)
    (ap (λ s. s.plan) c.climb.view_is ∙ c.requires.table.1)
    (on_way_stands g.F.Fold.under c.climb.inside.plan c.climb.inside.number c.in-Some.x
    c.climb.invariant.0.planned (held_on_way c.climb.invariant.0 c.in-Some.x c.in-Some.is))
