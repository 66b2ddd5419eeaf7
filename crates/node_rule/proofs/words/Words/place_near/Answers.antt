use Rattle.std.proofs.Common.{◌≡◌, ◌*◌, ◌^◌, ap, ◌∙◌, subst}
use Rattle.node_rule.specs.Standing.{Forested}
use Rattle.node_rule.proofs.Held.{near_place_in}
use Rattle.node_rule.proofs.words.Words.place_near.Goals as goal

pub returns-clause-within : goal.returns-clause-within
returns-clause-within g c =
    near_place_in c.requires.stands c.args.node c.shape_of.result.levels c.path.result
    c.args.self.now.table.words c.requires.near
    (c.shape_of.ensures.0 ∙ ap (λ w. w.plan.levels) c.self.view_is) c.path.ensures
    (subst (λ (w : Forested). w.table.words ≡ w.plan.trees * (2 * 2 ^ w.plan.levels))
    c.self.view_is c.self.invariant.3)
