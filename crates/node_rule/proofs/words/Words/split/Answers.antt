use Rattle.std.proofs.Common.{ℕ, ap, sym, subst, ◌∙◌, ◌<◌}
use Rattle.node_rule.specs.declared.view.Plan.{Plan}
use Rattle.node_rule.proofs.OnWay.{some_words}
use Rattle.node_rule.proofs.ClimbSteps.{split_allowed}
use Rattle.node_rule.proofs.words.Words.split.Goals as goal

pub split_seat-seat-requires-clause-some : goal.split_seat-seat-requires-clause-some
split_seat-seat-requires-clause-some g c =
    some_words c.self.inside.plan c.self.inside.table.table_id.words c.self.invariant.0
    c.self.invariant.3

pub split_seat-seat-requires-clause-allowed : goal.split_seat-seat-requires-clause-allowed
split_seat-seat-requires-clause-allowed g c =
    let given = ap (λ k. k.given) c.keeper.view_is in
    let plan = c.requires.table.1 ∙ sym (ap (λ s. s.plan) c.self.view_is) in
    let left = subst (λ (z : ℕ × Plan). z.0 < z.1.sessions) (λ i. (sym given i, plan i))
    c.requires.left in
    split_allowed g.met.F.Fold.laws c.keeper.inside.seat.id c.self.invariant.1
    c.keeper.inside.seat.me.0 _ _ _ (ap (λ m. m.0) c.keeper.invariant.1) left
