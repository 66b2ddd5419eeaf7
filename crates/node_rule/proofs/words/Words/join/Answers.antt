use Rattle.std.proofs.Common.{ap, ◌∙◌}
use Rattle.node_rule.proofs.OnWay.{some_words}
use Rattle.node_rule.proofs.ClimbSteps.{join_allowed}
use Rattle.node_rule.proofs.words.Words.join.Goals as goal

pub join_seat-requires-clause-some : goal.join_seat-requires-clause-some
join_seat-requires-clause-some g c =
    some_words c.self.inside.plan c.self.inside.table.table_id.words c.self.invariant.0
    c.self.invariant.3

pub join_seat-requires-clause-allowed : goal.join_seat-requires-clause-allowed
join_seat-requires-clause-allowed g c =
    let idle = ap (λ s. s.view) c.done.view_is ∙ c.requires.idle.1 in
    join_allowed g.met.F.Fold.laws c.keeper.inside.seat.id c.self.invariant.1
    c.keeper.inside.seat.me.0 c.done.inside.seat.me.0
    c.done.inside.seat.id _ _ _ _ _ (ap (λ m. m.0) c.keeper.invariant.1) idle
