use Rattle.std.proofs.Common.{ℕ, ap, ◌∙◌}
use Rattle.stamp_word.specs.Places.{place_of}
use Rattle.node_rule.proofs.Held.{held_is}
use Rattle.node_rule.proofs.ClimbSteps.{left_allowed}
use Rattle.node_rule.proofs.words.Words.load_left.Goals as goal

pub in_hand-x-requires-clause-ascent : goal.in_hand-x-requires-clause-ascent
in_hand-x-requires-clause-ascent g c = (c.requires.stage.0, c.requires.stage.1)

pub load-word-requires-clause-allowed : goal.load-word-requires-clause-allowed
load-word-requires-clause-allowed g c =
    let seen = ap (λ s. s.view) c.climb.view_is ∙ c.requires.stage.1.1 in
    let held = held_is (c.args.climb.now) c.requires.stage.0 c.in_hand-x.result c.requires.stage.1
    c.in_hand-x.ensures.view in
    left_allowed g.met.F.Fold.laws c.self.inside.table.table_id.slots c.climb.inside.seat.id
    c.climb.inside.seat.me (c.self.invariant.1 ∙ ap (λ w. w.plan) c.self.view_is)
    c.args.climb.now.plan.levels c.requires.stage.1.0 c.requires.stage.0 c.in_hand-x.result
    seen held c.place_near-place.result c.requires.stage.2.0 c.requires.stage.2.1
    (c.place_near-place.ensures.place ∙ ap (λ (n : ℕ).
    place_of c.args.self.now.plan.levels c.in_hand-x.result.tree n) c.left-node.ensures)
