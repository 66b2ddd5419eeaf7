use Rattle.std.proofs.Common.{◌≡◌, ℕ, suc, ◌+◌, ap, ◌∙◌, subst, arith}
use Rattle.node_rule.specs.declared.view.Plan.{Plan}
use Rattle.f_array.specs.Rising.{IsUp}
use Rattle.f_array.proofs.Rises.{up_at_first, up_next}
use Rattle.f_array.proofs.rise_up.rise_up.Goals as goal

pub loop-init : goal.loop-init
loop-init g c =
    let levels = c.shape-end.ensures.levels in
    let plans = ap (λ (p : Plan). p.levels) c.requires.table.1 in (
      c.requires.table,
      up_at_first c.args.climb.now c.requires.begun,
      omega arith,
      omega arith,
      omega arith,
      omega arith,
      omega arith,
    )

pub loop-preserved : goal.loop-preserved
loop-preserved g c =
    let kept = c.refresh.ensures.table in
    let one_more : suc c.loop.counter ≡ c.loop.counter + 1 = omega arith in
    let steps = c.refresh.ensures.steps in
    let few = c.loop.invariant.2 in
    let most = c.loop.invariant.3 in
    let own_few = c.loop.invariant.4 in
    let own_most = c.loop.invariant.5 in
    let least = c.refresh.ensures.own_least in
    let more = c.refresh.ensures.own_most in (
      (kept.0 ∙ c.loop.invariant.0.0, kept.1 ∙ c.loop.invariant.0.1),
      subst (λ (n : ℕ). IsUp c.args.climb.now n c.refresh.new.climb) one_more
          (up_next c.args.climb.now c.loop.climb c.refresh.new.climb c.loop.counter
          c.loop.invariant.1 c.node.ensures.below kept c.refresh.ensures.rises),
      omega arith,
      omega arith,
      omega arith,
      omega arith,
      c.loop.invariant.6,
    )
