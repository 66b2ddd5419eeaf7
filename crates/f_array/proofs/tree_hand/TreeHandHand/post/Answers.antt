use Rattle.std.proofs.Common.{◌<◌, sym, subst}
use Rattle.risk_board.specs.Calls.{post_count}
use Rattle.f_array.specs.Handed.{HeldPass}
use Rattle.f_array.proofs.HandCounts.{post_count-posted}
use Rattle.f_array.proofs.tree_hand.TreeHandHand.post.Goals as goal

pub post_counted-requires-clause-left : goal.post_counted-requires-clause-left
post_counted-requires-clause-left g c =
    let pass = c.self.inside.pass in
    let left : post_count c.args.tree pass.track.calls < pass.plan.quota =
    subst (λ (h : HeldPass). post_count c.args.tree h.pass.track.calls < h.pass.plan.quota)
    (sym c.self.view_is) c.requires.left in
    subst (λ n. n < pass.plan.quota) (post_count-posted c.args.tree pass.track.calls) left
