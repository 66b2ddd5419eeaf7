use Rattle.std.proofs.Common.{◌≡◌, ℕ, ◌-◌, ap, sym, ◌∙◌, subst}
use Rattle.risk_board.specs.Calls.{post_count}
use Rattle.f_array.specs.Handed.{HeldPass}
use Rattle.f_array.proofs.HandCounts.{post_count-posted}
use Rattle.f_array.proofs.tree_hand.TreeHandHand.left.Goals as goal

pub returns : goal.returns
returns g c =
    let pass = c.self.inside.pass in
    subst
    (λ (h : HeldPass). c.left.result ≡ h.pass.plan.quota - post_count c.args.tree h.pass.track.calls)
    c.self.view_is
    (c.left.ensures ∙ ap (λ (n : ℕ). pass.plan.quota - n)
    (sym (post_count-posted c.args.tree pass.track.calls)))
