use Rattle.std.proofs.Common.{ℕ, Bool, ap, sym, ◌∙◌, if◌then◌else◌}
use Rattle.screen_kit.specs.Repeat.{repeat_screen}
use Rattle.screen_kit.proofs.Windows.{is_among-sixes_of, repeat_next-window_of}
use Rattle.screen_kit.proofs.repeat.RepeatScreenScreen.judge.Goals as goal

pub returns-in-Some-clause-code : goal.returns-in-Some-clause-code
returns-in-Some-clause-code c = rw c.in-Some.is (c.judge_in.ensures.code
    ∙ ap (λ (repeated : Bool). let code : ℕ = if repeated then 3 else 0 in code)
    (sym (is_among-sixes_of c.args.order.now c.in-Some.window.items)))

pub returns-in-Some-clause-next : goal.returns-in-Some-clause-next
returns-in-Some-clause-next c = rw (c.judge_in.ensures.joined, c.in-Some.is)
    (ap repeat_screen (sym (repeat_next-window_of
    c.in-Some.window.capacity c.in-Some.window.items c.args.order.now)))
