-- A screen that judges one order after another, alone and in a set.
use Rattle.std.proofs.Common.{◌≡◌, List, [], ◌∷◌, true, false, ap, refl, fold, ◌==◌, if◌then◌else◌}
use Rattle.screen_kit.specs.declared.order.Order.{Order}
use Rattle.screen_kit.specs.Screens.{ScreenValue, keeping, armed, code_for, judged}
use Rattle.screen_kit.specs.Sets.{after_asking}
use Rattle.screen_kit.specs.Laws.{judged_all, let_pass, asked_all, CodeIsFold, LaterJudgeWhatPassed}

-- after these orders the screen keeps the fold of its rule over them
pub judged_all-fold : (orders : List Order) (screen : ScreenValue)
    → judged_all orders screen ≡ keeping (fold screen.next screen.kept orders) screen
judged_all-fold [] screen = refl
judged_all-fold (order ∷ orders) screen = judged_all-fold orders (judged order screen)

pub code_is_fold : CodeIsFold
code_is_fold screen terms orders order =
    ap (λ s. code_for order s) (judged_all-fold orders (armed terms screen))

pub later_judge_what_passed : LaterJudgeWhatPassed
later_judge_what_passed screen later [] = refl
later_judge_what_passed screen later (order ∷ orders) =
    let next : ScreenValue = judged order screen in
    elim (code_for order screen == 0) as (λ b.
    asked_all orders (next ∷ (if b then after_asking order later else later))
    ≡ judged_all orders next ∷ asked_all (if b then order ∷ let_pass orders next
    else let_pass orders next) later) [
      | true ↦ later_judge_what_passed next (after_asking order later) orders
      | false ↦ later_judge_what_passed next later orders
    ]
