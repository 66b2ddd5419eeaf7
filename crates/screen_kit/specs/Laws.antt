-- What follows for a screen from the orders that it judged since it was armed.
use Rattle.std.specs.Prelude.{◌≡◌, ◌==◌, List, [], ◌∷◌, Any, fold, ◌↔◌, ◌⊎◌, if◌then◌else◌}
use Rattle.circular_buffer.specs.Buffer.{keep_last}
use Rattle.screen_kit.specs.declared.order.Order.{Order}
use Rattle.screen_kit.specs.declared.order.Terms.{Terms}
use Rattle.screen_kit.specs.Screens.{ScreenValue, armed, code_for, judged}
use Rattle.screen_kit.specs.Sets.{after_asking}
use Rattle.screen_kit.specs.Repeat.{SameOrder, repeat_screen}

-- the screen after it judged these orders, one after another
abbrev pub judged_all : List Order → ScreenValue → ScreenValue
judged_all [] screen = screen
judged_all (order ∷ orders) screen = judged_all orders (judged order screen)

-- the orders, of these, that the screen lets pass as it judges one after another
abbrev pub let_pass : List Order → ScreenValue → List Order
let_pass [] screen = []
let_pass (order ∷ orders) screen =
    if code_for order screen == 0
    then order ∷ let_pass orders (judged order screen)
    else let_pass orders (judged order screen)

-- the set after it was asked for these orders, one after another
abbrev pub asked_all : List Order → List ScreenValue → List ScreenValue
asked_all [] screens = screens
asked_all (order ∷ orders) screens = asked_all orders (after_asking order screens)

-- a screen's code for an order is told by the fold of the orders that it judged since it was armed
abbrev pub CodeIsFold : Type 0
CodeIsFold = (screen : ScreenValue) (terms : Terms) (orders : List Order) (order : Order)
    → code_for order (judged_all orders (armed terms screen))
    ≡ screen.code (fold screen.next (screen.opening terms) orders) order

-- the first screen of a set judges every order, and the later ones those that it lets pass
abbrev pub LaterJudgeWhatPassed : Type 0
LaterJudgeWhatPassed = (screen : ScreenValue) (later : List ScreenValue) (orders : List Order)
    → asked_all orders (screen ∷ later)
    ≡ judged_all orders screen ∷ asked_all (let_pass orders screen) later

-- the screen for repeats, armed and then asked for these orders, gives 3 exactly where one of the
-- last `repeat` of them is the same order, and 0 otherwise
pub record TellsRepeats (terms : Terms) (orders : List Order) (order : Order) : Type 0 where
  pub refuses : (code_for order (judged_all orders (armed terms (repeat_screen []))) ≡ 3)
      ↔ Any (SameOrder order) (keep_last terms.repeat orders)
  pub passes : (code_for order (judged_all orders (armed terms (repeat_screen []))) ≡ 3)
      ⊎ (code_for order (judged_all orders (armed terms (repeat_screen []))) ≡ 0)
