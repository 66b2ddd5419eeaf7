-- The screen for an order's size.
use Rattle.std.specs.Prelude.{ℕ, [], codes, nat_lt, if◌then◌else◌}
use Rattle.screen_kit.specs.declared.order.Order.{Order}
use Rattle.screen_kit.specs.Screens.{ScreenValue}

-- 1 exactly where the quantity is above the size of the order's symbol
abbrev pub size_code : Order → ℕ
size_code order = if nat_lt order.size order.quantity then 1 else 0

-- keeps nothing
abbrev pub size_screen : ScreenValue
size_screen = record {
  name = codes "size";
  kept = [];
  opening = λ _. [];
  code = λ _ order. size_code order;
  next = λ kept _. kept;
}
