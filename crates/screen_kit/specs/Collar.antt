-- The screen for a limit order's price.
use Rattle.std.specs.Prelude.{ℕ, [], codes, nat_lt, ◌||◌, if◌then◌else◌}
use Rattle.fix_orders.specs.declared.message.OrderKind.{OrderKind}
use Rattle.fix_orders.specs.declared.message.OrderKind.TheVariants.{Market, Limit}
use Rattle.screen_kit.specs.Screens.{ScreenValue}

-- by kind, price, and the least and the largest price of the symbol: 2 exactly where a limit price
-- is below the one or above the other
abbrev pub collar_code : OrderKind → ℕ → ℕ → ℕ → ℕ
collar_code Limit price low high = if nat_lt price low || nat_lt high price then 2 else 0
collar_code Market price low high = 0

-- keeps nothing
abbrev pub collar_screen : ScreenValue
collar_screen = record {
  name = codes "collar";
  kept = [];
  opening = λ _. [];
  code = λ _ order. collar_code order.kind order.price order.low order.high;
  next = λ kept _. kept;
}
