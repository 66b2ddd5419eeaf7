-- The screen for repeated orders.
use Rattle.std.specs.Prelude.{◌≡◌, ℕ, ◌*◌, ◌==◌, ◌&&◌, ◌||◌, Bool, false, List, [], ◌∷◌, ◌++◌, codes, Option, Some, None, if◌then◌else◌}
use Rattle.circular_buffer.specs.Buffer.{Buffer, keep_last}
use Rattle.fix_orders.specs.declared.message.OrderKind.{OrderKind}
use Rattle.fix_orders.specs.declared.message.OrderKind.TheVariants.{Market, Limit}
use Rattle.screen_kit.specs.declared.order.Order.{Order}
use Rattle.screen_kit.specs.Screens.{ScreenValue}

-- both have the same account, symbol, side, kind, quantity and price
pub record SameOrder (a b : Order) : Type 0 where
  pub account : a.account ≡ b.account
  pub symbol : a.symbol ≡ b.symbol
  pub side : a.side ≡ b.side
  pub kind : a.kind ≡ b.kind
  pub quantity : a.quantity ≡ b.quantity
  pub price : a.price ≡ b.price

-- an order type as a number
abbrev pub kind_number : OrderKind → ℕ
kind_number Market = 1
kind_number Limit = 2

-- whether they are the same
abbrev pub is_same : Order → Order → Bool
is_same a b = a.account == b.account && a.symbol == b.symbol && a.side == b.side
    && kind_number a.kind == kind_number b.kind && a.quantity == b.quantity && a.price == b.price

-- the six numbers by which an order is the same as another
abbrev pub six_of : Order → List ℕ
six_of order = order.account ∷ order.symbol ∷ order.side ∷ kind_number order.kind
    ∷ order.quantity ∷ order.price ∷ []

-- the six numbers of each order
abbrev pub sixes_of : List Order → List ℕ
sixes_of [] = []
sixes_of (order ∷ orders) = six_of order ++ sixes_of orders

-- the order's six numbers stand among these sixes
abbrev pub is_among : Order → List ℕ → Bool
is_among order (account ∷ symbol ∷ side ∷ kind ∷ quantity ∷ price ∷ later) =
    (order.account == account && order.symbol == symbol && order.side == side
    && kind_number order.kind == kind && order.quantity == quantity && order.price == price)
    || is_among order later
is_among order _ = false

-- what is kept: how many orders the window holds at most, then the six numbers of each in it,
-- oldest first
abbrev pub window_of : ℕ → List Order → List ℕ
window_of most orders = most ∷ sixes_of orders

-- 3 exactly where an order in the window is the same
abbrev pub repeat_code : List ℕ → Order → ℕ
repeat_code [] order = 0
repeat_code (most ∷ sixes) order = if is_among order sixes then 3 else 0

-- the order joins the window, whatever its code was, and the oldest leaves it where it was full
abbrev pub repeat_next : List ℕ → Order → List ℕ
repeat_next [] order = []
repeat_next (most ∷ sixes) order = most ∷ keep_last (6 * most) (sixes ++ six_of order)

-- what is kept by a window of at most `capacity` orders; nothing before there is one
abbrev pub kept_in : Option (Buffer Order) → List ℕ
kept_in None = []
kept_in (Some window) = window_of window.capacity window.items

-- keeps a window of the last `repeat` orders that it judged
abbrev pub repeat_screen : List ℕ → ScreenValue
repeat_screen kept = record {
  name = codes "repeat";
  kept = kept;
  opening = λ terms. window_of terms.repeat [];
  code = repeat_code;
  next = repeat_next;
}
