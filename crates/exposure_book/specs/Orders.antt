-- What one order counts for, and what its reserve price is.
use Rattle.std.specs.Prelude.{◌≡◌, ◌≤◌, ℕ, ◌+◌, ◌-◌, ◌*◌, Bool, max, ◌==◌, if◌then◌else◌}
use Rattle.fix_orders.specs.declared.message.OrderKind.{OrderKind}
use Rattle.fix_orders.specs.declared.message.OrderKind.TheVariants.{Market, Limit}
use Rattle.exposure_book.specs.declared.order.Order.{Order}
use Rattle.exposure_book.specs.declared.price.TheConstants.{BUY}
use Rattle.exposure_book.specs.Pendings.{pending_total, pending_price}

-- the dearest price that an order counts for: of a buy with a limit its price, of every sell and
-- every market order the upper collar price of its symbol
abbrev pub reserve_price : ℕ → OrderKind → ℕ → ℕ → ℕ
reserve_price side Limit price high = if side == BUY then price else high
reserve_price side Market price high = high

-- the larger of an order's total and that of a replace pending on it
abbrev pub open_total : Order → ℕ
open_total order = max order.total (pending_total order.pending)

-- the larger of an order's reserve price and that of a replace pending on it
abbrev pub reserve_of : Order → ℕ
reserve_of order = max order.price (pending_price order.pending)

-- leaves: what may still be filled, nothing once the order has ended
abbrev pub leaves_of : Order → ℕ
leaves_of order = if order.ended then 0 else open_total order - order.filled

-- nothing is left
abbrev pub is_closed : Order → Bool
is_closed order = leaves_of order == 0

-- the reserve in ten-thousandths, exact: the leaves at the reserve price
abbrev pub left_of : Order → ℕ
left_of order = leaves_of order * reserve_of order

-- what an order is worth in ten-thousandths, exact: what was filled, and the reserve
abbrev pub worth_of : Order → ℕ
worth_of order = order.notional + left_of order

-- the order is a buy: every other side is a sell
abbrev pub is_buy : Order → Bool
is_buy order = order.side == BUY

-- the order keeps its account, symbol and side, nothing of what was filled is taken back, and it
-- counts for no more than before
pub record Lowers (old new : Order) : Type 0 where
  pub account : new.account ≡ old.account
  pub symbol : new.symbol ≡ old.symbol
  pub side : new.side ≡ old.side
  pub filled : old.notional ≤ new.notional
  pub worth : worth_of new ≤ worth_of old
