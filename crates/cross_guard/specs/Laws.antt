-- What is said of two orders that a clear value covers, and of orders that sessions have admitted.
use Rattle.std.specs.Prelude.{◌≡◌, ◌≢◌, ℕ, ◌≤◌, ◌<◌, List, length, take, true}
use Rattle.risk_board.specs.declared.hand.Line.{Line}
use Rattle.risk_board.specs.History.{Event}
use Rattle.fix_orders.specs.declared.message.OrderKind.{OrderKind}
use Rattle.fix_orders.specs.declared.message.OrderKind.TheVariants.{Limit}
use Rattle.limit_table.specs.declared.kind.SymbolRow.{SymbolRow}
use Rattle.admit_core.specs.Admitted.{moments, standing_at}
use Rattle.cross_guard.specs.declared.level.TheConstants.{BUY}
use Rattle.cross_guard.specs.Halves.{cross_le}
use Rattle.cross_guard.specs.Levels.{value_of_order}
use Rattle.cross_guard.specs.Standings.{standings_after}

-- what of an order makes its value: Side (54), OrdType (40) and Price (44) in ten-thousandths
pub record PricedOrder : Type 0 where
  pub side : ℕ
  pub kind : OrderKind
  pub price : ℕ

-- a buy and an order of another side, in a symbol whose low collar isn't above its high
pub record AreOpposed (row : SymbolRow) (buy sell : PricedOrder) : Type 0 where
  pub band : row.low ≤ row.high
  pub buys : buy.side ≡ BUY
  pub sells : sell.side ≢ BUY

-- the order's value is at most this, by halves
abbrev pub IsCovered : SymbolRow → PricedOrder → ℕ → Type 0
IsCovered row order value =
    cross_le (value_of_order row order.side order.kind order.price) value ≡ true

-- neither is a market order, and the buy's price is below the sell's
pub record AreApart (buy sell : PricedOrder) : Type 0 where
  pub buy_limit : buy.kind ≡ Limit
  pub sell_limit : sell.kind ≡ Limit
  pub prices : buy.price < sell.price

-- at each place of a symbol's history, any buy that one session has admitted and any sell that the
-- same or another one has admitted are apart
abbrev pub NeverCross : List Line → List (List Event) → Type 0
NeverCross lines events =
    (count buyer seller : ℕ) (row : SymbolRow) (buy sell : PricedOrder)
    → AreOpposed row buy sell
    → IsCovered row buy (standing_at buyer
    (standings_after (length events) (take count (moments lines events)))).admitted
    → IsCovered row sell (standing_at seller
    (standings_after (length events) (take count (moments lines events)))).admitted
    → AreApart buy sell
