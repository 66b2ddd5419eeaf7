-- Running totals beside the orders: each is the sum from scratch.
use Rattle.std.specs.Prelude.{◌≡◌, ℕ, ◌+◌, ◌*◌, ◌≤◌, ◌<◌, ◌^◌, List, length, All, Some, sum_by}
use Rattle.std.specs.Prelude.{slice_get}
use Rattle.fold_law.specs.declared.limits.TheConstants.{LEAF}
use Rattle.exposure_book.specs.declared.order.Order.{Order}
use Rattle.exposure_book.specs.declared.price.TheConstants.{UNIT}
use Rattle.exposure_book.specs.Orders.{worth_of}
use Rattle.exposure_book.specs.Pairs.{pair_of}
use Rattle.exposure_book.specs.PairTables.{TableValue, pair_at, in_firm, most_exposure}
use Rattle.exposure_book.specs.Books.{BookValue, firm_sum}

-- the largest reserve of an order whose values a leaf can hold: what was sold in its pair is at most a
-- leaf's more than what was bought, and the other way round
abbrev pub most_left : ℕ
most_left = 2 * most_exposure

-- the account and the symbol of an order are among so many
pub record IsPlaced (accounts symbols : ℕ) (order : Order) : Type 0 where
  pub account : order.account < accounts
  pub symbol : order.symbol < symbols

-- each of so many ids added at most the largest reserve to what all orders count for
abbrev pub IsHeld : List Order → ℕ → Type 0
IsHeld orders ids = sum_by worth_of orders ≤ most_left * ids

-- the table is of whole rows and has the sums of each pair, and each order has its account and symbol
pub record HasPairs (orders : List Order) (table : TableValue) : Type 0 where
  pub shape : length table.pairs ≡ length table.nets * table.symbols
  pub pairs : (account symbol : ℕ) → account < length table.nets → symbol < table.symbols
      → pair_at table account symbol ≡ pair_of account symbol orders
  pub placed : All (IsPlaced (length table.nets) table.symbols) orders

-- the table has the sums of each pair, a leaf can hold the exposure of all, and each id has its order;
-- each id that was committed added at most the largest reserve to what all orders count for
pub record AreKept (orders : List Order) (ids : List (List ℕ × ℕ)) (table : TableValue)
    : Type 0 where
  pub has : HasPairs orders table
  pub capped : in_firm table ≤ most_exposure
  pub held : IsHeld orders (length ids)
  pub few : length ids < 2 ^ 63
  pub named : All (λ entry. entry.1 < length orders) ids

-- this is the order of the book at this place
pub record IsOrderAt (book : BookValue) (place : ℕ) (order : Order) : Type 0 where
  pub found : slice_get book.orders place ≡ Some order
  pub placed : IsPlaced book.accounts book.symbols order
  pub fits : worth_of order < 2 ^ 120
  pub whole : firm_sum book ≤ most_exposure

-- the order has other terms: it keeps its account, symbol and side, and what was filled
pub record Asks (old next : Order) : Type 0 where
  pub account : next.account ≡ old.account
  pub symbol : next.symbol ≡ old.symbol
  pub side : next.side ≡ old.side
  pub filled : next.notional ≡ old.notional
