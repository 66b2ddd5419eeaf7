-- What the orders of a pair of an account and a symbol come to.
use Rattle.std.specs.Prelude.{ℕ, ◌+◌, ◌-◌, ◌≤◌, List, Bool, max, not, sum_by, ◌==◌, ◌&&◌}
use Rattle.std.specs.Prelude.{if◌then◌else◌}
use Rattle.exposure_book.specs.declared.order.Order.{Order}
use Rattle.exposure_book.specs.declared.pair_sums.PairSums.{PairSums}
use Rattle.exposure_book.specs.Orders.{left_of, is_buy}

-- the order is of this account and this symbol
abbrev pub is_of : ℕ → ℕ → Order → Bool
is_of account symbol order = (order.account == account) && (order.symbol == symbol)

-- an amount of an order, where it is a buy of the pair
abbrev pub of_buy : (Order → ℕ) → ℕ → ℕ → Order → ℕ
of_buy amount account symbol order =
    if is_of account symbol order && is_buy order then amount order else 0

-- an amount of an order, where it is a sell of the pair
abbrev pub of_sell : (Order → ℕ) → ℕ → ℕ → Order → ℕ
of_sell amount account symbol order =
    if is_of account symbol order && not (is_buy order) then amount order else 0

-- the filled notional and the reserves of a pair's buys and sells, in ten-thousandths
abbrev pub pair_of : ℕ → ℕ → List Order → PairSums
pair_of account symbol orders = record {
  bought = sum_by (of_buy (λ order. order.notional) account symbol) orders;
  sold = sum_by (of_sell (λ order. order.notional) account symbol) orders;
  to_buy = sum_by (of_buy left_of account symbol) orders;
  to_sell = sum_by (of_sell left_of account symbol) orders;
}

-- all that a pair comes to
abbrev pub all_of : PairSums → ℕ
all_of pair = pair.bought + pair.to_buy + pair.sold + pair.to_sell

-- exposure of a pair. Where the account is gross, it is all of it. Where it is net, it is the larger of
-- what the buys count for less what was sold, and what the sells count for less what was bought; the
-- larger is never below nothing.
abbrev pub exposure_of_pair : Bool → PairSums → ℕ
exposure_of_pair net pair =
    if net
    then max (pair.bought + pair.to_buy - pair.sold) (pair.sold + pair.to_sell - pair.bought)
    else all_of pair

-- a pair with no order
abbrev pub no_sums : PairSums
no_sums = record { bought = 0; sold = 0; to_buy = 0; to_sell = 0 }

-- a pair with one order more
abbrev pub plus : Order → PairSums → PairSums
plus order pair =
    if is_buy order
    then record pair {
      bought = pair.bought + order.notional;
      to_buy = pair.to_buy + left_of order;
    }
    else record pair {
      sold = pair.sold + order.notional;
      to_sell = pair.to_sell + left_of order;
    }

-- a pair with one order less
abbrev pub minus : Order → PairSums → PairSums
minus order pair =
    if is_buy order
    then record pair {
      bought = pair.bought - order.notional;
      to_buy = pair.to_buy - left_of order;
    }
    else record pair {
      sold = pair.sold - order.notional;
      to_sell = pair.to_sell - left_of order;
    }

-- the order is one of those of the pair
abbrev pub Has : Order → PairSums → Type 0
Has order pair =
    (order.notional ≤ (if is_buy order then pair.bought else pair.sold))
    × (left_of order ≤ (if is_buy order then pair.to_buy else pair.to_sell))
