-- A book as plain data, and the values of its trees.
use Rattle.std.specs.Prelude.{ℕ, ◌+◌, ◌-◌, ◌/◌, List, [], Option, Some, None, Bool, false, length, map}
use Rattle.std.specs.Prelude.{slice_get, slice_index_or}
use Rattle.std.specs.Map.{lookup}
use Rattle.exposure_book.specs.declared.answer.Proposal.{Proposal}
use Rattle.exposure_book.specs.declared.answer.Terms3.{Terms3}
use Rattle.exposure_book.specs.declared.order.Order.{Order}
use Rattle.exposure_book.specs.declared.price.TheConstants.{UNIT}
use Rattle.limit_table.specs.declared.limits.Limits.{Limits}
use Rattle.exposure_book.specs.Pairs.{pair_of, exposure_of_pair}
use Rattle.exposure_book.specs.Sums.{over_account, over_symbol, over_all}
use Rattle.exposure_book.specs.Pendings.{is_same_id}

-- how many accounts and symbols there are; of each account, whether it is net; the orders, oldest
-- first; and every id that was committed, oldest first, with the place of its order
pub record BookValue : Type 0 where
  pub accounts : ℕ
  pub symbols : ℕ
  pub nets : List Bool
  pub orders : List Order
  pub ids : List (List ℕ × ℕ)

-- a book in memory: what it means, and for how many more orders and ids there is room
pub record BookInMemory : Type 0 where
  pub value : BookValue
  pub room : ℕ

-- the account at this place is net
abbrev pub is_net : List Bool → ℕ → Bool
is_net nets account = slice_index_or nets account false

-- exposure of a pair of an account and a symbol, in ten-thousandths
abbrev pub pair_exposure : BookValue → ℕ → ℕ → ℕ
pair_exposure book account symbol =
    exposure_of_pair (is_net book.nets account) (pair_of account symbol book.orders)

-- exposure of the firm: the sum over all pairs
abbrev pub firm_sum : BookValue → ℕ
firm_sum book = over_all book.accounts book.symbols (pair_exposure book)

-- exposure of an account: the sum over its pairs
abbrev pub account_sum : ℕ → BookValue → ℕ
account_sum account book = over_account book.symbols (pair_exposure book) account

-- exposure of a symbol: the sum over its pairs
abbrev pub symbol_sum : ℕ → BookValue → ℕ
symbol_sum symbol book = over_symbol book.accounts (pair_exposure book) symbol

-- ten-thousandths as whole currency units, rounded up
abbrev pub units_up : ℕ → ℕ
units_up sum = (sum + (UNIT - 1)) / UNIT

-- the book with these orders in place of its own
abbrev pub with_orders : List Order → BookValue → BookValue
with_orders orders book = record book { orders = orders }

-- the values of the firm, an account and a symbol
abbrev pub proposal_of : BookValue → ℕ → ℕ → Proposal
proposal_of book account symbol = record {
  firm = units_up (firm_sum book);
  account = units_up (account_sum account book);
  symbol = units_up (symbol_sum symbol book);
}

-- the values of an order's three trees
abbrev pub terms_of : BookValue → Order → Terms3
terms_of book order = record {
  account = order.account;
  symbol = order.symbol;
  firm_value = units_up (firm_sum book);
  account_value = units_up (account_sum order.account book);
  symbol_value = units_up (symbol_sum order.symbol book);
}

-- the place of the order that has this id
abbrev pub place_of : List ℕ → List (List ℕ × ℕ) → Option ℕ
place_of id ids = lookup (is_same_id id) ids

-- the order at this place
abbrev pub order_at : BookValue → Option ℕ → Option Order
order_at book None = None
order_at book (Some place) = slice_get book.orders place

-- the order that has this id
abbrev pub order_with : BookValue → List ℕ → Option Order
order_with book id = order_at book (place_of id book.ids)

-- the account and the symbol of an order
abbrev pub pair_of_order : Option Order → Option (ℕ × ℕ)
pair_of_order None = None
pair_of_order (Some order) = Some (order.account, order.symbol)

-- of each account of these limits, whether it is net
abbrev pub nets_of : Limits → List Bool
nets_of limits = map (λ row. row.net) limits.accounts

-- a book for these limits with no order
abbrev pub empty_book : Limits → BookValue
empty_book limits = record {
  accounts = length limits.accounts;
  symbols = length limits.symbols;
  nets = nets_of limits;
  orders = [];
  ids = [];
}
