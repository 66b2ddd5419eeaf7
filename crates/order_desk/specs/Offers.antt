-- What is offered to the screens and to the trees for a request that the book takes.
use Rattle.std.specs.Prelude.{◌≡◌, ℕ, Option, Some, None, Result, Ok, Err, Bool, true, false}
use Rattle.fix_orders.specs.declared.message.NewOrder.{NewOrder}
use Rattle.fix_orders.specs.declared.message.OrderKind.{OrderKind}
use Rattle.fix_orders.specs.declared.message.Replace.{Replace}
use Rattle.limit_table.specs.Trees.{LimitsValue}
use Rattle.exposure_book.specs.declared.answer.BookFault.{BookFault}
use Rattle.exposure_book.specs.declared.answer.Proposal.{Proposal}
use Rattle.exposure_book.specs.Books.{BookValue, order_with, pair_of_order}
use Rattle.exposure_book.specs.Proposals.{proposal_of_new, proposal_of_replace, is_within_cap}
use Rattle.screen_kit.specs.declared.order.Order.{Order}
use Rattle.admit_core.specs.declared.rows.OrderRows.{OrderRows}
use Rattle.admit_core.specs.Legs.{AreRowsOf}
use Rattle.order_desk.specs.declared.offer.Offer.{Offer}
use Rattle.order_desk.specs.declared.refusal.Refusal.{Refusal}
use Rattle.order_desk.specs.declared.refusal.Refusal.TheVariants as refusal
use Rattle.order_desk.specs.Refusals.{refusal_of}
use Rattle.order_desk.specs.Rows.{rows_of, lower_price, upper_price, largest_quantity}

-- an order of these rows as screens see it, by its side, type, quantity and price
abbrev pub order_seen : LimitsValue → OrderRows → ℕ → OrderKind → ℕ → ℕ → Order
order_seen limits rows side kind quantity price = record {
  account = rows.account;
  symbol = rows.symbol;
  side = side;
  kind = kind;
  quantity = quantity;
  price = price;
  low = lower_price limits rows;
  high = upper_price limits rows;
  size = largest_quantity limits rows;
}

abbrev pub new_seen : LimitsValue → NewOrder → OrderRows → Order
new_seen limits order rows =
    order_seen limits rows order.side order.kind order.quantity order.price

-- a replace is seen as the order that it asks for
abbrev pub replace_seen : LimitsValue → Replace → OrderRows → Order
replace_seen limits request rows =
    order_seen limits rows request.side request.kind request.quantity request.price

-- the rows of an offer are among those of the limits, and a leaf may hold each of its values
pub record IsSoundFor (limits : LimitsValue) (offer : Offer) : Type 0 where
  pub rows : AreRowsOf limits offer.rows
  pub within : is_within_cap offer.values ≡ true

-- what is offered, or the refusal of the book's fault
abbrev pub offered : Order → OrderRows → Bool → Result Proposal BookFault → Result Offer Refusal
offered seen rows always (Err fault) = Err (refusal_of fault)
offered seen rows always (Ok values) =
    Ok (record { seen = seen; rows = rows; values = values; always = always })

-- an order of these rows, or of none
abbrev pub new_offer_at : LimitsValue → NewOrder → BookValue → Result OrderRows Refusal
    → Result Offer Refusal
new_offer_at limits order book (Err why) = Err why
new_offer_at limits order book (Ok rows) =
    offered (new_seen limits order rows) rows true
    (proposal_of_new book order rows.account rows.symbol (upper_price limits rows))

-- what is offered for an order (D), about which the trees are always asked: an unknown account or
-- symbol comes before the book's faults
abbrev pub new_offer : LimitsValue → NewOrder → BookValue → Result Offer Refusal
new_offer limits order book = new_offer_at limits order book (rows_of limits order)

-- a replace of the order of this account and symbol, or of none
abbrev pub replace_offer_at : LimitsValue → Replace → Result Proposal BookFault → Option (ℕ × ℕ)
    → Result Offer Refusal
replace_offer_at limits request (Err fault) pair = Err (refusal_of fault)
replace_offer_at limits request (Ok values) None = Err refusal.Unknown
replace_offer_at limits request (Ok values) (Some pair) =
    let rows : OrderRows = record { account = pair.0; symbol = pair.1 } in
    offered (replace_seen limits request rows) rows false (Ok values)

-- what is offered for a replace (G): the book's faults come first
abbrev pub replace_offer : LimitsValue → Replace → BookValue → Result Offer Refusal
replace_offer limits request book =
    replace_offer_at limits request (proposal_of_replace book request limits)
    (pair_of_order (order_with book request.orig))
