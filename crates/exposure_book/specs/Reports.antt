-- What a report makes of the order that it names, and what it is answered.
use Rattle.std.specs.Prelude.{ℕ, ◌+◌, ◌*◌, ◌≤◌, ◌<◌, ◌⊎◌, List, Option, Some, None, Bool, true}
use Rattle.std.specs.Prelude.{◌&&◌, nat_le}
use Rattle.std.specs.Prelude.{slice_get, slice_set, if◌then◌else◌}
use Rattle.fix_orders.specs.declared.message.Exec.{Exec}
use Rattle.fix_orders.specs.declared.message.Exec.TheVariants.{New, Canceled, Replaced, Rejected}
use Rattle.fix_orders.specs.declared.message.Exec.TheVariants.{Expired, Trade, Else}
use Rattle.fix_orders.specs.declared.message.Report.{Report}
use Rattle.fix_orders.specs.declared.message.CancelReject.{CancelReject}
use Rattle.exposure_book.specs.declared.answer.Applied.{Applied}
use Rattle.exposure_book.specs.declared.answer.Applied.TheVariants as applied
use Rattle.exposure_book.specs.declared.order.Order.{Order}
use Rattle.exposure_book.specs.declared.pending.Pending.{Pending}
use Rattle.exposure_book.specs.declared.pending.Pending.TheVariants as pending
use Rattle.exposure_book.specs.Pendings.{is_same_id, has_id_pending}
use Rattle.exposure_book.specs.Orders.{leaves_of, reserve_of}
use Rattle.exposure_book.specs.Books.{BookValue, place_of, order_with, terms_of, units_up, firm_sum}
use Rattle.exposure_book.specs.Books.{account_sum, symbol_sum, with_orders}

-- the order has ended: nothing of it is left, and no request is pending
abbrev pub ended_order : Order → Order
ended_order order = record order { pending = pending.Nothing; ended = true }

-- the pending request is dropped
abbrev pub without_pending : Order → Order
without_pending order = record order { pending = pending.Nothing }

-- the request is dropped where it has this id
abbrev pub without_request : List ℕ → Order → Order
without_request id order =
    if has_id_pending order.pending id then without_pending order else order

-- with the current id the order ends, with that of the pending request the request is dropped
abbrev pub rejected_order : List ℕ → Order → Order
rejected_order id order =
    if is_same_id id order.current then ended_order order else without_request id order

-- total, reserve price and current id become those of the replace with this id
abbrev pub replaced_by : Pending → List ℕ → Order → Order
replaced_by pending.Nothing id order = order
replaced_by (pending.Cancel own) id order = order
replaced_by (pending.Replace own total price) id order =
    if is_same_id own id
    then record order { total = total; price = price; current = own; pending = pending.Nothing }
    else order

-- the quantity is filled at the price
abbrev pub traded_order : ℕ → ℕ → Order → Order
traded_order quantity price order = record order {
  filled = order.filled + quantity;
  notional = order.notional + quantity * price;
}

-- so much is left, and the price isn't above the reserve price
abbrev pub is_covered : ℕ → ℕ → Order → Bool
is_covered quantity price order =
    nat_le quantity (leaves_of order) && nat_le price (reserve_of order)

-- the order after a report with this id, none where it trades beyond the reserve
abbrev pub order_after : List ℕ → Exec → Order → Option Order
order_after id New order = Some order
order_after id Canceled order = Some (ended_order order)
order_after id Replaced order = Some (replaced_by order.pending id order)
order_after id Rejected order = Some (rejected_order id order)
order_after id Expired order = Some (ended_order order)
order_after id (Trade quantity price) order =
    if is_covered quantity price order then Some (traded_order quantity price order) else None
order_after id Else order = Some order

-- what a report is answered, and the orders after it
pub record Outcome : Type 0 where
  pub answer : Applied
  pub orders : List Order

-- nothing changed
abbrev pub unchanged : Applied → BookValue → Outcome
unchanged answer book = record { answer = answer; orders = book.orders }

-- the order at this place became another, or it traded beyond its reserve
abbrev pub outcome_with : BookValue → ℕ → Option Order → Outcome
outcome_with book place None = unchanged applied.Over book
outcome_with book place (Some order) =
    let orders = slice_set book.orders place order in
    record { answer = applied.Applied (terms_of (with_orders orders book) order); orders = orders }

-- the outcome of a report with this id on the order at its place
abbrev pub outcome_at : BookValue → List ℕ → Exec → ℕ → Option Order → Outcome
outcome_at book id exec place None = unchanged applied.Stray book
outcome_at book id exec place (Some order) = outcome_with book place (order_after id exec order)

-- an id of no order
abbrev pub outcome_of : BookValue → List ℕ → Exec → Option ℕ → Outcome
outcome_of book id exec None = unchanged applied.Stray book
outcome_of book id exec (Some place) =
    outcome_at book id exec place (slice_get book.orders place)

-- no id
abbrev pub outcome_by : BookValue → Exec → Option (List ℕ) → Outcome
outcome_by book exec None = unchanged applied.Stray book
outcome_by book exec (Some id) = outcome_of book id exec (place_of id book.ids)

-- the outcome of a report
abbrev pub outcome_of_report : BookValue → Report → Outcome
outcome_of_report book report = outcome_by book report.exec report.id

-- the outcome of a cancel reject on the order at its place
abbrev pub outcome_of_reject_at : BookValue → List ℕ → ℕ → Option Order → Outcome
outcome_of_reject_at book id place None = unchanged applied.Stray book
outcome_of_reject_at book id place (Some order) =
    outcome_with book place (Some (without_request id order))

-- an id of no order
abbrev pub outcome_of_reject_by : BookValue → List ℕ → Option ℕ → Outcome
outcome_of_reject_by book id None = unchanged applied.Stray book
outcome_of_reject_by book id (Some place) =
    outcome_of_reject_at book id place (slice_get book.orders place)

-- the outcome of a cancel reject
abbrev pub outcome_of_reject : BookValue → CancelReject → Outcome
outcome_of_reject book reject =
    outcome_of_reject_by book reject.id (place_of reject.id book.ids)

-- the value of no tree of the book is larger with these orders
pub record RaisesNothing (book : BookValue) (orders : List Order) : Type 0 where
  pub firm : units_up (firm_sum (with_orders orders book)) ≤ units_up (firm_sum book)
  pub accounts : (a : ℕ)
      → units_up (account_sum a (with_orders orders book)) ≤ units_up (account_sum a book)
  pub symbols : (s : ℕ)
      → units_up (symbol_sum s (with_orders orders book)) ≤ units_up (symbol_sum s book)

-- the order that has the id of a report
abbrev pub reported_order : BookValue → Option (List ℕ) → Option Order
reported_order book None = None
reported_order book (Some id) = order_with book id

-- a trade of more than is left, or above the reserve price
abbrev pub IsBeyond : Exec → Order → Type 0
IsBeyond New order = ⊥
IsBeyond Canceled order = ⊥
IsBeyond Replaced order = ⊥
IsBeyond Rejected order = ⊥
IsBeyond Expired order = ⊥
IsBeyond (Trade quantity price) order = (leaves_of order < quantity) ⊎ (reserve_of order < price)
IsBeyond Else order = ⊥

-- the account and the symbol that an answer tells are among so many
abbrev pub IsPlacedAnswer : ℕ → ℕ → Applied → Type 0
IsPlacedAnswer accounts symbols (applied.Applied terms) =
    (terms.account < accounts) × (terms.symbol < symbols)
IsPlacedAnswer accounts symbols applied.Stray = Unit {0}
IsPlacedAnswer accounts symbols applied.Over = Unit {0}
