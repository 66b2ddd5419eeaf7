-- A book after what was proposed is committed.
use Rattle.std.specs.Prelude.{ℕ, List, [], ◌∷◌, ◌++◌, length, Option, Some, None, slice_get}
use Rattle.std.specs.Prelude.{slice_set}
use Rattle.fix_orders.specs.declared.message.NewOrder.{NewOrder}
use Rattle.fix_orders.specs.declared.message.Cancel.{Cancel}
use Rattle.fix_orders.specs.declared.message.Replace.{Replace}
use Rattle.limit_table.specs.declared.limits.Limits.{Limits}
use Rattle.exposure_book.specs.declared.order.Order.{Order}
use Rattle.exposure_book.specs.declared.pending.Pending.TheVariants as pending
use Rattle.exposure_book.specs.Books.{BookValue, place_of}
use Rattle.exposure_book.specs.Proposals.{new_order, with_replace}

-- the order stands last, and its current id is one of its own
abbrev pub added : Order → BookValue → BookValue
added order book = record book {
  orders = book.orders ++ order ∷ [];
  ids = book.ids ++ (order.current, length book.orders) ∷ [];
}

-- this id is one of those of the order at this place
abbrev pub named : List ℕ → ℕ → BookValue → BookValue
named id place book = record book { ids = book.ids ++ (id, place) ∷ [] }

-- the order that was asked for stands last
abbrev pub with_new : NewOrder → ℕ → ℕ → ℕ → BookValue → BookValue
with_new asked account symbol high book = added (new_order asked account symbol high) book

-- the order at this place becomes another, and this id is one of its own
abbrev pub with_request : List ℕ → ℕ → Option Order → BookValue → BookValue
with_request id place None book = book
with_request id place (Some order) book =
    named id place (record book { orders = slice_set book.orders place order })

-- the order with the cancel pending on it
abbrev pub with_cancel : Cancel → Option Order → Option Order
with_cancel request None = None
with_cancel request (Some order) = Some (record order { pending = pending.Cancel request.id })

-- the order with the replace pending on it
abbrev pub with_replace_in : Replace → Limits → Option Order → Option Order
with_replace_in request limits None = None
with_replace_in request limits (Some order) = Some (with_replace request limits order)

-- the cancel is pending on the order at the place of its OrigClOrdID
abbrev pub cancel_at : Cancel → BookValue → Option ℕ → BookValue
cancel_at request book None = book
cancel_at request book (Some place) =
    with_request request.id place (with_cancel request (slice_get book.orders place)) book

-- the replace is pending on the order at the place of its OrigClOrdID
abbrev pub replaced_at : Replace → Limits → BookValue → Option ℕ → BookValue
replaced_at request limits book None = book
replaced_at request limits book (Some place) =
    with_request request.id place
    (with_replace_in request limits (slice_get book.orders place)) book

-- the book with the cancel pending on the order that it names
abbrev pub with_cancel_pending : Cancel → BookValue → BookValue
with_cancel_pending request book = cancel_at request book (place_of request.orig book.ids)

-- the book with the replace pending on the order that it names
abbrev pub with_replace_pending : Replace → Limits → BookValue → BookValue
with_replace_pending request limits book =
    replaced_at request limits book (place_of request.orig book.ids)
