-- What a book answers to an order or a request that is proposed: the first fault in the order of
-- the table, else the values as they would be.
use Rattle.std.specs.Prelude.{ℕ, List, [], ◌∷◌, ◌++◌, Option, Some, None, Result, Ok, Err, Bool}
use Rattle.std.specs.Prelude.{true, false}
use Rattle.std.specs.Prelude.{◌==◌, ◌&&◌, not, nat_le, is_some, slice_get, slice_set}
use Rattle.std.specs.Prelude.{if◌then◌else◌}
use Rattle.fold_law.specs.declared.limits.TheConstants.{LEAF}
use Rattle.fix_orders.specs.declared.message.NewOrder.{NewOrder}
use Rattle.fix_orders.specs.declared.message.Cancel.{Cancel}
use Rattle.fix_orders.specs.declared.message.Replace.{Replace}
use Rattle.limit_table.specs.declared.kind.AccountRow.{AccountRow}
use Rattle.limit_table.specs.declared.kind.SymbolRow.{SymbolRow}
use Rattle.limit_table.specs.declared.limits.Limits.{Limits}
use Rattle.exposure_book.specs.declared.answer.Proposal.{Proposal}
use Rattle.exposure_book.specs.declared.answer.BookFault.{BookFault}
use Rattle.exposure_book.specs.declared.answer.BookFault.TheVariants as fault
use Rattle.exposure_book.specs.declared.order.Order.{Order}
use Rattle.exposure_book.specs.declared.pending.Pending.TheVariants as pending
use Rattle.exposure_book.specs.Pendings.{is_same_id, is_pending}
use Rattle.exposure_book.specs.Orders.{reserve_price, is_closed}
use Rattle.exposure_book.specs.Books.{BookValue, place_of, proposal_of, with_orders}

-- each value is at most what a leaf may hold
abbrev pub is_within_cap : Proposal → Bool
is_within_cap values =
    nat_le values.firm LEAF && nat_le values.account LEAF && nat_le values.symbol LEAF

-- the values, or Cap
abbrev pub capped : Proposal → Result Proposal BookFault
capped values = if is_within_cap values then Ok values else Err fault.Cap

-- the order that a D asks for
abbrev pub new_order : NewOrder → ℕ → ℕ → ℕ → Order
new_order asked account symbol high = record {
  account = account;
  symbol = symbol;
  side = asked.side;
  total = asked.quantity;
  price = reserve_price asked.side asked.kind asked.price high;
  filled = 0;
  notional = 0;
  current = asked.id;
  pending = pending.Nothing;
  ended = false;
}

-- some order has the id
abbrev pub is_known : BookValue → List ℕ → Bool
is_known book id = is_some (place_of id book.ids)

-- what a D is answered: Duplicate, Cap, or the values with its order
abbrev pub proposal_of_new : BookValue → NewOrder → ℕ → ℕ → ℕ → Result Proposal BookFault
proposal_of_new book asked account symbol high =
    if is_known book asked.id then Err fault.Duplicate
    else capped (proposal_of
    (with_orders (book.orders ++ new_order asked account symbol high ∷ []) book) account symbol)

-- what stands against a request on this order: Closed, Pending, or Unknown where the id isn't its
-- current one; else the order's place
abbrev pub open_for_request : List ℕ → ℕ → Option Order → Result ℕ BookFault
open_for_request orig place None = Err fault.Unknown
open_for_request orig place (Some order) =
    if is_closed order then Err fault.Closed
    else (if is_pending order.pending then Err fault.Pending
    else (if is_same_id orig order.current then Ok place else Err fault.Unknown))

-- Unknown where no order has the id
abbrev pub requested_at : BookValue → List ℕ → Option ℕ → Result ℕ BookFault
requested_at book orig None = Err fault.Unknown
requested_at book orig (Some place) = open_for_request orig place (slice_get book.orders place)

-- what stands against a request with this ClOrdID and this OrigClOrdID: Duplicate, Unknown, Closed,
-- Pending, Unknown; else the place of the order that it names
abbrev pub requested : BookValue → List ℕ → List ℕ → Result ℕ BookFault
requested book id orig =
    if is_known book id then Err fault.Duplicate
    else requested_at book orig (place_of orig book.ids)

-- nothing, or the fault
abbrev pub fault_alone : Result ℕ BookFault → Result (Unit {0}) BookFault
fault_alone (Ok place) = Ok tt
fault_alone (Err why) = Err why

-- what an F is answered
abbrev pub proposal_of_cancel : BookValue → Cancel → Result (Unit {0}) BookFault
proposal_of_cancel book request = fault_alone (requested book request.id request.orig)

-- the row of an account has this name
abbrev pub is_account : List ℕ → Option AccountRow → Bool
is_account name None = false
is_account name (Some row) = is_same_id name row.name

-- the row of a symbol has this name
abbrev pub is_symbol : List ℕ → Option SymbolRow → Bool
is_symbol name None = false
is_symbol name (Some row) = is_same_id name row.name

-- the upper collar price of a symbol
abbrev pub high_of : Option SymbolRow → ℕ
high_of None = 0
high_of (Some row) = row.high

-- an account that is named is the order's
abbrev pub is_own_account : Option (List ℕ) → Limits → Order → Bool
is_own_account None limits order = true
is_own_account (Some name) limits order = is_account name (slice_get limits.accounts order.account)

-- Account is absent or the order's, and Symbol and Side are the order's
abbrev pub is_of_order : Replace → Limits → Order → Bool
is_of_order request limits order =
    is_own_account request.account limits order
    && is_symbol request.symbol (slice_get limits.symbols order.symbol)
    && (request.side == order.side)

-- the order with the replace pending on it
abbrev pub with_replace : Replace → Limits → Order → Order
with_replace request limits order =
    let high = high_of (slice_get limits.symbols order.symbol) in
    let price = reserve_price request.side request.kind request.price high in
    record order { pending = pending.Replace request.id request.quantity price }

-- Mismatch, Quantity, Cap, or the values with the replace pending
abbrev pub replace_of : BookValue → Replace → Limits → ℕ → Option Order → Result Proposal BookFault
replace_of book request limits place None = Err fault.Unknown
replace_of book request limits place (Some order) =
    if not (is_of_order request limits order) then Err fault.Mismatch
    else (if nat_le request.quantity order.filled then Err fault.Quantity
    else capped (proposal_of
    (with_orders (slice_set book.orders place (with_replace request limits order)) book)
    order.account order.symbol))

-- the faults that a replace shares with a cancel come first
abbrev pub replace_at : BookValue → Replace → Limits → Result ℕ BookFault
    → Result Proposal BookFault
replace_at book request limits (Err why) = Err why
replace_at book request limits (Ok place) =
    replace_of book request limits place (slice_get book.orders place)

-- what a G is answered
abbrev pub proposal_of_replace : BookValue → Replace → Limits → Result Proposal BookFault
proposal_of_replace book request limits =
    replace_at book request limits (requested book request.id request.orig)
