-- Which fields are read in which kind of message, and how.
use Rattle.std.specs.Prelude.{ℕ, List, [], ◌∷◌, slice_index_or}
use Rattle.fix_orders.specs.declared.kind.Kind.{Kind}
use Rattle.fix_orders.specs.declared.kind.Kind.TheVariants.{NewOrderSingle, OrderCancelRequest}
use Rattle.fix_orders.specs.declared.kind.Kind.TheVariants.{OrderCancelReplaceRequest}
use Rattle.fix_orders.specs.declared.kind.Kind.TheVariants.{ExecutionReport, OrderCancelReject}
use Rattle.fix_orders.specs.declared.kind.Kind.TheVariants.{Admin, Other}
use Rattle.fix_orders.specs.declared.table.Need.{Need}
use Rattle.fix_orders.specs.declared.table.Need.TheVariants.{Unread, Optional, Required}
use Rattle.fix_orders.specs.declared.table.Need.TheVariants.{WithLimit, WithTrade}
use Rattle.fix_orders.specs.declared.table.ReadAs.{ReadAs}
use Rattle.fix_orders.specs.declared.table.ReadAs.TheVariants.{Sequence, Identifier, AnyText}
use Rattle.fix_orders.specs.declared.table.ReadAs.TheVariants.{SideCode, Quantity, OrdType, Price}
use Rattle.fix_orders.specs.declared.table.Row.{Row}

-- a field with this tag, what reads it, and whether it is read in D, F, G, 8 and 9
abbrev pub row : ℕ → ReadAs → Need → Need → Need → Need → Need → Row
row tag read_as new_order cancel replace report cancel_reject = record {
  tag = tag;
  read_as = read_as;
  new_order = new_order;
  cancel = cancel;
  replace = replace;
  report = report;
  cancel_reject = cancel_reject;
}

-- the fields that are read, in the order in which faults are looked for
--  tag, read as,                D         F         G         8         9
abbrev pub table : List Row
table =
    row 34 Sequence Required Required Required Required Required
    ∷ row 49 Identifier Required Required Required Required Required
    ∷ row 56 Identifier Required Required Required Required Required
    ∷ row 52 Identifier Required Required Required Required Required
    ∷ row 35 AnyText Required Required Required Required Required
    ∷ row 150 Identifier Unread Unread Unread Required Unread
    ∷ row 11 Identifier Required Required Required Optional Required
    ∷ row 41 Identifier Unread Required Required Unread Unread
    ∷ row 1 Identifier Required Unread Optional Unread Unread
    ∷ row 55 Identifier Required Unread Required Unread Unread
    ∷ row 54 SideCode Required Unread Required Unread Unread
    ∷ row 38 Quantity Required Unread Required Unread Unread
    ∷ row 40 OrdType Required Unread Required Unread Unread
    ∷ row 44 Price WithLimit Unread WithLimit Unread Unread
    ∷ row 32 Quantity Unread Unread Unread WithTrade Unread
    ∷ row 31 Price Unread Unread Unread WithTrade Unread
    ∷ []

-- the row at a place of the table, from 0
abbrev pub row_at : ℕ → Row
row_at place = slice_index_or table place (row 0 AnyText Unread Unread Unread Unread Unread)

-- whether a row's field is read in a kind of message
abbrev pub need_in : Kind → Row → Need
need_in NewOrderSingle r = r.new_order
need_in OrderCancelRequest r = r.cancel
need_in OrderCancelReplaceRequest r = r.replace
need_in ExecutionReport r = r.report
need_in OrderCancelReject r = r.cancel_reject
need_in Admin r = Unread
need_in Other r = Unread
