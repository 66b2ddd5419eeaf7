-- What a message that was read is, by its kind.
use Rattle.std.proofs.Common.{◌≡◌, List, refl}
use Rattle.std.specs.Prelude.{None, Ok}
use Rattle.fix_fields.specs.Fields.{FieldValue}
use Rattle.fix_orders.specs.declared.kind.Kind.{Kind}
use Rattle.fix_orders.specs.declared.kind.Kind.TheVariants as kind
use Rattle.fix_orders.specs.declared.message.Cancel.{Cancel}
use Rattle.fix_orders.specs.declared.message.CancelReject.{CancelReject}
use Rattle.fix_orders.specs.declared.message.Message.{Message}
use Rattle.fix_orders.specs.declared.message.Message.TheVariants as message
use Rattle.fix_orders.specs.declared.message.NewOrder.{NewOrder}
use Rattle.fix_orders.specs.declared.message.Replace.{Replace}
use Rattle.fix_orders.specs.declared.message.Report.{Report}
use Rattle.fix_orders.specs.Faults.{first_fault, value_of}
use Rattle.fix_orders.specs.Kinds.{kind_of}
use Rattle.fix_orders.specs.Reading.{cancel_of, cancel_reject_of, message_of, new_order_of, read_of}
use Rattle.fix_orders.specs.Reading.{replace_of, report_of}
use Rattle.fix_orders.specs.Table.{table}
use Rattle.fix_orders.proofs.Passed.{unless_ok}

-- a message that was read has no fault, and is that of its kind
pub message_read : (fields : List FieldValue) (whole : Message) → read_of fields ≡ Ok whole
    → (first_fault (kind_of (value_of 35 fields)) fields table ≡ None)
    × (message_of (kind_of (value_of 35 fields)) fields ≡ whole)
message_read fields whole read =
    let k = kind_of (value_of 35 fields) in
    unless_ok (first_fault k fields table) (message_of k fields) whole read

pub new_kind : (k : Kind) (fields : List FieldValue) (order : NewOrder)
    → message_of k fields ≡ message.New order
    → (k ≡ kind.NewOrderSingle) × (new_order_of fields ≡ order)
new_kind kind.NewOrderSingle fields order e = (refl, cc)
new_kind kind.OrderCancelRequest fields order e = absurd cc
new_kind kind.OrderCancelReplaceRequest fields order e = absurd cc
new_kind kind.ExecutionReport fields order e = absurd cc
new_kind kind.OrderCancelReject fields order e = absurd cc
new_kind kind.Admin fields order e = absurd cc
new_kind kind.Other fields order e = absurd cc

pub cancel_kind : (k : Kind) (fields : List FieldValue) (cancel : Cancel)
    → message_of k fields ≡ message.Cancel cancel
    → (k ≡ kind.OrderCancelRequest) × (cancel_of fields ≡ cancel)
cancel_kind kind.NewOrderSingle fields cancel e = absurd cc
cancel_kind kind.OrderCancelRequest fields cancel e = (refl, cc)
cancel_kind kind.OrderCancelReplaceRequest fields cancel e = absurd cc
cancel_kind kind.ExecutionReport fields cancel e = absurd cc
cancel_kind kind.OrderCancelReject fields cancel e = absurd cc
cancel_kind kind.Admin fields cancel e = absurd cc
cancel_kind kind.Other fields cancel e = absurd cc

pub replace_kind : (k : Kind) (fields : List FieldValue) (replace : Replace)
    → message_of k fields ≡ message.Replace replace
    → (k ≡ kind.OrderCancelReplaceRequest) × (replace_of fields ≡ replace)
replace_kind kind.NewOrderSingle fields replace e = absurd cc
replace_kind kind.OrderCancelRequest fields replace e = absurd cc
replace_kind kind.OrderCancelReplaceRequest fields replace e = (refl, cc)
replace_kind kind.ExecutionReport fields replace e = absurd cc
replace_kind kind.OrderCancelReject fields replace e = absurd cc
replace_kind kind.Admin fields replace e = absurd cc
replace_kind kind.Other fields replace e = absurd cc

pub report_kind : (k : Kind) (fields : List FieldValue) (report : Report)
    → message_of k fields ≡ message.Report report
    → (k ≡ kind.ExecutionReport) × (report_of fields ≡ report)
report_kind kind.NewOrderSingle fields report e = absurd cc
report_kind kind.OrderCancelRequest fields report e = absurd cc
report_kind kind.OrderCancelReplaceRequest fields report e = absurd cc
report_kind kind.ExecutionReport fields report e = (refl, cc)
report_kind kind.OrderCancelReject fields report e = absurd cc
report_kind kind.Admin fields report e = absurd cc
report_kind kind.Other fields report e = absurd cc

pub reject_kind : (k : Kind) (fields : List FieldValue) (reject : CancelReject)
    → message_of k fields ≡ message.CancelReject reject
    → (k ≡ kind.OrderCancelReject) × (cancel_reject_of fields ≡ reject)
reject_kind kind.NewOrderSingle fields reject e = absurd cc
reject_kind kind.OrderCancelRequest fields reject e = absurd cc
reject_kind kind.OrderCancelReplaceRequest fields reject e = absurd cc
reject_kind kind.ExecutionReport fields reject e = absurd cc
reject_kind kind.OrderCancelReject fields reject e = (refl, cc)
reject_kind kind.Admin fields reject e = absurd cc
reject_kind kind.Other fields reject e = absurd cc

-- an order, and a replace, is that of the fields
pub new_is : (fields : List FieldValue) (order : NewOrder)
    → read_of fields ≡ Ok (message.New order) → new_order_of fields ≡ order
new_is fields order read =
    (new_kind (kind_of (value_of 35 fields)) fields order
    (message_read fields (message.New order) read).1).1

pub replace_is : (fields : List FieldValue) (replace : Replace)
    → read_of fields ≡ Ok (message.Replace replace) → replace_of fields ≡ replace
replace_is fields replace read =
    (replace_kind (kind_of (value_of 35 fields)) fields replace
    (message_read fields (message.Replace replace) read).1).1
