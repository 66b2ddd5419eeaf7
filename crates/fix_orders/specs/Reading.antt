-- What is read of a sound frame's fields.
use Rattle.std.specs.Prelude.{ℕ, List, [], ◌∷◌, codes, Option, Some, None, Result, Ok, Err}
use Rattle.std.specs.Prelude.{if◌then◌else◌}
use Rattle.std.specs.Str.{bytes_eq}
use Rattle.fix_fields.specs.Fields.{FieldValue}
use Rattle.fix_fields.specs.Numbers.{price_of, quantity_of, sequence_of}
use Rattle.fix_fields.specs.declared.number.Spelling.{Spelling}
use Rattle.fix_orders.specs.declared.kind.Kind.{Kind}
use Rattle.fix_orders.specs.declared.kind.Kind.TheVariants.{NewOrderSingle, OrderCancelRequest}
use Rattle.fix_orders.specs.declared.kind.Kind.TheVariants.{OrderCancelReplaceRequest}
use Rattle.fix_orders.specs.declared.kind.Kind.TheVariants.{ExecutionReport, OrderCancelReject}
use Rattle.fix_orders.specs.declared.kind.Kind.TheVariants.{Admin, Other}
use Rattle.fix_orders.specs.declared.message.Cancel.{Cancel}
use Rattle.fix_orders.specs.declared.message.CancelReject.{CancelReject}
use Rattle.fix_orders.specs.declared.message.Exec.{Exec}
use Rattle.fix_orders.specs.declared.message.Exec.TheVariants as exec
use Rattle.fix_orders.specs.declared.message.FieldFault.{FieldFault}
use Rattle.fix_orders.specs.declared.message.Head.{Head}
use Rattle.fix_orders.specs.declared.message.Message.{Message}
use Rattle.fix_orders.specs.declared.message.Message.TheVariants as message
use Rattle.fix_orders.specs.declared.message.NewOrder.{NewOrder}
use Rattle.fix_orders.specs.declared.message.OrderKind.{OrderKind}
use Rattle.fix_orders.specs.declared.message.OrderKind.TheVariants.{Market, Limit}
use Rattle.fix_orders.specs.declared.message.Replace.{Replace}
use Rattle.fix_orders.specs.declared.message.Report.{Report}
use Rattle.fix_orders.specs.declared.side.Side.{Side}
use Rattle.fix_orders.specs.Faults.{values_of, value_of, first_fault}
use Rattle.fix_orders.specs.Kinds.{kind_of}
use Rattle.fix_orders.specs.Sides.{side_of, byte_of, order_kind_of}
use Rattle.fix_orders.specs.Table.{table}

-- the number that was read; a message without a fault has one
abbrev pub number_in : Result ℕ Spelling → ℕ
number_in (Ok n) = n
number_in (Err fault) = 0

-- the byte of the side that was read; a message without a fault has one
abbrev pub byte_in : Result Side Spelling → ℕ
byte_in (Ok side) = byte_of side
byte_in (Err fault) = 0

-- the order type that was read; a message without a fault has one
abbrev pub order_kind_in : Result OrderKind Spelling → OrderKind
order_kind_in (Ok kind) = kind
order_kind_in (Err fault) = Market

-- the first of some values, where there is one
abbrev pub optional_value : List (List ℕ) → Option (List ℕ)
optional_value [] = None
optional_value (value ∷ values) = Some value

-- who sent the message, to whom, with which number and when
abbrev pub head_of : List FieldValue → Head
head_of fields = record {
  sender = value_of 49 fields;
  target = value_of 56 fields;
  seq = number_in (sequence_of (value_of 34 fields));
  time = value_of 52 fields;
}

-- Price (44) of a limit order, and 0 of a market order
abbrev pub price_for : OrderKind → List ℕ → ℕ
price_for Market text = 0
price_for Limit text = number_in (price_of text)

-- the order's type
abbrev pub order_kind_for : List FieldValue → OrderKind
order_kind_for fields = order_kind_in (order_kind_of (value_of 40 fields))

-- a NewOrderSingle
abbrev pub new_order_of : List FieldValue → NewOrder
new_order_of fields = record {
  head = head_of fields;
  id = value_of 11 fields;
  account = value_of 1 fields;
  symbol = value_of 55 fields;
  side = byte_in (side_of (value_of 54 fields));
  quantity = number_in (quantity_of (value_of 38 fields));
  kind = order_kind_for fields;
  price = price_for (order_kind_for fields) (value_of 44 fields);
}

-- an OrderCancelRequest
abbrev pub cancel_of : List FieldValue → Cancel
cancel_of fields = record {
  head = head_of fields;
  id = value_of 11 fields;
  orig = value_of 41 fields;
}

-- an OrderCancelReplaceRequest
abbrev pub replace_of : List FieldValue → Replace
replace_of fields = record {
  head = head_of fields;
  id = value_of 11 fields;
  orig = value_of 41 fields;
  account = optional_value (values_of 1 fields);
  symbol = value_of 55 fields;
  side = byte_in (side_of (value_of 54 fields));
  quantity = number_in (quantity_of (value_of 38 fields));
  kind = order_kind_for fields;
  price = price_for (order_kind_for fields) (value_of 44 fields);
}

-- ExecType (150), with LastQty (32) and LastPx (31) of a trade
abbrev pub exec_of : List FieldValue → Exec
exec_of fields =
    let type_text = value_of 150 fields in
    if bytes_eq type_text (codes "0") then exec.New
    else (if bytes_eq type_text (codes "4") then exec.Canceled
    else (if bytes_eq type_text (codes "5") then exec.Replaced
    else (if bytes_eq type_text (codes "8") then exec.Rejected
    else (if bytes_eq type_text (codes "C") then exec.Expired
    else (if bytes_eq type_text (codes "F")
    then exec.Trade (number_in (quantity_of (value_of 32 fields)))
    (number_in (price_of (value_of 31 fields)))
    else exec.Else)))))

-- an ExecutionReport
abbrev pub report_of : List FieldValue → Report
report_of fields = record {
  head = head_of fields;
  id = optional_value (values_of 11 fields);
  exec = exec_of fields;
}

-- an OrderCancelReject
abbrev pub cancel_reject_of : List FieldValue → CancelReject
cancel_reject_of fields = record {
  head = head_of fields;
  id = value_of 11 fields;
}

-- the message of a kind with these fields, where it has no fault
abbrev pub message_of : Kind → List FieldValue → Message
message_of NewOrderSingle fields = message.New (new_order_of fields)
message_of OrderCancelRequest fields = message.Cancel (cancel_of fields)
message_of OrderCancelReplaceRequest fields = message.Replace (replace_of fields)
message_of ExecutionReport fields = message.Report (report_of fields)
message_of OrderCancelReject fields = message.CancelReject (cancel_reject_of fields)
message_of Admin fields = message.Admin
message_of Other fields = message.Other

-- the fault, or the message where there is none
abbrev pub message_unless : Option FieldFault → Message → Result Message FieldFault
message_unless None whole = Ok whole
message_unless (Some fault) whole = Err fault

-- what is read of a message of this kind: the fault of the first row that has one, else the message
abbrev pub read_as : Kind → List FieldValue → Result Message FieldFault
read_as kind fields = message_unless (first_fault kind fields table) (message_of kind fields)

-- what is read of a sound frame with these fields: MsgType (35) tells the kind
abbrev pub read_of : List FieldValue → Result Message FieldFault
read_of fields = read_as (kind_of (value_of 35 fields)) fields
