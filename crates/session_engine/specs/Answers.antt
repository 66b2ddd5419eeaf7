-- The messages that the gate writes.
use Rattle.std.specs.Prelude.{ℕ, List, ◌++◌, codes, decimal}
use Rattle.std.specs.Option.{unwrap_or}
use Rattle.fix_fields.specs.Fields.{FieldValue}
use Rattle.fix_fields.specs.Messages.{message_text}
use Rattle.fix_orders.specs.declared.message.FieldFault.{FieldFault}
use Rattle.fix_orders.specs.declared.message.Stamp.{Stamp}
use Rattle.fix_orders.specs.Envelopes.{envelope_of}
use Rattle.fix_orders.specs.Faults.{value_of}
use Rattle.fix_orders.specs.Writing.{forward_fields, order_reject_fields}
use Rattle.fix_orders.specs.Writing.{cancel_reject_fields, session_reject_fields}
use Rattle.risk_journal.specs.declared.acts.Act.{Act}
use Rattle.risk_journal.specs.declared.acts.Act.TheVariants.{Refused}
use Rattle.order_desk.specs.declared.refusal.Refusal.{Refusal}
use Rattle.order_desk.specs.declared.refusal.Refusal.TheVariants.{Firm, Account, Symbol, Halt}
use Rattle.order_desk.specs.declared.refusal.Refusal.TheVariants.{Quota, Cap, Duplicate}
use Rattle.order_desk.specs.declared.refusal.Refusal.TheVariants.{UnknownAccount, UnknownSymbol}
use Rattle.order_desk.specs.declared.refusal.Refusal.TheVariants.{Unknown, Closed, Pending}
use Rattle.order_desk.specs.declared.refusal.Refusal.TheVariants.{Mismatch, Quantity, Screen}
use Rattle.session_engine.specs.declared.note.Note.{Note}
use Rattle.session_engine.specs.declared.note.Note.TheVariants.{NotSound, OtherType, Stray}
use Rattle.session_engine.specs.declared.note.Note.TheVariants.{Over, FaultyField, NotLowered}

-- to whom a message goes, with which number and time
abbrev pub stamp_of : List ℕ → ℕ → List ℕ → Stamp
stamp_of receiver number time = record { target = receiver; seq = number; time = time }

-- a message passed on, with the time that it has
abbrev pub forward_text : List ℕ → ℕ → List FieldValue → List ℕ
forward_text receiver number fields =
    message_text (forward_fields (stamp_of receiver number (value_of 52 fields)) fields)

-- the number of a refusal in the journal
abbrev pub code_of : Refusal → ℕ
code_of Firm = 1
code_of Account = 2
code_of Symbol = 3
code_of Halt = 4
code_of Quota = 5
code_of Cap = 6
code_of Duplicate = 7
code_of UnknownAccount = 8
code_of UnknownSymbol = 9
code_of Unknown = 11
code_of Closed = 12
code_of Pending = 13
code_of Mismatch = 14
code_of Quantity = 15
code_of (Screen code) = 10

-- what the journal tells further of a refusal: the code of the screen that refuses
abbrev pub screen_code_of : Refusal → ℕ
screen_code_of (Screen code) = code
screen_code_of other = 0

-- the act that tells that the request of this frame is refused
abbrev pub refused_act : ℕ → Refusal → Act
refused_act frame why = Refused frame (code_of why) (screen_code_of why) 0

-- OrdRejReason (103): 0 broker or exchange option, 1 unknown symbol, 3 order exceeds limit, 6
-- duplicate order, 99 other, as which what no order is refused for is told too
abbrev pub order_reason_of : Refusal → ℕ
order_reason_of Firm = 3
order_reason_of Account = 3
order_reason_of Symbol = 3
order_reason_of Halt = 0
order_reason_of Quota = 0
order_reason_of Cap = 3
order_reason_of Duplicate = 6
order_reason_of UnknownAccount = 99
order_reason_of UnknownSymbol = 1
order_reason_of Unknown = 99
order_reason_of Closed = 99
order_reason_of Pending = 99
order_reason_of Mismatch = 99
order_reason_of Quantity = 99
order_reason_of (Screen code) = 99

-- CxlRejReason (102): 0 too late to cancel, 1 unknown order, 2 broker or exchange option, 3 already
-- pending cancel or replace, 6 duplicate ClOrdID; what no request is refused for is told as 2
abbrev pub request_reason_of : Refusal → ℕ
request_reason_of Firm = 2
request_reason_of Account = 2
request_reason_of Symbol = 2
request_reason_of Halt = 2
request_reason_of Quota = 2
request_reason_of Cap = 2
request_reason_of Duplicate = 6
request_reason_of UnknownAccount = 2
request_reason_of UnknownSymbol = 2
request_reason_of Unknown = 1
request_reason_of Closed = 0
request_reason_of Pending = 3
request_reason_of Mismatch = 2
request_reason_of Quantity = 2
request_reason_of (Screen code) = 2

-- Text (58)
abbrev pub text_of : Refusal → List ℕ
text_of Firm = codes "FIRM"
text_of Account = codes "ACCOUNT"
text_of Symbol = codes "SYMBOL"
text_of Halt = codes "HALT"
text_of Quota = codes "QUOTA"
text_of Cap = codes "CAP"
text_of Duplicate = codes "DUPLICATE"
text_of UnknownAccount = codes "UNKNOWN ACCOUNT"
text_of UnknownSymbol = codes "UNKNOWN SYMBOL"
text_of Unknown = codes "UNKNOWN"
text_of Closed = codes "CLOSED"
text_of Pending = codes "PENDING"
text_of Mismatch = codes "MISMATCH"
text_of Quantity = codes "QUANTITY"
text_of (Screen code) = codes "SCREEN " ++ decimal code

-- the message that refuses a request, by its receiver, its number, the request's fields and the
-- refusal
abbrev pub Wording : Type 0
Wording = List ℕ → ℕ → List FieldValue → Refusal → List ℕ

-- the ExecutionReport that refuses an order (D), with the time that the order has
abbrev pub order_refusal : Wording
order_refusal receiver number fields refusal =
    message_text (order_reject_fields fields (value_of 11 fields)
    (stamp_of receiver number (value_of 52 fields)) (order_reason_of refusal) (text_of refusal))

-- the OrderCancelReject that refuses a request, with the time that the request has:
-- CxlRejResponseTo (434) is 1 for a cancel (F) and 2 for a replace (G)
abbrev pub request_refusal : ℕ → Wording
request_refusal answers receiver number fields refusal =
    message_text (cancel_reject_fields (value_of 11 fields) (value_of 41 fields)
    (stamp_of receiver number (value_of 52 fields)) answers (request_reason_of refusal)
    (text_of refusal))

abbrev pub cancel_refusal : Wording
cancel_refusal = request_refusal 1

abbrev pub replace_refusal : Wording
replace_refusal = request_refusal 2

-- SendingTime (52) of the answer to a message in which it doesn't stand once as an id
abbrev pub no_time : List ℕ
no_time = codes "19700101-00:00:00"

-- the Reject of a message with a field fault: 45 is its number, or 0 where none is read
abbrev pub reject_text : List ℕ → ℕ → List FieldValue → FieldFault → List ℕ
reject_text receiver number fields fault =
    message_text (session_reject_fields
    (stamp_of receiver number (unwrap_or (envelope_of fields).time no_time))
    (unwrap_or (envelope_of fields).seq 0) (value_of 35 fields) fault)

-- the number of a refusal for a field fault in the journal
abbrev pub fault_code : ℕ
fault_code = 16

-- the number of a note in the journal
abbrev pub note_code : Note → ℕ
note_code NotSound = 1
note_code OtherType = 2
note_code Stray = 3
note_code Over = 4
note_code FaultyField = 5
note_code NotLowered = 6
