-- The messages that are written, as lists of fields.
use Rattle.std.specs.Prelude.{ℕ, ◌==◌, ◌||◌, List, [], ◌∷◌, ◌++◌, filter, codes, decimal, Bool, not}
use Rattle.fix_fields.specs.Fields.{FieldValue, field}
use Rattle.fix_orders.specs.declared.message.FieldFault.{FieldFault}
use Rattle.fix_orders.specs.declared.message.Stamp.{Stamp}
use Rattle.fix_orders.specs.Faults.{value_of}

-- the first fields of each message: its type, the gate as sender, its receiver, number and time
abbrev pub opening_fields : List ℕ → Stamp → List FieldValue
opening_fields kind stamp =
    field 35 kind ∷ field 49 (codes "GATE") ∷ field 56 stamp.target
    ∷ field 34 (decimal stamp.seq) ∷ field 52 stamp.time ∷ []

-- OrderID (37), of which there is none, and ClOrdID (11)
abbrev pub reply_fields : List ℕ → List FieldValue
reply_fields id = field 37 (codes "NONE") ∷ field 11 id ∷ []

-- a field that a forward has of its own
abbrev pub is_own_field : FieldValue → Bool
is_own_field f = f.tag == 35 || f.tag == 49 || f.tag == 56 || f.tag == 34 || f.tag == 52

-- a message passed on: its own first fields, then all others as they came, in their order
abbrev pub forward_fields : Stamp → List FieldValue → List FieldValue
forward_fields stamp fields =
    opening_fields (value_of 35 fields) stamp ++ filter (λ f. not (is_own_field f)) fields

-- the ExecutionReport that refuses a D: OrdRejReason (103) and Text (58) say why
abbrev pub order_reject_fields : List FieldValue → List ℕ → Stamp → ℕ → List ℕ → List FieldValue
order_reject_fields fields id stamp reason text =
    opening_fields (codes "8") stamp
    ++ field 37 (codes "NONE") ∷ field 11 id ∷ field 17 (codes "G" ++ decimal stamp.seq)
    ∷ field 150 (codes "8") ∷ field 39 (codes "8") ∷ field 103 (decimal reason)
    ∷ field 1 (value_of 1 fields) ∷ field 55 (value_of 55 fields) ∷ field 54 (value_of 54 fields)
    ∷ field 38 (value_of 38 fields) ∷ field 151 (codes "0") ∷ field 14 (codes "0")
    ∷ field 6 (codes "0") ∷ field 58 text ∷ []

-- The OrderCancelReject that refuses an F or a G: CxlRejResponseTo (434) says which of them,
-- CxlRejReason (102) and Text (58) say why.
abbrev pub cancel_reject_fields : List ℕ → List ℕ → Stamp → ℕ → ℕ → List ℕ → List FieldValue
cancel_reject_fields id orig stamp answers reason text =
    opening_fields (codes "9") stamp
    ++ field 37 (codes "NONE") ∷ field 11 id ∷ field 41 orig ∷ field 39 (codes "8")
    ∷ field 434 (decimal answers) ∷ field 102 (decimal reason) ∷ field 58 text ∷ []

-- The Reject of a message with a field fault: RefSeqNum (45), RefTagID (371), RefMsgType (372) and
-- SessionRejectReason (373).
abbrev pub session_reject_fields : Stamp → ℕ → List ℕ → FieldFault → List FieldValue
session_reject_fields stamp ref_seq kind fault =
    opening_fields (codes "3") stamp
    ++ field 45 (decimal ref_seq) ∷ field 371 (decimal fault.tag) ∷ field 372 kind
    ∷ field 373 (decimal fault.reason) ∷ []
