-- The first fault of a message's fields.
use Rattle.std.specs.Prelude.{ℕ, ◌==◌, List, [], ◌∷◌, length, codes, Option, Some, None, Result, Ok}
use Rattle.std.specs.Prelude.{Err, Bool, true, false, if◌then◌else◌}
use Rattle.std.specs.Str.{bytes_eq}
use Rattle.fix_fields.specs.Fields.{FieldValue}
use Rattle.fix_fields.specs.Numbers.{price_of, quantity_of, sequence_of, id_of}
use Rattle.fix_fields.specs.declared.number.Spelling.{Spelling}
use Rattle.fix_fields.specs.declared.number.Spelling.TheVariants.{Form, Range}
use Rattle.fix_orders.specs.declared.kind.Kind.{Kind}
use Rattle.fix_orders.specs.declared.message.FieldFault.{FieldFault}
use Rattle.fix_orders.specs.declared.reason.Reason.{Reason}
use Rattle.fix_orders.specs.declared.reason.Reason.TheVariants.{Missing, Repeated, Empty}
use Rattle.fix_orders.specs.declared.reason.Reason.TheVariants.{Misspelled, OutOfRange}
use Rattle.fix_orders.specs.declared.table.Need.{Need}
use Rattle.fix_orders.specs.declared.table.Need.TheVariants.{Unread, Optional, Required}
use Rattle.fix_orders.specs.declared.table.Need.TheVariants.{WithLimit, WithTrade}
use Rattle.fix_orders.specs.declared.table.ReadAs.{ReadAs}
use Rattle.fix_orders.specs.declared.table.ReadAs.TheVariants.{Sequence, Identifier, AnyText}
use Rattle.fix_orders.specs.declared.table.ReadAs.TheVariants.{SideCode, Quantity, OrdType, Price}
use Rattle.fix_orders.specs.declared.table.Row.{Row}
use Rattle.fix_orders.specs.Sides.{side_of, order_kind_of}
use Rattle.fix_orders.specs.Table.{need_in}

-- the values of a tag, in their order
abbrev pub values_of : ℕ → List FieldValue → List (List ℕ)
values_of tag [] = []
values_of tag (f ∷ fields) =
    if f.tag == tag then f.value ∷ values_of tag fields else values_of tag fields

-- the first of some values, and nothing where there is none
abbrev pub first_value : List (List ℕ) → List ℕ
first_value [] = []
first_value (value ∷ values) = value

-- the first value of a tag, and nothing where there is none
abbrev pub value_of : ℕ → List FieldValue → List ℕ
value_of tag fields = first_value (values_of tag fields)

-- SessionRejectReason (373)
abbrev pub reason_code : Reason → ℕ
reason_code Missing = 1
reason_code Repeated = 13
reason_code Empty = 4
reason_code Misspelled = 6
reason_code OutOfRange = 5

-- the reason, if any, of what a reader answers
abbrev pub spelling_reason : {A : Type 0} → Result A Spelling → Option Reason
spelling_reason (Ok value) = None
spelling_reason (Err Form) = Some Misspelled
spelling_reason (Err Range) = Some OutOfRange

-- the reason, if any, for which a value isn't read
abbrev pub text_reason : ReadAs → List ℕ → Option Reason
text_reason Sequence text = spelling_reason (sequence_of text)
text_reason Identifier text = spelling_reason (id_of text)
text_reason AnyText text = None
text_reason SideCode text = spelling_reason (side_of text)
text_reason Quantity text = spelling_reason (quantity_of text)
text_reason OrdType text = spelling_reason (order_kind_of text)
text_reason Price text = spelling_reason (price_of text)

-- the reason, if any, by the values that a tag has in a message in which it is read
abbrev pub values_reason : Bool → ReadAs → List (List ℕ) → Option Reason
values_reason required read_as [] = if required then Some Missing else None
values_reason required read_as (value ∷ []) =
    if length value == 0 then Some Empty else text_reason read_as value
values_reason required read_as (value ∷ other ∷ more) = Some Repeated

-- a field with this need is read in a message of these fields
abbrev pub is_read : List FieldValue → Need → Bool
is_read fields Unread = false
is_read fields Optional = true
is_read fields Required = true
is_read fields WithLimit = bytes_eq (value_of 40 fields) (codes "2")
is_read fields WithTrade = bytes_eq (value_of 150 fields) (codes "F")

-- a field with this need, where it is read, has to be there
abbrev pub is_required : Need → Bool
is_required Unread = false
is_required Optional = false
is_required Required = true
is_required WithLimit = true
is_required WithTrade = true

-- the reason, if any, of a row in a message
abbrev pub row_reason : Kind → List FieldValue → Row → Option Reason
row_reason kind fields r =
    if is_read fields (need_in kind r)
    then values_reason (is_required (need_in kind r)) r.read_as (values_of r.tag fields) else None

-- a row's reason with its tag, or what the later rows have
abbrev pub fault_or : Option Reason → ℕ → Option FieldFault → Option FieldFault
fault_or None tag later = later
fault_or (Some reason) tag later = Some (record { tag = tag; reason = reason_code reason })

-- the fault of the first row that has one
abbrev pub first_fault : Kind → List FieldValue → List Row → Option FieldFault
first_fault kind fields [] = None
first_fault kind fields (r ∷ rows) =
    fault_or (row_reason kind fields r) r.tag (first_fault kind fields rows)
