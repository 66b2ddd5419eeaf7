-- The values of an order that its refusal takes are short.
use Rattle.std.proofs.Common.{◌≡◌, ℕ, ◌≤◌, List, [], ◌∷◌, length, refl, sym, ap, subst, arith}
use Rattle.std.proofs.Common.{Bool, true, false, ◌||◌, ◌==◌, codes}
use Rattle.std.specs.Prelude.{None, Ok, Err, not, nat_lt, if◌then◌else◌}
use Rattle.std.specs.List.{AllByRecursion, list_all}
use Rattle.std.specs.Str.{bytes_eq}
use Rattle.std.proofs.lemmas.Bool.Decides.{nat_tests}
use Rattle.std.proofs.lemmas.Slice.Eq.{bytes_eq-Decides}
use Rattle.fix_fields.specs.Fields.{FieldValue, IsField, is_value_byte}
use Rattle.fix_fields.specs.Numbers.{is_printable, is_decimal, scaled}
use Rattle.fix_fields.specs.Numbers.{begins_with_minus, is_finer, is_outside}
use Rattle.fix_fields.specs.declared.frame.Frame.{Frame}
use Rattle.fix_fields.specs.declared.number.Spelling.TheVariants.{Form, Range}
use Rattle.fix_orders.specs.declared.kind.Kind.{Kind}
use Rattle.fix_orders.specs.declared.kind.Kind.TheVariants.{NewOrderSingle, OrderCancelRequest}
use Rattle.fix_orders.specs.declared.kind.Kind.TheVariants.{OrderCancelReplaceRequest}
use Rattle.fix_orders.specs.declared.kind.Kind.TheVariants.{ExecutionReport, OrderCancelReject}
use Rattle.fix_orders.specs.declared.kind.Kind.TheVariants.{Admin, Other}
use Rattle.fix_orders.specs.declared.message.Message.TheVariants as message
use Rattle.fix_orders.specs.declared.message.NewOrder.{NewOrder}
use Rattle.fix_orders.specs.declared.side.Side.TheVariants.{Buy, Sell, SellShort, SellShortExempt}
use Rattle.fix_orders.specs.declared.table.ReadAs.TheVariants.{Identifier, SideCode, Quantity}
use Rattle.fix_orders.specs.Faults.{spelling_reason, values_of, value_of, first_value}
use Rattle.fix_orders.specs.Faults.{text_reason, first_fault}
use Rattle.fix_orders.specs.Kinds.{kind_of}
use Rattle.fix_orders.specs.Put.{IsShort, IsReadAs}
use Rattle.fix_orders.specs.Reading.{read_of, message_of, new_order_of}
use Rattle.fix_orders.specs.Table.{table, row_at}
use Rattle.fix_orders.proofs.Passed.{unless_ok}
use Rattle.fix_orders.proofs.ReadLemmas.{each_none, one_text}
use Rattle.fix_orders.proofs.ShortFields.{printable_are_a_value}
use Rattle.fix_orders.proofs.Walks.{fields_each}

-- a message that is a NewOrderSingle was read as one
new_order_kind : (kind : Kind) (fields : List FieldValue) (order : NewOrder)
    → message_of kind fields ≡ message.New order
    → (kind ≡ NewOrderSingle) × (new_order_of fields ≡ order)
new_order_kind NewOrderSingle fields order e = (refl, cc)
new_order_kind OrderCancelRequest fields order e = absurd cc
new_order_kind OrderCancelReplaceRequest fields order e = absurd cc
new_order_kind ExecutionReport fields order e = absurd cc
new_order_kind OrderCancelReject fields order e = absurd cc
new_order_kind Admin fields order e = absurd cc
new_order_kind Other fields order e = absurd cc

-- an order that was read has no fault, and is that of its fields
pub record IsOrder (fields : List FieldValue) (order : NewOrder) : Type 0 where
  pub none : first_fault NewOrderSingle fields table ≡ None
  pub is : new_order_of fields ≡ order

pub order_was_read : (fields : List FieldValue) (order : NewOrder)
    → read_of fields ≡ Ok (message.New order) → IsOrder fields order
order_was_read fields order read =
    let kind = kind_of (value_of 35 fields) in
    let same = unless_ok (first_fault kind fields table) (message_of kind fields)
    (message.New order) read in
    let new = new_order_kind kind fields order same.1 in
    let P : Kind → Type 0 = λ k. first_fault k fields table ≡ None in
    record { none = subst P new.0 same.0; is = new.1 }

id_by : (c d : Bool) (text : List ℕ)
    → spelling_reason (if not c then Err Form else (if d then Err Range else Ok text)) ≡ None
    → (c ≡ true) × (d ≡ false)
id_by true false text e = (refl, refl)
id_by true true text e = absurd cc
id_by false d text e = absurd cc

few_by : (n : ℕ) → (n == 0 || nat_lt 64 n) ≡ false → n ≤ 64
few_by n h = grind (arith, nat_tests)

pub read_id_is_short : (text : List ℕ) → text_reason Identifier text ≡ None → IsShort text
read_id_is_short text e =
    let parts = id_by (list_all is_printable text)
    (length text == 0 || nat_lt 64 (length text)) text e in
    record {
      without_soh = printable_are_a_value text parts.0;
      few = few_by (length text) parts.1;
    }

-- one of four holds
second_of : (a b c d : Bool) → (a || b || c || d) ≡ false → b ≡ false
second_of a b c d h = grind arith

quantity_by : (c d : Bool) (n : ℕ)
    → spelling_reason (if not c then Err Form else (if d then Err Range else Ok n)) ≡ None
    → d ≡ false
quantity_by true false n e = refl
quantity_by true true n e = absurd cc
quantity_by false d n e = absurd cc

below_by : (n : ℕ) → nat_lt 32 n ≡ false → n ≤ 64
below_by n h = grind (arith, nat_tests)

quantity_is_few : (text : List ℕ) → text_reason Quantity text ≡ None → length text ≤ 64
quantity_is_few text e =
    let n = scaled 0 text in
    below_by (length text) (second_of (begins_with_minus text) (nat_lt 32 (length text))
    (is_finer 0 text) (is_outside 1000000000 n)
    (quantity_by (is_decimal text) (begins_with_minus text || nat_lt 32 (length text)
    || is_finer 0 text || is_outside 1000000000 n) n e))

side_by : (a b c d : Bool) (text : List ℕ) → (a ≡ true → text ≡ codes "1")
    → (b ≡ true → text ≡ codes "2") → (c ≡ true → text ≡ codes "5")
    → (d ≡ true → text ≡ codes "6")
    → spelling_reason (if a then Ok Buy else (if b then Ok Sell else (if c then Ok SellShort
    else (if d then Ok SellShortExempt else Err Range)))) ≡ None → length text ≤ 64
side_by true b c d text is_1 is_2 is_5 is_6 e = rw (is_1 refl) (omega arith)
side_by false true c d text is_1 is_2 is_5 is_6 e = rw (is_2 refl) (omega arith)
side_by false false true d text is_1 is_2 is_5 is_6 e = rw (is_5 refl) (omega arith)
side_by false false false true text is_1 is_2 is_5 is_6 e = rw (is_6 refl) (omega arith)
side_by false false false false text is_1 is_2 is_5 is_6 e = absurd cc

side_is_few : (text : List ℕ) → text_reason SideCode text ≡ None → length text ≤ 64
side_is_few text e =
    side_by (bytes_eq text (codes "1")) (bytes_eq text (codes "2")) (bytes_eq text (codes "5"))
    (bytes_eq text (codes "6")) text ((bytes_eq-Decides text (codes "1")).0)
    ((bytes_eq-Decides text (codes "2")).0) ((bytes_eq-Decides text (codes "5")).0)
    ((bytes_eq-Decides text (codes "6")).0) e

values_by : (same : Bool) (value : List ℕ) (values : List (List ℕ))
    → list_all is_value_byte value ≡ true → list_all is_value_byte (first_value values) ≡ true
    → list_all is_value_byte (first_value (if same then value ∷ values else values)) ≡ true
values_by true value values h k = h
values_by false value values h k = k

-- the value of a field has no SOH
value_is_whole : (tag : ℕ) (fields : List FieldValue) → AllByRecursion IsField fields
    → list_all is_value_byte (value_of tag fields) ≡ true
value_is_whole tag [] each = refl
value_is_whole tag (f ∷ fields) each =
    values_by (f.tag == tag) f.value (values_of tag fields) each.0.without_soh
    (value_is_whole tag fields each.1)

-- the values of an order that its refusal takes
pub record HasShortValues (fields : List FieldValue) : Type 0 where
  pub id : IsShort (value_of 11 fields)
  pub account : IsShort (value_of 1 fields)
  pub symbol : IsShort (value_of 55 fields)
  pub side : IsShort (value_of 54 fields)
  pub quantity : IsShort (value_of 38 fields)

pub values_are_short : (fields : List FieldValue) → first_fault NewOrderSingle fields table ≡ None
    → AllByRecursion IsField fields → HasShortValues fields
values_are_short fields none each = record {
  id = read_id_is_short (value_of 11 fields) (one_text Identifier (values_of 11 fields)
      (each_none NewOrderSingle fields table 6 (row_at 16) none (omega arith)));
  account = read_id_is_short (value_of 1 fields) (one_text Identifier (values_of 1 fields)
      (each_none NewOrderSingle fields table 8 (row_at 16) none (omega arith)));
  symbol = read_id_is_short (value_of 55 fields) (one_text Identifier (values_of 55 fields)
      (each_none NewOrderSingle fields table 9 (row_at 16) none (omega arith)));
  side = record {
    without_soh = value_is_whole 54 fields each;
    few = side_is_few (value_of 54 fields) (one_text SideCode (values_of 54 fields)
        (each_none NewOrderSingle fields table 10 (row_at 16) none (omega arith)));
  };
  quantity = record {
    without_soh = value_is_whole 38 fields each;
    few = quantity_is_few (value_of 38 fields) (one_text Quantity (values_of 38 fields)
        (each_none NewOrderSingle fields table 11 (row_at 16) none (omega arith)));
  };
}

-- an order that was read: its values are short, and its id is that of its field
pub order_shorts : (bytes : List ℕ) (frame : Frame) (order : NewOrder)
    → (r : IsReadAs bytes frame (message.New order)) → HasShortValues r.listed
order_shorts bytes frame order r =
    values_are_short r.listed (order_was_read r.listed order r.read).none
    (fields_each bytes frame r.listed r.stands)

pub order_id : (bytes : List ℕ) (frame : Frame) (order : NewOrder)
    → (r : IsReadAs bytes frame (message.New order)) → order.id ≡ value_of 11 r.listed
order_id bytes frame order r =
    ap (λ (o : NewOrder). o.id) (sym (order_was_read r.listed order r.read).is)

pub short_as : (text value : List ℕ) → text ≡ value → IsShort value → IsShort text
short_as text value is short = rw is short
