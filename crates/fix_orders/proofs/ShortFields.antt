-- Fields one after another, and how long they are.
use Rattle.std.proofs.Common.{◌≡◌, ℕ, ◌+◌, ◌*◌, ◌^◌, ◌≤◌, ◌<◌, List, [], ◌∷◌, ◌++◌, length, map, take}
use Rattle.std.proofs.Common.{refl, sym, ap, ◌∙◌, subst, arith, append_assoc, length-append}
use Rattle.std.proofs.Common.{decimal, zero, suc, Bool, true, ◌&&◌}
use Rattle.std.specs.Prelude.{Option, Some, IfSome, IsSome}
use Rattle.std.specs.List.{AllByRecursion, list_all}
use Rattle.std.proofs.Math.ListN.{get_or}
use Rattle.std.proofs.lemmas.Bool.Decides.{nat_tests}
use Rattle.std.proofs.lemmas.Fmt.{length-decimal-le}
use Rattle.std.proofs.lemmas.Grind.{flat_map-append}
use Rattle.std.proofs.lemmas.List.{map-append, take_more, take_all, append-nil}
use Rattle.fix_fields.specs.Fields.{FieldValue, field, field_text, fields_text, soh}
use Rattle.fix_fields.specs.Fields.{IsField, is_value_byte}
use Rattle.fix_fields.specs.IdText.{IsId}
use Rattle.fix_fields.specs.Numbers.{is_printable}
use Rattle.fix_fields.proofs.Decimals.{decimal_is_digits, digits_are_a_value}
use Rattle.fix_fields.proofs.FieldList.{fields_text-cons}
use Rattle.fix_orders.specs.declared.put.Part.{Part}
use Rattle.fix_orders.specs.Put.{IsShort, HasPut, HasRoom, part_value}

-- the digits of a number of 32 bits are short
pub number_is_short : (n : ℕ) → n < 2 ^ 32 → IsShort (decimal n)
number_is_short n fits = record {
  without_soh = digits_are_a_value (decimal n) (decimal_is_digits n (omega arith));
  few =
      let most = length-decimal-le 10 n (omega arith) (omega arith) (omega arith) in
      omega (arith, most);
}

next_printable : (d : ℕ) (rest : Bool) → (is_printable d && rest) ≡ true
    → (is_value_byte d ≡ true) × (rest ≡ true)
next_printable d rest h = grind (arith, nat_tests)

-- no printable byte ends a field
pub printable_are_a_value : (bytes : List ℕ) → list_all is_printable bytes ≡ true
    → list_all is_value_byte bytes ≡ true
printable_are_a_value [] h = refl
printable_are_a_value (d ∷ bytes) h =
    let next = next_printable d (list_all is_printable bytes) h in
    rw next.0 (printable_are_a_value bytes next.1)

-- an id is short
pub id_is_short : (text : List ℕ) → IsId text → IsShort text
id_is_short text id = record {
  without_soh = printable_are_a_value text id.printable;
  few = id.most;
}

-- a field with a short value, and a tag of at most three digits
pub record IsPart (f : FieldValue) : Type 0 where
  pub least : 1 ≤ f.tag
  pub most : f.tag ≤ 999
  pub short : IsShort f.value

pub part : (tag : ℕ) (value : List ℕ) → 1 ≤ tag → tag ≤ 999 → IsShort value
    → IsPart (field tag value)
part tag value least most short = record { least = least; most = most; short = short }

pub parts_are_fields : (fields : List FieldValue) → AllByRecursion IsPart fields
    → AllByRecursion IsField fields
parts_are_fields [] each = tt
parts_are_fields (f ∷ fields) each = (
  record {
    least = each.0.least;
    most = omega (arith, each.0.most);
    without_soh = each.0.short.without_soh;
  },
  parts_are_fields fields each.1,
)

-- how long a field with a tag of so many digits is
pub sized : (digits tag : ℕ) (value : List ℕ) → 0 < digits → tag < 10 ^ digits → tag < 2 ^ 64
    → length (field_text (field tag value)) ≤ digits + 2 + length value
sized digits tag value some low fits =
    let count = length-decimal-le digits tag some low fits in
    omega (
      arith,
      count,
      length-append (decimal tag ++ 61 ∷ value) (soh ∷ []),
      length-append (decimal tag) (61 ∷ value),
    )

pub part_few : (f : FieldValue) → IsPart f → length (field_text f) ≤ 69
part_few f is =
    omega (
      arith,
      sized 3 f.tag f.value (omega arith) (omega (arith, is.most)) (omega (
        arith,
        is.most,
      )),
      is.short.few,
    )

-- the text of short fields
pub parts_few : (fields : List FieldValue) → AllByRecursion IsPart fields
    → length (fields_text fields) ≤ 69 * length fields
parts_few [] each = omega arith
parts_few (f ∷ fields) each = omega (
  arith,
  ap length (fields_text-cons f fields),
  length-append (field_text f) (fields_text fields),
  part_few f each.0,
  parts_few fields each.1,
)

one_field_text : (f : FieldValue) → fields_text (f ∷ []) ≡ field_text f
one_field_text f = fields_text-cons f [] ∙ append-nil (field_text f)

-- the text of one field more
pub fields_text-snoc : (fields : List FieldValue) (f : FieldValue)
    → fields_text (fields ++ f ∷ []) ≡ fields_text fields ++ field_text f
fields_text-snoc fields f =
    flat_map-append field_text fields (f ∷ [])
    ∙ ap (λ t. fields_text fields ++ t) (one_field_text f)

-- a message was begun
pub has_begun : (kind : ℕ) (writer : Option (List ℕ))
    → writer ≡ Some (field_text (field 35 (kind ∷ [])))
    → HasPut (field 35 (kind ∷ []) ∷ []) writer
has_begun kind writer is = is ∙ ap Some (sym (one_field_text (field 35 (kind ∷ []))))

pub is_begun : (fields : List FieldValue) (writer : Option (List ℕ)) → HasPut fields writer
    → IsSome writer
is_begun fields writer has = rw has refl

-- the fields with one part more
part_more : (parts : List Part) (i : ℕ) (none : Part) (fields : List FieldValue)
    → i < length parts
    → (fields ++ map part_value (take i parts)) ++ part_value (get_or parts i none) ∷ []
    ≡ fields ++ map part_value (take (i + 1) parts)
part_more parts i none fields in_range =
    append_assoc fields (map part_value (take i parts)) (part_value (get_or parts i none) ∷ [])
    ∙ ap (λ m. fields ++ m)
    (sym (map-append part_value (take i parts) (get_or parts i none ∷ []))
    ∙ ap (map part_value) (sym (take_more parts i none in_range)))

-- one part more was put
pub next_part : (parts : List Part) (i : ℕ) (none : Part) (fields : List FieldValue)
    (old new : Option (List ℕ)) → i < length parts
    → HasPut (fields ++ map part_value (take i parts)) old
    → IfSome old (λ body. new ≡ Some (body ++ field_text (part_value (get_or parts i none))))
    → HasPut (fields ++ map part_value (take (i + 1) parts)) new
next_part parts i none fields old new in_range has put =
    let so_far = fields ++ map part_value (take i parts) in
    let f = part_value (get_or parts i none) in
    let P : Option (List ℕ) → Type 0 = λ o. IfSome o (λ body. new ≡ Some (body ++ field_text f)) in
    subst P has put ∙ ap Some (sym (fields_text-snoc so_far f))
    ∙ ap (λ fs. Some (fields_text fs)) (part_more parts i none fields in_range)

-- the part at a place is a field
pub part_at : (parts : List Part) (i : ℕ) (none : Part)
    → AllByRecursion IsField (map part_value parts) → i < length parts
    → IsField (part_value (get_or parts i none))
part_at [] i none each in_range = absurd (omega arith)
part_at (p ∷ parts) zero none each in_range = each.0
part_at (p ∷ parts) (suc i) none each in_range = part_at parts i none each.1 (omega arith)

-- the parts up to a place and the one there are no longer than all
front_few : (parts : List Part) (i : ℕ) (none : Part) → i < length parts
    → length (fields_text (map part_value (take i parts)))
    + length (field_text (part_value (get_or parts i none)))
    ≤ length (fields_text (map part_value parts))
front_few [] i none in_range = absurd (omega arith)
front_few (p ∷ parts) zero none in_range = omega (
  arith,
  ap length (fields_text-cons (part_value p) (map part_value parts)),
  length-append (field_text (part_value p)) (fields_text (map part_value parts)),
)
front_few (p ∷ parts) (suc i) none in_range = omega (
  arith,
  ap length (fields_text-cons (part_value p) (map part_value parts)),
  ap length (fields_text-cons (part_value p) (map part_value (take i parts))),
  length-append (field_text (part_value p)) (fields_text (map part_value parts)),
  length-append (field_text (part_value p)) (fields_text (map part_value (take i parts))),
  front_few parts i none (omega arith),
)

-- the part at a place fits
pub next_fits : (parts : List Part) (i : ℕ) (none : Part) (start now : Option (List ℕ))
    → HasRoom (map part_value parts) start → i < length parts
    → ((fields : List FieldValue) → HasPut fields start
    → HasPut (fields ++ map part_value (take i parts)) now)
    → IfSome now
    (λ body. length body + length (field_text (part_value (get_or parts i none))) ≤ 8400)
next_fits parts i none start now (fields, has, room) in_range so_far =
    let P : Option (List ℕ) → Type 0 = λ o. IfSome o
    (λ body. length body + length (field_text (part_value (get_or parts i none))) ≤ 8400) in
    subst P (sym (so_far fields has)) (omega (
      arith,
      room,
      ap length (flat_map-append field_text fields (map part_value (take i parts))),
      length-append (fields_text fields) (fields_text (map part_value (take i parts))),
      front_few parts i none in_range,
    ))

-- all parts were put
pub all_parts : (parts : List Part) (i : ℕ) (fields : List FieldValue)
    (writer : Option (List ℕ)) → i ≡ length parts
    → HasPut (fields ++ map part_value (take i parts)) writer
    → HasPut (fields ++ map part_value parts) writer
all_parts parts i fields writer whole has =
    let P : List Part → Type 0 = λ ps. HasPut (fields ++ map part_value ps) writer in
    subst P (take_all i parts (omega arith)) has

-- room for short fields
pub room_for : (fields more : List FieldValue) (writer : Option (List ℕ)) → HasPut fields writer
    → length (fields_text fields) ≤ 1500 → AllByRecursion IsPart more → length more ≤ 100
    → HasRoom more writer
room_for fields more writer has short each few =
    (fields, has, omega (arith, short, parts_few more each, few))
