-- A message of a load: what it needs to be written, and to be read again.
use Rattle.std.proofs.Common.{◌≡◌, ℕ, ◌+◌, ◌*◌, ◌^◌, ◌<◌, ◌≤◌, List, [], ◌∷◌, ◌++◌, length, map}
use Rattle.std.proofs.Common.{refl, sym, ap, ◌∙◌, subst, arith, decimal, take, get_or, length-append}
use Rattle.std.proofs.Common.{zero, suc, true}
use Rattle.std.specs.Prelude.{Option, Some, None, IfSome, IsSome}
use Rattle.std.specs.List.{AllByRecursion}
use Rattle.std.proofs.lemmas.Bool.Decides.{nat_tests}
use Rattle.std.proofs.lemmas.Fmt.{length-decimal-le}
use Rattle.std.proofs.lemmas.List.{map-append, take_more, take_all}
use Rattle.fix_fields.specs.Fields.{FieldValue, IsField, field, field_text, fields_text}
use Rattle.fix_fields.specs.Fields.{is_value_byte, checksum_of}
use Rattle.fix_fields.specs.Frames.{head_text, trailer_text}
use Rattle.fix_fields.specs.Messages.{frame_text, message_text, three_digits}
use Rattle.fix_fields.proofs.FieldList.{fields_text-cons}
use Rattle.fix_orders.proofs.ShortFields.{fields_text-snoc, sized}
use Rattle.make_load.specs.declared.part.Part.{Part}
use Rattle.make_load.specs.Loads.{line_of}
use Rattle.make_load.specs.Values.{IsPart, part_value, message_of}
use Rattle.make_load.proofs.Spelling.{parts_are_fields, part_size, parts_size}

-- a type that can be written
pub record IsKind (kind : ℕ) : Type 0 where
  pub least : 33 ≤ kind
  pub most : kind ≤ 126

kind_byte : (kind : ℕ) → 33 ≤ kind → is_value_byte kind ≡ true
kind_byte kind least = grind (arith, nat_tests)

kind_is_field : (kind : ℕ) → IsKind kind → IsField (field 35 (kind ∷ []))
kind_is_field kind is = record {
  least = omega arith;
  most = omega arith;
  without_soh = rw (kind_byte kind is.least) refl;
}

-- a message of short fields, of which there are few
pub record IsMessage (fields : List FieldValue) : Type 0 where
  pub kind : ℕ
  pub parts : List Part
  pub is : fields ≡ message_of kind parts
  pub typed : IsKind kind
  pub each : AllByRecursion IsPart parts
  pub few : length parts ≤ 20

pub fields_each : (kind : ℕ) (parts : List Part) → IsKind kind → AllByRecursion IsPart parts
    → AllByRecursion IsField (message_of kind parts)
fields_each kind parts is each = (kind_is_field kind is, parts_are_fields parts each)

-- the body of a message of so many fields behind its type
pub body_size : (kind : ℕ) (parts : List Part) → AllByRecursion IsPart parts
    → length (fields_text (message_of kind parts)) ≤ 5 + 22 * length parts
body_size kind parts each = omega (
  arith,
  sized 2 35 (kind ∷ []) (omega arith) (omega arith) (omega arith),
  ap length (fields_text-cons (field 35 (kind ∷ [])) (map part_value parts)),
  length-append (field_text (field 35 (kind ∷ []))) (fields_text (map part_value parts)),
  parts_size parts each,
)

frame_size : (body : List ℕ) → length body < 10 ^ 7 → length (frame_text body) ≤ 27 + length body
frame_size body few =
    let digits = decimal (length body) in
    let sum = three_digits (checksum_of (head_text digits ++ body)) in
    omega (
      arith,
      length-append (head_text digits ++ body) (trailer_text sum),
      length-append (head_text digits) body,
      length-append digits (1 ∷ []),
      length-decimal-le 7 (length body) (omega arith) few (omega arith),
    )

-- a line of a load is short
pub line_size : (fields : List FieldValue) → IsMessage fields → length (line_of fields) ≤ 500
line_size fields m =
    let size = body_size m.kind m.parts m.each in
    let body = fields_text (message_of m.kind m.parts) in
    let few : length body ≤ 445 = omega (arith, size, m.few) in
    rw m.is (omega (
      arith,
      few,
      length-append (message_text (message_of m.kind m.parts)) (10 ∷ []),
      frame_size body (omega (arith, few)),
    ))

-- parts of which some were taken are parts
pub taken_each : (parts : List Part) (count : ℕ) → AllByRecursion IsPart parts
    → AllByRecursion IsPart (take count parts)
taken_each parts zero each = tt
taken_each [] (suc count) each = tt
taken_each (part ∷ parts) (suc count) each = (each.0, taken_each parts count each.1)

pub taken_few : (parts : List Part) (count : ℕ) → length (take count parts) ≤ length parts
taken_few parts zero = omega arith
taken_few [] (suc count) = omega arith
taken_few (part ∷ parts) (suc count) = omega (arith, taken_few parts count)

pub part_at : (parts : List Part) (i : ℕ) (none : Part) → AllByRecursion IsPart parts
    → i < length parts → IsPart (get_or parts i none)
part_at [] i none each in_range = absurd (omega arith)
part_at (p ∷ parts) zero none each in_range = each.0
part_at (p ∷ parts) (suc i) none each in_range = part_at parts i none each.1 (omega arith)

-- the message so far
abbrev pub HasTo : ℕ → List Part → ℕ → Option (List ℕ) → Type 0
HasTo kind parts i writer = writer ≡ Some (fields_text (message_of kind (take i parts)))

one_field : (f : FieldValue) → fields_text (f ∷ []) ≡ field_text f
one_field f = fields_text-cons f [] ∙ append_nothing (field_text f) where
  append_nothing : (xs : List ℕ) → xs ++ [] ≡ xs
  append_nothing [] = refl
  append_nothing (x ∷ xs) = ap (λ r. x ∷ r) (append_nothing xs)

pub has_begun : (kind : ℕ) (parts : List Part) (writer : Option (List ℕ))
    → writer ≡ Some (field_text (field 35 (kind ∷ []))) → HasTo kind parts 0 writer
has_begun kind parts writer is = is ∙ ap Some (sym (one_field (field 35 (kind ∷ []))))

pub is_begun : (kind : ℕ) (parts : List Part) (i : ℕ) (writer : Option (List ℕ))
    → HasTo kind parts i writer → IsSome writer
is_begun kind parts i writer has = rw has refl

-- the fields so far leave room
pub has_room : (kind : ℕ) (parts : List Part) (i : ℕ) (writer : Option (List ℕ))
    → AllByRecursion IsPart parts → length parts ≤ 20 → HasTo kind parts i writer
    → IfSome writer (λ body. length body ≤ 8000)
has_room kind parts i writer each few has =
    let P : Option (List ℕ) → Type 0 = λ o. IfSome o (λ body. length body ≤ 8000) in
    subst P (sym has) (omega (
      arith,
      body_size kind (take i parts) (taken_each parts i each),
      taken_few parts i,
      few,
    ))

-- the fields with one part more
pub fields_more : (kind : ℕ) (parts : List Part) (i : ℕ) (none : Part) → i < length parts
    → message_of kind (take i parts) ++ part_value (get_or parts i none) ∷ []
    ≡ message_of kind (take (i + 1) parts)
fields_more kind parts i none in_range =
    ap (λ m. field 35 (kind ∷ []) ∷ m)
    (sym (map-append part_value (take i parts) (get_or parts i none ∷ []))
    ∙ ap (map part_value) (sym (take_more parts i none in_range)))

pub has_more : (kind : ℕ) (parts : List Part) (i : ℕ) (none : Part) (old new : Option (List ℕ))
    → i < length parts → HasTo kind parts i old
    → IfSome old (λ body. new ≡ Some (body ++ field_text (part_value (get_or parts i none))))
    → HasTo kind parts (i + 1) new
has_more kind parts i none old new in_range has put =
    let so_far = message_of kind (take i parts) in
    let f = part_value (get_or parts i none) in
    let P : Option (List ℕ) → Type 0 = λ o. IfSome o (λ body. new ≡ Some (body ++ field_text f)) in
    subst P has put ∙ ap Some (sym (fields_text-snoc so_far f))
    ∙ ap (λ fs. Some (fields_text fs)) (fields_more kind parts i none in_range)

pub has_all : (kind : ℕ) (parts : List Part) (i : ℕ) (writer : Option (List ℕ))
    → length parts ≤ i → HasTo kind parts i writer
    → writer ≡ Some (fields_text (message_of kind parts))
has_all kind parts i writer whole has =
    has ∙ ap (λ ps. Some (fields_text (message_of kind ps))) (take_all i parts whole)

-- the field of a part fits behind a body that leaves room
pub part_fits : (part : Part) (writer : Option (List ℕ)) → IsPart part
    → IfSome writer (λ body. length body ≤ 8000)
    → IfSome writer (λ body. length body + length (field_text (part_value part)) ≤ 8400)
part_fits part writer is room = if_some writer room where
  if_some : (o : Option (List ℕ)) → IfSome o (λ body. length body ≤ 8000)
      → IfSome o (λ body. length body + length (field_text (part_value part)) ≤ 8400)
  if_some None left = tt
  if_some (Some body) left = omega (arith, left, part_size part is)
