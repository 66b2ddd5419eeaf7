-- What is written is read again as one sound frame with the same fields.
use Rattle.std.proofs.Common.{◌≡◌, ◌≢◌, ℕ, ◌+◌, ◌/◌, ◌%◌, ◌<◌, ◌≤◌, List, [], ◌∷◌, ◌++◌}
use Rattle.std.proofs.Common.{length, decimal, refl, ap, ◌∙◌, arith, Bool, true, ◌&&◌}
use Rattle.std.proofs.Common.{Option, Some, None, length-append}
use Rattle.std.specs.List.{AllByRecursion, last_or}
use Rattle.std.specs.Char.{is_ascii_digit, digit_value}
use Rattle.std.specs.Str.Parse.{digits_value}
use Rattle.fix_fields.specs.Fields.{FieldValue, IsField, field, field_text, fields_text, soh}
use Rattle.fix_fields.specs.Fields.{checksum_of}
use Rattle.fix_fields.specs.Frames.{AreDigits, IsFrameText, IsFrameAt, head_text, trailer_text}
use Rattle.fix_fields.specs.Frames.{body_most}
use Rattle.fix_fields.specs.Messages.{three_digits, message_text}
use Rattle.fix_fields.proofs.Decimals.{decimal_is_length, value-decimal}
use Rattle.fix_fields.proofs.Digits.{digit_value_is}

-- a digit's byte
byte_is_digit : (d : ℕ) → d < 10 → is_ascii_digit (48 + d) ≡ true
byte_is_digit d h = grind arith

three_true : (a b c : Bool) → a ≡ true → b ≡ true → c ≡ true → (a && (b && (c && true))) ≡ true
three_true a b c h k l = grind arith

-- three digits are digits
pub three_are_digits : (n : ℕ) → n < 1000 → AreDigits 3 3 (three_digits n)
three_are_digits n few = record {
  each = three_true _ _ _ (byte_is_digit (n / 100) (omega arith))
      (byte_is_digit (n / 10 % 10) (omega arith)) (byte_is_digit (n % 10) (omega arith));
  no_fewer = omega arith;
  no_more = omega arith;
}

value_of_byte : (d : ℕ) → d < 10 → digit_value (48 + d) ≡ d
value_of_byte d h = let is = digit_value_is (48 + d) (byte_is_digit d h) in omega arith

-- and write their number
pub value-three_digits : (n : ℕ) → n < 1000 → digits_value 10 (three_digits n) ≡ n
value-three_digits n few =
    let a = value_of_byte (n / 100) (omega arith) in
    let b = value_of_byte (n / 10 % 10) (omega arith) in
    let c = value_of_byte (n % 10) (omega arith) in
    rw (a, b, c) (omega arith)

last-append : (o : Option ℕ) (xs ys : List ℕ) → last_or o (xs ++ ys) ≡ last_or (last_or o xs) ys
last-append o [] ys = refl
last-append o (x ∷ xs) ys = last-append (Some x) xs ys

-- a field ends with SOH
last-field_text : (o : Option ℕ) (f : FieldValue) → last_or o (field_text f) ≡ Some soh
last-field_text o f = last-append o (decimal f.tag ++ 61 ∷ f.value) (soh ∷ [])

last-more_fields : (fields : List FieldValue) → last_or (Some soh) (fields_text fields) ≡ Some soh
last-more_fields [] = refl
last-more_fields (f ∷ fields) =
    last-append (Some soh) (field_text f) (fields_text fields)
    ∙ ap (λ o. last_or o (fields_text fields)) (last-field_text (Some soh) f)
    ∙ last-more_fields fields

-- so do fields
pub last-fields_text : (f : FieldValue) (fields : List FieldValue)
    → last_or None (fields_text (f ∷ fields)) ≡ Some soh
last-fields_text f fields =
    last-append None (field_text f) (fields_text fields)
    ∙ ap (λ o. last_or o (fields_text fields)) (last-field_text None f)
    ∙ last-more_fields fields

-- fields have bytes
pub some_fields : (f : FieldValue) (fields : List FieldValue)
    → 0 < length (fields_text (f ∷ fields))
some_fields f fields =
    omega (
      arith,
      length-append (field_text f) (fields_text fields),
      length-append (decimal f.tag ++ 61 ∷ f.value) (soh ∷ []),
    )

length-frame_text : (digits body : List ℕ) (n : ℕ)
    → length ((head_text digits ++ body) ++ trailer_text (three_digits n))
    ≡ (13 + length digits + length body) + 7
length-frame_text digits body n =
    omega (
      arith,
      length-append (head_text digits ++ body) (trailer_text (three_digits n)),
      length-append (head_text digits) body,
      length-append digits (soh ∷ []),
    )

-- the parts of a message that was written
pub message_is_frame_text : (f : FieldValue) (others : List FieldValue) (more : List ℕ)
    → length (fields_text (f ∷ others)) ≤ body_most
    → (let body = fields_text (f ∷ others) in let digits = decimal (length body) in
    IsFrameText (message_text (f ∷ others) ++ more) digits body
    (three_digits (checksum_of (head_text digits ++ body))) more)
message_is_frame_text f others more few =
    let body = fields_text (f ∷ others) in
    let sum = checksum_of (head_text (decimal (length body)) ++ body) in
    record {
      spelled = refl;
      length_spelled = decimal_is_length (length body) (omega arith);
      sum_spelled = three_are_digits sum (omega arith);
      counted = value-decimal (length body) (omega arith);
      some = some_fields f others;
      few = few;
      ended = last-fields_text f others;
    }

-- what was written stands at its start as one sound frame
pub message_is_read : (value : List ℕ) (others : List FieldValue) (more : List ℕ)
    → AllByRecursion IsField (field 35 value ∷ others) → value ≢ []
    → length (fields_text (field 35 value ∷ others)) ≤ body_most
    → (let fields = field 35 value ∷ others in
    (body_from : ℕ) × (body_to : ℕ) × IsFrameAt (message_text fields ++ more) 0
    (record { place = 0; end = length (message_text fields); fields = Some fields })
    body_from body_to)
message_is_read value others more each valued few =
    let fields : List FieldValue = field 35 value ∷ others in
    let body = fields_text fields in
    let digits = decimal (length body) in
    let sum = checksum_of (head_text digits ++ body) in (
      13 + length digits,
      13 + length digits + length body,
      record {
        place = refl;
        parts = (
          digits,
          body,
          three_digits sum,
          more,
          record {
            text = message_is_frame_text (field 35 value) others more few;
            from = omega arith;
            to = refl;
            end = length-frame_text digits body sum;
            fields = record {
              sum = value-three_digits sum (omega arith);
              listed = record { each = each; spelled = refl };
              kind = (value, others, valued, refl);
            };
          },
        );
      },
    )
