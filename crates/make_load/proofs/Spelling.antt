-- How the values of a load are spelled: in a few bytes, none of which ends a field.
use Rattle.std.proofs.Common.{◌≡◌, ℕ, ◌+◌, ◌*◌, ◌/◌, ◌%◌, ◌^◌, ◌<◌, ◌≤◌, List, [], ◌∷◌, ◌++◌, length}
use Rattle.std.proofs.Common.{refl, ap, ◌∙◌, arith, decimal, codes, map, true, length-append}
use Rattle.std.specs.Prelude.{IsTrue}
use Rattle.std.specs.List.{AllByRecursion, list_all}
use Rattle.std.proofs.lemmas.Bool.Decides.{nat_tests}
use Rattle.std.proofs.lemmas.List.Folds.{list_all-append}
use Rattle.fix_fields.specs.Fields.{IsField, field_text, fields_text, is_value_byte}
use Rattle.fix_fields.proofs.FieldList.{fields_text-cons}
use Rattle.fix_orders.proofs.ShortFields.{number_is_short, sized}
use Rattle.fix_orders.proofs.OrderRejects.{few_digits}
use Rattle.make_load.specs.declared.part.Part.{Part}
use Rattle.make_load.specs.declared.part.Value.{Value}
use Rattle.make_load.specs.declared.part.Value.TheVariants as value
use Rattle.make_load.specs.Patterns.{two_digits}
use Rattle.make_load.specs.Values.{IsSpelled, IsPart, part_value, text_of}

-- a value of at most 17 bytes, without SOH
pub record IsBrief (text : List ℕ) : Type 0 where
  pub without_soh : IsTrue (list_all is_value_byte text)
  pub few : length text ≤ 17

-- a digit's byte ends no field
digit_byte : (d : ℕ) → is_value_byte (48 + d) ≡ true
digit_byte d = grind (arith, nat_tests)

byte_more : (b : ℕ) (rest : List ℕ) → is_value_byte b ≡ true → list_all is_value_byte rest ≡ true
    → list_all is_value_byte (b ∷ rest) ≡ true
byte_more b rest first others = rw (first, others) refl

number_value : (n : ℕ) → n < 2 ^ 32 → list_all is_value_byte (decimal n) ≡ true
number_value n fits = (number_is_short n fits).without_soh

-- two digits before a text
digits_before : (n : ℕ) (rest : List ℕ) → list_all is_value_byte rest ≡ true
    → list_all is_value_byte (two_digits n ++ rest) ≡ true
digits_before n rest others =
    byte_more (48 + n / 10) ((48 + n % 10) ∷ rest) (digit_byte (n / 10))
    (byte_more (48 + n % 10) rest (digit_byte (n % 10)) others)

named_is_brief : (letter n : ℕ) → is_value_byte letter ≡ true → n < 2 ^ 32
    → IsBrief (letter ∷ decimal n)
named_is_brief letter n own fits = record {
  without_soh = byte_more letter (decimal n) own (number_value n fits);
  few = omega (arith, few_digits n fits);
}

id_is_brief : (letter session order : ℕ) → is_value_byte letter ≡ true → order < 2 ^ 32
    → IsBrief (letter ∷ two_digits session ++ 45 ∷ decimal order)
id_is_brief letter session order own fits = record {
  without_soh = byte_more letter (two_digits session ++ 45 ∷ decimal order) own
      (digits_before session (45 ∷ decimal order)
      (byte_more 45 (decimal order) refl (number_value order fits)));
  few = omega (arith, few_digits order fits);
}

pub spelled_is_brief : (v : Value) → IsSpelled v → IsBrief (text_of v)
spelled_is_brief value.Gate is = record { without_soh = refl; few = omega arith }
spelled_is_brief value.Venue is = record { without_soh = refl; few = omega arith }
spelled_is_brief value.Time is = record { without_soh = refl; few = omega arith }
spelled_is_brief value.Trade is = record { without_soh = refl; few = omega arith }
spelled_is_brief (value.Number n) is =
    record { without_soh = number_value n is; few = omega (arith, few_digits n is) }
spelled_is_brief (value.Price price) is = record {
  without_soh = list_all-append is_value_byte (decimal price) (codes ".00")
      ∙ rw (number_value price is) refl;
  few = omega (arith, few_digits price is, length-append (decimal price) (codes ".00"));
}
spelled_is_brief (value.Account n) is = named_is_brief 65 n refl is
spelled_is_brief (value.Symbol n) is = named_is_brief 83 n refl is
spelled_is_brief (value.OrderNumber n) is = named_is_brief 79 n refl is
spelled_is_brief (value.Execution n) is = named_is_brief 69 n refl is
spelled_is_brief (value.Client session) is = record {
  without_soh = byte_more 67 (two_digits session) refl (digits_before session [] refl);
  few = omega arith;
}
spelled_is_brief (value.OrderId session order) is = id_is_brief 111 session order refl is.1
spelled_is_brief (value.CancelId session order) is = id_is_brief 99 session order refl is.1

pub part_is_field : (part : Part) → IsPart part → IsField (part_value part)
part_is_field part is = record {
  least = is.least;
  most = omega (arith, is.most);
  without_soh = (spelled_is_brief part.1 is.spelled).without_soh;
}

pub parts_are_fields : (parts : List Part) → AllByRecursion IsPart parts
    → AllByRecursion IsField (map part_value parts)
parts_are_fields [] each = tt
parts_are_fields (part ∷ parts) each =
    (part_is_field part each.0, parts_are_fields parts each.1)

pub part_size : (part : Part) → IsPart part → length (field_text (part_value part)) ≤ 22
part_size part is =
    omega (
      arith,
      sized 3 part.0 (text_of part.1) (omega arith) (omega (arith, is.most)) (omega (arith, is.most)),
      (spelled_is_brief part.1 is.spelled).few,
    )

pub parts_size : (parts : List Part) → AllByRecursion IsPart parts
    → length (fields_text (map part_value parts)) ≤ 22 * length parts
parts_size [] each = omega arith
parts_size (part ∷ parts) each = omega (
  arith,
  ap length (fields_text-cons (part_value part) (map part_value parts)),
  length-append (field_text (part_value part)) (fields_text (map part_value parts)),
  part_size part each.0,
  parts_size parts each.1,
)
