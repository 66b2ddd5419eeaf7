-- What the decimal digits of a number are.
use Rattle.std.proofs.Common.{◌≡◌, ℕ, ◌<◌, ◌^◌, List, [], ◌∷◌, decimal}
use Rattle.std.proofs.Common.{refl, arith, rules, Bool, true, ◌&&◌}
use Rattle.std.proofs.lemmas.Str.Parse.{IsNumeralModel, numerals_by_value}
use Rattle.std.proofs.lemmas.Fmt.{digits_decimal, digits_value-decimal, decimal_nonempty}
use Rattle.std.proofs.lemmas.Fmt.{length-decimal-le}
use Rattle.std.specs.List.{list_all}
use Rattle.std.specs.Char.{is_ascii_digit}
use Rattle.std.specs.Str.Parse.{digits_value}
use Rattle.fix_fields.specs.Fields.{is_value_byte}
use Rattle.fix_fields.specs.Frames.{AreDigits}

-- a test of digits and their value, in the words of the library
own : IsNumeralModel (λ ds. list_all is_ascii_digit ds ≡ true) (digits_value 10)
own = numerals_by_value _ (search rules)

pub decimal_is_digits : (n : ℕ) → n < 2 ^ 64 → list_all is_ascii_digit (decimal n) ≡ true
decimal_is_digits n fits = digits_decimal own n fits

pub value-decimal : (n : ℕ) → n < 2 ^ 64 → digits_value 10 (decimal n) ≡ n
value-decimal n fits = digits_value-decimal own n fits

-- a number below 10^7 is spelled as a length is
pub decimal_is_length : (n : ℕ) → n < 10 ^ 7 → AreDigits 1 7 (decimal n)
decimal_is_length n few = record {
  each = decimal_is_digits n (omega arith);
  no_fewer = decimal_nonempty n (omega arith);
  no_more = length-decimal-le 7 n (omega arith) few (omega arith);
}

next_value_byte : (d : ℕ) (rest : Bool) → (is_ascii_digit d && rest) ≡ true
    → (is_value_byte d ≡ true) × (rest ≡ true)
next_value_byte d rest h = grind arith

-- no digit ends a field
pub digits_are_a_value : (ds : List ℕ) → list_all is_ascii_digit ds ≡ true
    → list_all is_value_byte ds ≡ true
digits_are_a_value [] h = refl
digits_are_a_value (d ∷ ds) h =
    let next = next_value_byte d (list_all is_ascii_digit ds) h in
    rw next.0 (digits_are_a_value ds next.1)
