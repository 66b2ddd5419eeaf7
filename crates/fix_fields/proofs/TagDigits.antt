-- The digits of a tag, one more at a time.
use Rattle.std.proofs.Common.{◌≡◌, ℕ, ◌+◌, ◌*◌, ◌-◌, ◌^◌, ◌<◌, ◌≤◌, List, length, take}
use Rattle.std.proofs.Common.{ap, ◌∙◌, subst, arith, true, false, Bool, inl, inr, get_or}
use Rattle.std.proofs.Common.{length-take}
use Rattle.std.proofs.Math.Nat.{pow-le-pow_right}
use Rattle.std.proofs.lemmas.Int.Digits.{digits_value-lt}
use Rattle.fix_fields.proofs.FieldList.{numerals}
use Rattle.std.proofs.lemmas.Bool.{cases_lt}
use Rattle.std.proofs.lemmas.List.{take_more}
use Rattle.std.proofs.lemmas.List.Sums.{prefix_len_passes, prefix_len_stops}
use Rattle.std.specs.List.{prefix_len}
use Rattle.std.specs.Char.{is_ascii_digit}
use Rattle.std.specs.Str.Parse.{digits_value}
use Rattle.fix_fields.proofs.Cuts.{front_all}
use Rattle.fix_fields.proofs.Digits.{after_snoc, digit_value_is}

not_both : (b : Bool) → b ≡ true → b ≡ false → ⊥
not_both b is isnt = cc

-- a digit behind digits
pub one_more : (text : List ℕ) (n : ℕ) → n ≤ prefix_len is_ascii_digit text → n < length text
    → is_ascii_digit (get_or text n 0) ≡ true → n + 1 ≤ prefix_len is_ascii_digit text
one_more text n front inside is =
    elim (cases_lt n (prefix_len is_ascii_digit text)) [
      | inl more ↦ omega arith
      | inr no_more ↦ let same : prefix_len is_ascii_digit text ≡ n = omega arith in
          let stops = prefix_len_stops is_ascii_digit text 0 (omega arith) in
          absurd (not_both (is_ascii_digit (get_or text n 0)) is
          (subst (λ k. is_ascii_digit (get_or text k 0) ≡ false) same stops))
    ]

-- another byte behind digits
pub no_more : (text : List ℕ) (n : ℕ) → n ≤ prefix_len is_ascii_digit text
    → is_ascii_digit (get_or text n 0) ≡ false → prefix_len is_ascii_digit text ≡ n
no_more text n front isnt =
    elim (cases_lt n (prefix_len is_ascii_digit text)) [
      | inl more ↦ absurd (not_both (is_ascii_digit (get_or text n 0))
          (prefix_len_passes is_ascii_digit text n 0 more) isnt)
      | inr none ↦ omega arith
    ]

-- the number with the next digit
pub tag_more : (text : List ℕ) (n : ℕ) → n < length text
    → is_ascii_digit (get_or text n 0) ≡ true
    → digits_value 10 (take (n + 1) text) ≡ digits_value 10 (take n text) * 10 + (get_or text n 0 - 48)
tag_more text n inside is =
    ap (digits_value 10) (take_more text n 0 inside) ∙ after_snoc 0 (take n text) (get_or text n 0)
    ∙ ap (λ k. digits_value 10 (take n text) * 10 + k) (digit_value_is (get_or text n 0) is)

-- five digits write a number below 100,000
pub tag_small : (text : List ℕ) (n : ℕ) → n ≤ prefix_len is_ascii_digit text → n ≤ 5
    → digits_value 10 (take n text) < 100000
tag_small text n front few =
    let small = digits_value-lt 10 (take n text) (numerals.to (take n text) (front_all n text front)) in
    let short : length (take n text) ≤ 5 = omega (arith, length-take n text) in
    let bound : 10 ^ length (take n text) ≤ 10 ^ 5 = pow-le-pow_right (omega arith) short in
    omega (arith, small, bound)
