-- The tag in front of a text is read in one way.
use Rattle.std.proofs.Common.{◌≡◌, ◌≢◌, ℕ, ◌+◌, ◌<◌, ◌≤◌, ◌^◌, List, ◌∷◌, ◌++◌, length, take}
use Rattle.std.proofs.Common.{drop}
use Rattle.std.proofs.Common.{refl, ap, sym, ◌∙◌, arith, zero, suc, min, true, decimal, slice_index}
use Rattle.std.proofs.Common.{length-take}
use Rattle.std.proofs.lemmas.Fmt.{decimal-digits_value, first_decimal, length-decimal-le}
use Rattle.std.proofs.lemmas.Fmt.{decimal_nonempty, decimal_digit, decimal_injective}
use Rattle.std.proofs.lemmas.Int.Digits.{digits_value-lt}
use Rattle.std.proofs.lemmas.List.{get_or-take, get_or_append_left}
use Rattle.std.proofs.Math.Nat.{pow-le-pow_right}
use Rattle.std.specs.List.{list_all, prefix_len}
use Rattle.std.specs.Char.{is_ascii_digit}
use Rattle.std.specs.Str.Parse.{digits_value}
use Rattle.fix_fields.specs.FieldPlaces.{IsTagCut, BeginsTag}
use Rattle.fix_fields.proofs.Cuts.{cut_at, cut_is, front_all}
use Rattle.fix_fields.proofs.FieldList.{numerals, decimal_digits, one_split}

-- the digits of a tag are what its number is written as
pub record IsTagNumber (digits : List ℕ) : Type 0 where
  pub least : 1 ≤ digits_value 10 digits
  pub most : digits_value 10 digits ≤ 999999
  pub spelled : decimal (digits_value 10 digits) ≡ digits

not_zero : (v : ℕ) (digits : List ℕ) → decimal v ≡ digits → slice_index digits 0 ≢ 48 → 1 ≤ v
not_zero zero digits e first =
    absurd (first (ap (λ d. slice_index d 0) (sym e ∙ decimal_digit 0 (omega arith))))
not_zero (suc v) digits e first = omega arith

pub tag_number : (digits : List ℕ) → list_all is_ascii_digit digits ≡ true → 1 ≤ length digits
    → length digits ≤ 6 → slice_index digits 0 ≢ 48 → IsTagNumber digits
tag_number digits each some few first =
    let small = digits_value-lt 10 digits (numerals.to digits each) in
    let bound : 10 ^ length digits ≤ 1000000 = pow-le-pow_right (omega arith) few in
    let spelled = decimal-digits_value numerals digits each some (λ e. absurd (first e))
    (omega arith) in
    record {
      least = not_zero (digits_value 10 digits) digits spelled first;
      most = omega arith;
      spelled = spelled;
    }

-- so many digits and an equals sign are a tag
pub tag_front : (text : List ℕ) (n : ℕ) → n ≤ prefix_len is_ascii_digit text → n ≤ 6
    → IsTagCut text n → IsTagNumber (take n text)
tag_front text n digits few cut =
    let count = length-take n text in
    let first : slice_index (take n text) 0 ≢ 48 =
    λ z. cut.first (sym (get_or-take n text 0 0 cut.some) ∙ z) in
    tag_number (take n text) (front_all n text digits) (omega (arith, count, cut.some, cut.inside))
    (omega (arith, count, few)) first

pub tag_there : (text : List ℕ) (n : ℕ) → IsTagCut text n → IsTagNumber (take n text)
    → BeginsTag text (digits_value 10 (take n text)) (n + 1)
tag_there text n cut number = record {
  least = number.least;
  most = number.most;
  place = omega (arith, ap length number.spelled, length-take n text, cut.inside);
  inside = omega (arith, cut.inside);
  spelled = cut_at text n 61 cut.inside cut.ended
      ∙ ap (λ d. d ++ 61 ∷ drop (n + 1) text) (sym number.spelled);
}

-- where a tag stands, it is found in the first bytes
pub tag_cut : (text : List ℕ) (tag from : ℕ) → BeginsTag text tag from
    → IsTagCut text (min 6 (prefix_len is_ascii_digit text))
tag_cut text tag from h =
    let small : tag < 2 ^ 64 = omega (arith, h.most) in
    let cut = cut_is text (decimal tag) 61 (drop from text) refl
    (decimal_digits tag small) h.spelled in
    let some = decimal_nonempty tag small in
    let front : slice_index text 0 ≡ slice_index (decimal tag) 0 =
    ap (λ t. slice_index t 0) h.spelled
    ∙ get_or_append_left (decimal tag) (61 ∷ drop from text) 0 0 some in
    let first = first_decimal tag h.least small in
    let short = length-decimal-le 6 tag (omega arith) (omega (arith, h.most)) small in
    let same : min 6 (prefix_len is_ascii_digit text) ≡ prefix_len is_ascii_digit text =
    omega (arith, cut.counted, short) in
    rw same (record {
      some = omega (arith, cut.counted);
      inside = cut.inside;
      ended = cut.ended;
      first = λ e. omega (arith, e, front, first);
    })

-- a text begins with at most one tag
pub record IsSameTag (t a u b : ℕ) : Type 0 where
  pub tag : t ≡ u
  pub from : a ≡ b

pub one_tag : (text : List ℕ) (t a u b : ℕ) → BeginsTag text t a → BeginsTag text u b
    → IsSameTag t a u b
one_tag text t a u b h k =
    let small : t < 2 ^ 64 = omega (arith, h.most) in
    let small' : u < 2 ^ 64 = omega (arith, k.most) in
    let same = one_split is_ascii_digit 61 refl (decimal t) (decimal u) (drop a text) (drop b text)
    (decimal_digits t small) (decimal_digits u small') (sym h.spelled ∙ k.spelled) in
    record {
      tag = decimal_injective t u small small' same.0;
      from = omega (arith, h.place, k.place, ap length same.0);
    }
