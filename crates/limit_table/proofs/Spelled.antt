-- What is written for a number, a price or a name is read as that.
use Rattle.std.proofs.Common.{◌≡◌, ℕ, ◌+◌, ◌*◌, ◌/◌, ◌%◌, ◌<◌, ◌≤◌, List, [], ◌∷◌, ◌++◌, length}
use Rattle.std.proofs.Common.{take, drop, replicate, refl, sym, ap, ◌∙◌, arith, decimal, true}
use Rattle.std.proofs.Common.{false, Ok, ◌==◌, length-append, append_assoc}
use Rattle.std.specs.List.{list_all, position_or_len, before_first, after_first}
use Rattle.std.specs.Char.{is_ascii_digit, digit_value}
use Rattle.std.specs.Str.Parse.{digits_value, digits_value_after}
use Rattle.std.proofs.lemmas.Bool.{le-leb, le-ltb, lt-ltb, and_parts}
use Rattle.std.proofs.lemmas.Bool.Decides.{nat_tests}
use Rattle.std.proofs.lemmas.List.{take_at, drop_at, length_push}
use Rattle.std.proofs.lemmas.Fmt.{decimal_nonempty, length-decimal-le}
use Rattle.fix_fields.specs.Numbers.{without_minus, begins_with_minus, is_point, whole_part}
use Rattle.fix_fields.specs.Numbers.{fraction_part}
use Rattle.fix_fields.specs.IdText.{IsId}
use Rattle.fix_fields.proofs.Decimals.{decimal_is_digits, value-decimal}
use Rattle.fix_fields.proofs.Scaled.{after-append}
use Rattle.limit_table.specs.Columns.{number_in, price_in, name_in}
use Rattle.limit_table.specs.Printing.{four_digits, price_text}
use Rattle.limit_table.specs.Ranges.{IsFromTo, IsPrice}
use Rattle.limit_table.specs.Entries.{amount_most}
use Rattle.fix_fields.specs.Numbers.{price_most}

pub number_back : (least most n : ℕ) → IsFromTo least most n → most ≤ amount_most
    → number_in least most (decimal n) ≡ Ok n
number_back least most n range cap =
    let all = decimal_is_digits n (omega arith) in
    let some = le-leb 1 (length (decimal n)) (decimal_nonempty n (omega arith)) in
    let short = length-decimal-le 12 n (omega arith) (omega arith) (omega arith) in
    let few = le-leb (length (decimal n)) 12 short in
    let value = value-decimal n (omega arith) in
    rw (all, some, few, value, le-leb least n range.0, le-leb n most range.1) refl

pub name_back : (name : List ℕ) → IsId name → name_in name ≡ Ok name
name_back name is =
    let some : (length name == 0) ≡ false = let low = is.least in grind (arith, nat_tests) in
    rw (is.printable, some, le-ltb 64 (length name) is.most) refl

-- a digit is neither a minus sign nor a point
no_mark : (d : ℕ) → is_ascii_digit d ≡ true → ((d == 45) ≡ false) × ((d == 46) ≡ false)
no_mark d h = (grind (arith, nat_tests), grind (arith, nat_tests))

no_minus : (ds ys : List ℕ) → list_all is_ascii_digit ds ≡ true → 0 < length ds
    → (without_minus (ds ++ ys) ≡ ds ++ ys) × (begins_with_minus (ds ++ ys) ≡ false)
no_minus [] ys all some = absurd (omega arith)
no_minus (d ∷ ds) ys all some =
    let mark = no_mark d (and_parts (is_ascii_digit d) (list_all is_ascii_digit ds) all).0 in
    (rw mark.0 refl, mark.0)

-- the first point stands behind the digits
point_at : (ds ys : List ℕ) → list_all is_ascii_digit ds ≡ true
    → position_or_len is_point (ds ++ 46 ∷ ys) ≡ length ds
point_at [] ys all = refl
point_at (d ∷ ds) ys all =
    let parts = and_parts (is_ascii_digit d) (list_all is_ascii_digit ds) all in
    let rest = point_at ds ys parts.1 in
    rw (no_mark d parts.0).1 (omega (arith, rest))

whole_is : (ds ys : List ℕ) → list_all is_ascii_digit ds ≡ true → 0 < length ds
    → whole_part (ds ++ 46 ∷ ys) ≡ ds
whole_is ds ys all some =
    ap (before_first is_point) (no_minus ds (46 ∷ ys) all some).0
    ∙ ap (λ n. take n (ds ++ 46 ∷ ys)) (point_at ds ys all)
    ∙ take_at ds (46 ∷ ys) (length ds) refl

fraction_is : (ds ys : List ℕ) → list_all is_ascii_digit ds ≡ true → 0 < length ds
    → fraction_part (ds ++ 46 ∷ ys) ≡ ys
fraction_is ds ys all some =
    ap (after_first is_point) (no_minus ds (46 ∷ ys) all some).0
    ∙ ap (λ n. drop (n + 1) (ds ++ 46 ∷ ys)) (point_at ds ys all)
    ∙ ap (drop (length ds + 1)) (sym (append_assoc ds (46 ∷ []) ys))
    ∙ drop_at (ds ++ 46 ∷ []) ys (length ds + 1) (length_push ds 46)

-- a digit written is that digit
digit_back : (k : ℕ) → k ≤ 9 → (is_ascii_digit (48 + k) ≡ true) × (digit_value (48 + k) ≡ k)
digit_back k small = (grind (arith, nat_tests), grind (arith, nat_tests))

four_are_digits : (n : ℕ) → n < 10000 → list_all is_ascii_digit (four_digits n) ≡ true
four_are_digits n small =
    let a = digit_back (n / 1000) (omega arith) in
    let b = digit_back (n / 100 % 10) (omega arith) in
    let c = digit_back (n / 10 % 10) (omega arith) in
    let d = digit_back (n % 10) (omega arith) in
    rw (a.0, b.0, c.0, d.0) refl

sum_of_places : (w n : ℕ) → n < 10000
    → (((w * 10 + n / 1000) * 10 + n / 100 % 10) * 10 + n / 10 % 10) * 10 + n % 10 ≡ w * 10000 + n
sum_of_places w n small = omega arith

-- four digits behind a number
four_after : (w n : ℕ) → n < 10000 → digits_value_after 10 w (four_digits n) ≡ w * 10000 + n
four_after w n small =
    let a = digit_back (n / 1000) (omega arith) in
    let b = digit_back (n / 100 % 10) (omega arith) in
    let c = digit_back (n / 10 % 10) (omega arith) in
    let d = digit_back (n % 10) (omega arith) in
    rw (a.1, b.1, c.1, d.1) (sum_of_places w n small)

-- a text that is spelled as a price
price_by : (text whole fraction : List ℕ) (price : ℕ) → whole_part text ≡ whole
    → fraction_part text ≡ fraction → list_all is_ascii_digit whole ≡ true
    → list_all is_ascii_digit fraction ≡ true → 0 < length whole
    → begins_with_minus text ≡ false → length text ≤ 32 → drop 4 fraction ≡ []
    → digits_value 10 (whole ++ take 4 (fraction ++ replicate 4 48)) ≡ price → IsPrice price
    → price_in text ≡ Ok price
price_by text whole fraction price is_whole is_fraction digits more some sign short fine is range =
    let any = lt-ltb 0 (length whole + length fraction) (omega arith) in
    rw (
      is_whole,
      is_fraction,
      digits,
      more,
      any,
      sign,
      le-ltb 32 (length text) short,
      fine,
      is,
      le-ltb price 1 range.0,
      le-ltb price_most price range.1,
    ) refl

pub price_back : (price : ℕ) → IsPrice price → price_in (price_text price) ≡ Ok price
price_back price range =
    let whole = decimal (price / 10000) in
    let rest = price % 10000 in
    let digits = decimal_is_digits (price / 10000) (omega arith) in
    let some = decimal_nonempty (price / 10000) (omega arith) in
    let short = length-decimal-le 6 (price / 10000) (omega arith) (omega arith) (omega arith) in
    let value : digits_value 10 (whole ++ four_digits rest) ≡ price =
    after-append 0 whole (four_digits rest)
    ∙ ap (λ w. digits_value_after 10 w (four_digits rest))
    (value-decimal (price / 10000) (omega arith))
    ∙ four_after (price / 10000) rest (omega arith) ∙ omega arith in
    price_by (price_text price) whole (four_digits rest) price
    (whole_is whole (four_digits rest) digits some)
    (fraction_is whole (four_digits rest) digits some)
    digits (four_are_digits rest (omega arith)) some
    (no_minus whole (46 ∷ four_digits rest) digits some).1
    (omega (arith, short, length-append whole (46 ∷ four_digits rest))) refl value range
