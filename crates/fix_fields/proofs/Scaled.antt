-- The number that a whole part and a fraction write in units of a place.
use Rattle.std.proofs.Common.{◌≡◌, ℕ, ◌+◌, ◌*◌, ◌-◌, ◌<◌, ◌≤◌, List, [], ◌∷◌, ◌++◌, length, take}
use Rattle.std.proofs.Common.{drop}
use Rattle.std.proofs.Common.{refl, ap, sym, ◌∙◌, arith, min, Bool, true, ◌&&◌, zero, suc}
use Rattle.std.proofs.Common.{replicate}
use Rattle.std.proofs.Common.{⊎_elim, length-take}
use Rattle.std.proofs.lemmas.List.{take-append-drop, take-replicate}
use Rattle.std.proofs.lemmas.List.Folds.{list_all-append}
use Rattle.std.proofs.lemmas.Bool.{cases_lt}
use Rattle.std.specs.List.{list_all}
use Rattle.std.specs.Char.{is_ascii_digit, digit_value}
use Rattle.std.specs.Str.Parse.{digits_value, digits_value_after}

-- the test holds of a front
and_left : (a b : Bool) → (a && b) ≡ true → a ≡ true
and_left a b h = grind arith

pub front_digits : (k : ℕ) (ds : List ℕ) → list_all is_ascii_digit ds ≡ true
    → list_all is_ascii_digit (take k ds) ≡ true
front_digits k ds h =
    let both = sym (list_all-append is_ascii_digit (take k ds) (drop k ds))
    ∙ ap (list_all is_ascii_digit) (take-append-drop k ds) ∙ h in
    and_left (list_all is_ascii_digit (take k ds)) (list_all is_ascii_digit (drop k ds)) both

-- digits after digits
pub after-append : (n : ℕ) (xs ys : List ℕ)
    → digits_value_after 10 n (xs ++ ys) ≡ digits_value_after 10 (digits_value_after 10 n xs) ys
after-append n [] ys = refl
after-append n (x ∷ xs) ys = after-append (n * 10 + digit_value x) xs ys

-- digits make a number no smaller
pub after_at_least : (n : ℕ) (ds : List ℕ) → n ≤ digits_value_after 10 n ds
after_at_least n [] = omega arith
after_at_least n (d ∷ ds) =
    let rest = after_at_least (n * 10 + digit_value d) ds in omega (arith, rest)

-- a number that was cut at a cap goes on to the same cut number
pub after_capped : (n m : ℕ) (ds : List ℕ)
    → min (digits_value_after 10 (min n m) ds) m ≡ min (digits_value_after 10 n ds) m
after_capped n m ds =
    ⊎_elim (λ (below : n < m). let same : min n m ≡ n = omega arith in rw same refl)
    (λ (above : m ≤ n).
    let same : min n m ≡ m = omega arith in
    let low = after_at_least m ds in
    let high = after_at_least n ds in
    rw same (omega (arith, low, high)))
    (cases_lt n m)

take-append : (n : ℕ) (xs ys : List ℕ) → take n (xs ++ ys) ≡ take n xs ++ take (n - length xs) ys
take-append zero xs ys = let none : 0 - length xs ≡ 0 = omega arith in rw none refl
take-append (suc n) [] ys = let all : suc n - 0 ≡ suc n = omega arith in rw all refl
take-append (suc n) (x ∷ xs) ys =
    let next : suc n - length (x ∷ xs) ≡ n - length xs = omega arith in
    rw next (ap (λ s. x ∷ s) (take-append n xs ys))

-- equal digits are cut alike from any that are enough
take-zeros : (d k m n : ℕ) → k ≤ m → k ≤ n → take k (replicate m d) ≡ take k (replicate n d)
take-zeros d k m n h l = take-replicate k m d h ∙ sym (take-replicate k n d l)

-- the digits that are kept of a fraction with enough zeros behind it
pub kept-digits : (places : ℕ) (fraction : List ℕ) → places ≤ 4
    → take places (fraction ++ replicate places 48)
    ≡ take places fraction ++ take (places - length (take places fraction)) (replicate 4 48)
kept-digits places fraction few =
    let left : places - length (take places fraction) ≡ places - length fraction =
    omega (arith, length-take places fraction) in
    rw left
    (take-append places fraction (replicate places 48)
    ∙ ap (λ s. take places fraction ++ s)
    (take-zeros 48 (places - length fraction) places 4 (omega arith) (omega arith)))

-- reading on at each part, cut at a cap each time, gives the whole number, cut
pub scaled_by_parts : (places m : ℕ) (whole fraction zeros : List ℕ) (a b c : ℕ) → places ≤ 4
    → zeros ≡ take (places - length (take places fraction)) (replicate 4 48)
    → a ≡ min (digits_value_after 10 0 whole) m
    → b ≡ min (digits_value_after 10 a (take places fraction)) m
    → c ≡ min (digits_value_after 10 b zeros) m
    → c ≡ min (digits_value 10 (whole ++ take places (fraction ++ replicate places 48))) m
scaled_by_parts places m whole fraction zeros a b c few is_zeros is_a is_b is_c =
    let kept = take places fraction in
    let after = digits_value_after 10 in
    is_c ∙ ap (λ n. min (after n zeros) m) (is_b ∙ ap (λ n. min (after n kept) m) is_a
    ∙ after_capped (after 0 whole) m kept)
    ∙ after_capped (after (after 0 whole) kept) m zeros
    ∙ ap (λ n. min n m) (sym (after-append (after 0 whole) kept zeros)
    ∙ sym (after-append 0 whole (kept ++ zeros))
    ∙ ap (λ s. after 0 (whole ++ s)) (ap (λ s. kept ++ s) is_zeros
    ∙ sym (kept-digits places fraction few)))
