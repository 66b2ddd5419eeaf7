-- Numbers as words spell them.
use Rattle.std.proofs.Common.{String, Global, string_bytes, map, length, [], ◌∷◌}
use Rattle.std.proofs.Common.{◌≡◌, ℕ, ◌<◌, ◌≤◌, ◌^◌, List, refl, sym, ap, ◌∙◌, arith}
use Rattle.std.proofs.Common.{Bool, true, false, ◌&&◌, decimal, cond}
use Rattle.std.specs.Prelude.{Option, Some, None, nat_le}
use Rattle.std.specs.Str.{bytes_eq}
use Rattle.std.specs.Str.Parse.{digits_value}
use Rattle.std.proofs.lemmas.Bool.Decides.{nat_tests}
use Rattle.std.proofs.lemmas.Fmt.{decimal_is_IsNumeral}
use Rattle.std.proofs.lemmas.Slice.Eq.{bytes_eq-Decides}
use Rattle.gate_files.specs.Words.{command_of, load_with, number_in}

-- the digits of a number are worth it
spells : (number : ℕ) (word : List ℕ) → number < 2 ^ 64 → decimal number ≡ word
    → digits_value 10 word ≡ number
spells number word fits is =
    ap (digits_value 10) (sym is) ∙ (decimal_is_IsNumeral number fits).1

within : (least most number : ℕ) → least ≤ number → number ≤ most
    → (nat_le least number && nat_le number most) ≡ true
within least most number low high = grind (arith, nat_tests)

-- a word that spells a number in the range
pub number_is : (least most number : ℕ) (word : List ℕ) → number < 2 ^ 64 → decimal number ≡ word
    → least ≤ number → number ≤ most → Some number ≡ number_in least most word
number_is least most number word fits is low high =
    let worth = spells number word fits is in
    let same : bytes_eq (decimal number) word ≡ true =
    (bytes_eq-Decides (decimal number) word).1 is in
    let all : (bytes_eq (decimal number) word && nat_le least number && nat_le number most) ≡ true =
    ap (λ (b : Bool). b && nat_le least number && nat_le number most) same
    ∙ within least most number low high in
    sym (ap (λ (n : ℕ). cond (bytes_eq (decimal n) word && nat_le least n && nat_le n most) (Some n)
    None) worth
    ∙ ap (λ (b : Bool). cond b (Some number) None) all)

split_three : (a b c : Bool) (n : ℕ) → (a ≡ true → b ≡ true → c ≡ true → ⊥)
    → None ≡ cond (a && b && c) (Some n) None
split_three true true true n never = absurd (never refl refl refl)
split_three false b c n never = refl
split_three true false c n never = refl
split_three true true false n never = refl

-- a word that spells none
pub no_number : (least most : ℕ) (word : List ℕ)
    → ((number : ℕ) → decimal number ≡ word → least ≤ number → number ≤ most → ⊥)
    → None ≡ number_in least most word
no_number least most word never =
    let n = digits_value 10 word in
    split_three (bytes_eq (decimal n) word) (nat_le least n) (nat_le n most) n
    (λ same low high. never n ((bytes_eq-Decides (decimal n) word).0 same) (is_low n low)
    (is_high n high)) where
      is_low : (n : ℕ) → nat_le least n ≡ true → least ≤ n
      is_low n low = grind (arith, nat_tests)

      is_high : (n : ℕ) → nat_le n most ≡ true → n ≤ most
      is_high n high = grind (arith, nat_tests)

-- a word spells one number
pub one_number : (number other : ℕ) (word : List ℕ) → number < 2 ^ 64 → other < 2 ^ 64
    → decimal number ≡ word → decimal other ≡ word → number ≡ other
one_number number other word fits fits_too is is_too =
    sym (spells number word fits is) ∙ spells other word fits_too is_too

-- fewer than three words are no form
pub few_words : (words : List (String Global)) → length words < 3
    → None ≡ command_of (map string_bytes words)
few_words [] few = refl
few_words (a ∷ []) few = refl
few_words (a ∷ b ∷ []) few = refl
few_words (a ∷ b ∷ c ∷ words) few = absurd (omega arith)

-- words that are no numbers are no load
pub no_load : (number sessions orders : Option ℕ) → None ≡ number → None ≡ load_with number sessions orders
no_load None sessions orders is = refl
no_load (Some number) sessions orders is = absurd cc

pub no_sessions : (number sessions orders : Option ℕ) → None ≡ sessions
    → None ≡ load_with number sessions orders
no_sessions None sessions orders is = refl
no_sessions (Some number) None orders is = refl
no_sessions (Some number) (Some sessions) orders is = absurd cc

pub no_orders : (number sessions orders : Option ℕ) → None ≡ orders
    → None ≡ load_with number sessions orders
no_orders None sessions orders is = refl
no_orders (Some number) None orders is = refl
no_orders (Some number) (Some sessions) None is = refl
no_orders (Some number) (Some sessions) (Some orders) is = absurd cc
