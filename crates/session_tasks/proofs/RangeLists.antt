-- The numbers from one on.
use Rattle.std.proofs.Common.{◌≡◌, ℕ, zero, suc, ◌+◌, ◌<◌, ◌≤◌, List, [], ◌∷◌, ◌++◌, ap, ◌∙◌}
use Rattle.std.proofs.Common.{add-one, arith, subst, sym}
use Rattle.std.specs.List.{AllByRecursion, range_with_len}

-- one number more stands at the end
pub range_more : (a n : ℕ) → range_with_len a (suc n) ≡ range_with_len a n ++ (a + n) ∷ []
range_more a zero = ap (λ (m : ℕ). m ∷ []) (omega arith)
range_more a (suc n) =
    let next : a + 1 + n ≡ a + suc n = omega arith in
    ap (λ (l : List ℕ). a ∷ l)
    (range_more (a + 1) n ∙ ap (λ (m : ℕ). range_with_len (a + 1) n ++ m ∷ []) next)

-- the same from 0 on
pub numbers_more : (n : ℕ) → range_with_len 0 (n + 1) ≡ range_with_len 0 n ++ n ∷ []
numbers_more n =
    ap (range_with_len 0) (add-one n) ∙ range_more 0 n
    ∙ ap (λ (m : ℕ). range_with_len 0 n ++ m ∷ []) (omega arith)

-- what holds of each number of a range holds of all
all_range : (P : ℕ → Type 0) (a n : ℕ) → ((k : ℕ) → a ≤ k → k < a + n → P k)
    → AllByRecursion P (range_with_len a n)
all_range P a zero each = tt
all_range P a (suc n) each = (
  each a (omega arith) (omega arith),
  all_range P (a + 1) n (λ k low high. each k (omega (arith, low)) (omega (arith, high))),
)

-- what holds of each number below one holds of all these numbers
pub all_numbers : (P : ℕ → Type 0) (n : ℕ) (numbers : List ℕ) → numbers ≡ range_with_len 0 n
    → ((k : ℕ) → k < n → P k) → AllByRecursion P numbers
all_numbers P n numbers are each =
    subst (AllByRecursion P) (sym are)
    (all_range P 0 n (λ k low high. each k (omega (arith, high))))
