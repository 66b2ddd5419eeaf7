-- Sums over pairs, as one part is changed.
use Rattle.std.proofs.Common.{◌≡◌, ◌≤◌, ◌<◌, ◌+◌, ℕ, zero, suc, refl, sym, ap, ◌∙◌, ◌⊎◌, inl, inr}
use Rattle.std.proofs.Common.{arith}
use Rattle.exposure_book.specs.Sums.{sum_below, over_account, over_symbol, over_all}

last_or_before : (i n : ℕ) → i < suc n → (i ≡ n) ⊎ (i < n)
last_or_before i n below = grind arith

-- parts that are the same
pub sum_below-same : (n : ℕ) (f g : ℕ → ℕ) → ((k : ℕ) → k < n → g k ≡ f k)
    → sum_below n g ≡ sum_below n f
sum_below-same zero f g same = refl
sum_below-same (suc n) f g same =
    let rest = sum_below-same n f g (λ k below. same k (omega arith)) in
    let last = same n (omega arith) in
    omega arith

-- parts that are no more
pub sum_below-le : (n : ℕ) (f g : ℕ → ℕ) → ((k : ℕ) → k < n → g k ≤ f k)
    → sum_below n g ≤ sum_below n f
sum_below-le zero f g less = omega arith
sum_below-le (suc n) f g less =
    let rest = sum_below-le n f g (λ k below. less k (omega arith)) in
    let last = less n (omega arith) in
    omega arith

-- parts that are nothing
pub sum_below-none : (n : ℕ) (f : ℕ → ℕ) → ((k : ℕ) → k < n → f k ≡ 0) → sum_below n f ≡ 0
sum_below-none zero f none = refl
sum_below-none (suc n) f none =
    let rest = sum_below-none n f (λ k below. none k (omega arith)) in
    let last = none n (omega arith) in
    omega arith

-- one part is changed
pub sum_below-moved : (n i : ℕ) (f g : ℕ → ℕ) → i < n
    → ((k : ℕ) → k < n → (k ≡ i → ⊥) → g k ≡ f k)
    → sum_below n g + f i ≡ sum_below n f + g i
sum_below-moved zero i f g below others = absurd (omega arith)
sum_below-moved (suc n) i f g below others = elim (last_or_before i n below) [
  | inl last ↦
      let rest = sum_below-same n f g (λ k less. others k (omega arith)
      (λ e. absurd (omega (arith, e, last, less)))) in
      let old : f i ≡ f n = ap f last in
      let new : g i ≡ g n = ap g last in
      omega (arith, rest, old, new)
  | inr before ↦
      let rest = sum_below-moved n i f g before (λ k less other. others k (omega arith) other) in
      let last = others n (omega arith) (λ e. absurd (omega (arith, e, before))) in
      omega (arith, rest, last)
]

-- no part is more than the sum
pub part-le-below : (n i : ℕ) (f : ℕ → ℕ) → i < n → f i ≤ sum_below n f
part-le-below zero i f below = absurd (omega arith)
part-le-below (suc n) i f below = elim (last_or_before i n below) [
  | inl last ↦ let own : f i ≡ f n = ap f last in omega (arith, own)
  | inr before ↦ let rest = part-le-below n i f before in omega (arith, rest)
]

-- what each pair counts for, in two tables
module _ (accounts symbols : ℕ) (f g : ℕ → ℕ → ℕ) where
  -- no pair counts for more
  pub account-le : (a : ℕ) → ((s : ℕ) → g a s ≤ f a s)
      → over_account symbols g a ≤ over_account symbols f a
  account-le a less =
      sum_below-le symbols (λ s. f a s) (λ s. g a s) (λ s below. less s)

  pub symbol-le : (s : ℕ) → ((a : ℕ) → g a s ≤ f a s)
      → over_symbol accounts g s ≤ over_symbol accounts f s
  symbol-le s less =
      sum_below-le accounts (λ a. f a s) (λ a. g a s) (λ a below. less a)

  pub all-le : ((a s : ℕ) → g a s ≤ f a s)
      → over_all accounts symbols g ≤ over_all accounts symbols f
  all-le less =
      sum_below-le accounts (λ a. over_account symbols f a) (λ a. over_account symbols g a)
      (λ a below. account-le a (less a))

  -- each pair counts for the same
  pub account-same : (a : ℕ) → ((s : ℕ) → s < symbols → g a s ≡ f a s)
      → over_account symbols g a ≡ over_account symbols f a
  account-same a same = sum_below-same symbols (λ s. f a s) (λ s. g a s) same

  pub symbol-same : (s : ℕ) → ((a : ℕ) → a < accounts → g a s ≡ f a s)
      → over_symbol accounts g s ≡ over_symbol accounts f s
  symbol-same s same = sum_below-same accounts (λ a. f a s) (λ a. g a s) same

  pub all-same : ((a s : ℕ) → a < accounts → s < symbols → g a s ≡ f a s)
      → over_all accounts symbols g ≡ over_all accounts symbols f
  all-same same =
      sum_below-same accounts (λ a. over_account symbols f a) (λ a. over_account symbols g a)
      (λ a inside. account-same a (λ s below. same a s inside below))

  -- one pair is changed
  module _ (a s : ℕ) (in_accounts : a < accounts) (in_symbols : s < symbols)
      (others : (i j : ℕ) → i < accounts → j < symbols → (i ≡ a → j ≡ s → ⊥) → g i j ≡ f i j)
    where
      pub account-moved : over_account symbols g a + f a s ≡ over_account symbols f a + g a s
      account-moved =
          sum_below-moved symbols s (λ j. f a j) (λ j. g a j) in_symbols
          (λ j below other. others a j in_accounts below (λ e same. other same))

      pub account-other : (i : ℕ) → i < accounts → (i ≡ a → ⊥)
          → over_account symbols g i ≡ over_account symbols f i
      account-other i inside other =
          account-same i (λ j below. others i j inside below (λ e same. other e))

      pub symbol-moved : over_symbol accounts g s + f a s ≡ over_symbol accounts f s + g a s
      symbol-moved =
          sum_below-moved accounts a (λ i. f i s) (λ i. g i s) in_accounts
          (λ i below other. others i s below in_symbols (λ e same. other e))

      pub symbol-other : (j : ℕ) → j < symbols → (j ≡ s → ⊥)
          → over_symbol accounts g j ≡ over_symbol accounts f j
      symbol-other j inside other =
          symbol-same j (λ i below. others i j below inside (λ e same. other same))

      pub all-moved : over_all accounts symbols g + f a s ≡ over_all accounts symbols f + g a s
      all-moved =
          let by_account = sum_below-moved accounts a (λ i. over_account symbols f i)
          (λ i. over_account symbols g i) in_accounts (λ i below other. account-other i below other) in
          let own = account-moved in
          omega (arith, by_account, own)

-- no pair counts for more than its trees, and none of these for more than the firm
module _ (accounts symbols : ℕ) (f : ℕ → ℕ → ℕ) where
  pub pair-le-account : (a s : ℕ) → s < symbols → f a s ≤ over_account symbols f a
  pair-le-account a s below = part-le-below symbols s (λ j. f a j) below

  pub pair-le-symbol : (a s : ℕ) → a < accounts → f a s ≤ over_symbol accounts f s
  pair-le-symbol a s below = part-le-below accounts a (λ i. f i s) below

  pub account-le-all : (a : ℕ) → a < accounts → over_account symbols f a ≤ over_all accounts symbols f
  account-le-all a below = part-le-below accounts a (λ i. over_account symbols f i) below

  pub symbol-le-all : (s : ℕ) → s < symbols → over_symbol accounts f s ≤ over_all accounts symbols f
  symbol-le-all s below =
      sum_below-le accounts (λ a. over_account symbols f a) (λ a. f a s)
      (λ a inside. pair-le-account a s below)

  pub all-none : ((a s : ℕ) → f a s ≡ 0) → over_all accounts symbols f ≡ 0
  all-none none =
      sum_below-none accounts (λ a. over_account symbols f a)
      (λ a inside. sum_below-none symbols (λ s. f a s) (λ s below. none a s))
