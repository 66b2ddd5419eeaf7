-- A set of screens is asked, one screen after another.
use Rattle.std.proofs.Common.{◌≡◌, ◌≢◌, ℕ, ◌+◌, ◌<◌, List, [], ◌∷◌, ◌++◌, length, map, take, drop, ap, arith, slice_index_or, slice_set, suc, zero, add-one}
use Rattle.screen_kit.specs.Screens.{ScreenValue, judged, code_for}
use Rattle.screen_kit.specs.Sets.{first_code, after_asking}
use Rattle.screen_kit.specs.declared.order.Order.{Order}

module _ {B : Type 0} (f : B → ScreenValue) (order : Order) where
  -- the screen at i refuses with its code
  pub stops_code : (xs : List B) (i : ℕ) (d : B) → i < length xs → d ≡ slice_index_or xs i d
      → code_for order (f d) ≢ 0
      → first_code order (drop i (map f xs)) ≡ code_for order (f d)
  stops_code [] i d in_range is refuses = absurd (omega arith)
  stops_code (x ∷ xs) zero d in_range is refuses = grind arith
  stops_code (x ∷ xs) (suc i) d in_range is refuses = stops_code xs i d (omega arith) is refuses

  -- then the later screens are as they were
  pub stops_after : (xs : List B) (i : ℕ) (d e : B) → i < length xs → d ≡ slice_index_or xs i d
      → code_for order (f d) ≢ 0 → f e ≡ judged order (f d)
      → map f (slice_set xs i e) ≡ take i (map f xs) ++ after_asking order (drop i (map f xs))
  stops_after [] i d e in_range is refuses next = absurd (omega arith)
  stops_after (x ∷ xs) zero d e in_range is refuses next = grind arith
  stops_after (x ∷ xs) (suc i) d e in_range is refuses next =
      ap (λ s. f x ∷ s) (stops_after xs i d e (omega arith) is refuses next)

  -- the screen at i lets pass, and the same code is to come
  pub passes_code : (xs : List B) (i : ℕ) (d e : B) → i < length xs → d ≡ slice_index_or xs i d
      → code_for order (f d) ≡ 0
      → first_code order (drop i (map f xs))
      ≡ first_code order (drop (i + 1) (map f (slice_set xs i e)))
  passes_code [] i d e in_range is passes = absurd (omega arith)
  passes_code (x ∷ xs) zero d e in_range is passes = grind arith
  passes_code (x ∷ xs) (suc i) d e in_range is passes =
      rw add-one (rw add-one at (passes_code xs i d e (omega arith) is passes))

  -- and the same screens
  pub passes_after : (xs : List B) (i : ℕ) (d e : B) → i < length xs → d ≡ slice_index_or xs i d
      → code_for order (f d) ≡ 0 → f e ≡ judged order (f d)
      → take i (map f xs) ++ after_asking order (drop i (map f xs))
      ≡ take (i + 1) (map f (slice_set xs i e))
      ++ after_asking order (drop (i + 1) (map f (slice_set xs i e)))
  passes_after [] i d e in_range is passes next = absurd (omega arith)
  passes_after (x ∷ xs) zero d e in_range is passes next = grind arith
  passes_after (x ∷ xs) (suc i) d e in_range is passes next = rw add-one (ap (λ s. f x ∷ s)
      (rw add-one at (passes_after xs i d e (omega arith) is passes next)))
