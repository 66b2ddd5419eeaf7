-- A set of screens is armed, one screen after another.
use Rattle.std.proofs.Common.{◌≡◌, ℕ, ◌+◌, ◌<◌, List, [], ◌∷◌, ◌++◌, length, map, take, drop, ap, arith, refl, slice_index_or, slice_set, suc, zero, add-one}
use Rattle.std.specs.List.{AllZip}
use Rattle.screen_kit.specs.Screens.{ScreenValue, IsSameScreen, armed}
use Rattle.screen_kit.specs.declared.order.Terms.{Terms}

-- each screen is the same as itself
pub same_screens : (screens : List ScreenValue) → AllZip IsSameScreen screens screens
same_screens [] = tt
same_screens (screen ∷ later) = (refl, same_screens later)

module _ {B : Type 0} (f : B → ScreenValue) where
  -- the screen at i is armed, and the later ones are to be
  pub arms_next : (terms : Terms) (xs : List B) (i : ℕ) (d e : B) → i < length xs
      → d ≡ slice_index_or xs i d → f e ≡ armed terms (f d)
      → take i (map f xs) ++ map (armed terms) (drop i (map f xs))
      ≡ take (i + 1) (map f (slice_set xs i e))
      ++ map (armed terms) (drop (i + 1) (map f (slice_set xs i e)))
  arms_next terms [] i d e in_range is next = absurd (omega arith)
  arms_next terms (x ∷ xs) zero d e in_range is next = grind arith
  arms_next terms (x ∷ xs) (suc i) d e in_range is next = rw add-one (ap (λ s. f x ∷ s)
      (rw add-one at (arms_next terms xs i d e (omega arith) is next)))

  -- one more screen has its name and rules as before
  pub same_next : (old : List ScreenValue) (xs : List B) (i : ℕ) (d e : B) → i < length xs
      → d ≡ slice_index_or xs i d → IsSameScreen (f d) (f e)
      → AllZip IsSameScreen old (map f xs)
      → AllZip IsSameScreen old (map f (slice_set xs i e))
  same_next old [] i d e in_range is same before = absurd (omega arith)
  same_next [] (x ∷ xs) i d e in_range is same before = absurd before
  same_next (s ∷ old) (x ∷ xs) zero d e in_range is same before = (grind arith, before.1)
  same_next (s ∷ old) (x ∷ xs) (suc i) d e in_range is same before =
      (before.0, same_next old xs i d e (omega arith) is same before.1)
