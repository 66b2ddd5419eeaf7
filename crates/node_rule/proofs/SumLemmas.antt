-- Sums over all views, where one view changes.
use Rattle.std.proofs.Common.{◌≡◌, ◌≢◌, ℕ, zero, suc, ◌+◌, ◌≤◌, List, [], ◌∷◌, ◌++◌, set, refl, sym, ap, arith}
use mathlib.Core.Option.{some, some-injective, some-ne-none}
use lib.ListN.{get_elem?}
use Rattle.node_rule.specs.declared.view.View.{View}
use Rattle.node_rule.specs.declared.view.Track.{Track}
use Rattle.node_rule.specs.Views.{tracks_of}
use Rattle.node_rule.specs.Sums.{total, over}

module _ {A : Type 0} (f : A → ℕ) where
  pub total-append : (xs ys : List A) → total f (xs ++ ys) ≡ total f xs + total f ys
  total-append [] ys = omega arith
  total-append (x ∷ xs) ys = let more = total-append xs ys in omega arith

  pub total-set : (xs : List A) (i : ℕ) (v w : A) → get_elem? xs i ≡ some v
      → total f (set xs i w) + f v ≡ total f xs + f w
  total-set [] i v w e = absurd (some-ne-none v (sym e))
  total-set (x ∷ xs) zero v w e = let same : f x ≡ f v = ap f (some-injective x v e) in omega arith
  total-set (x ∷ xs) (suc i) v w e = let more = total-set xs i v w e in omega arith

  -- one of them is no more than all
  pub total-part : (xs : List A) (i : ℕ) (v : A) → get_elem? xs i ≡ some v → f v ≤ total f xs
  total-part [] i v e = absurd (some-ne-none v (sym e))
  total-part (x ∷ xs) zero v e = let same : f x ≡ f v = ap f (some-injective x v e) in omega arith
  total-part (x ∷ xs) (suc i) v e = let more = total-part xs i v e in omega arith

  -- two of them are no more than all
  pub total-parts : (xs : List A) (i j : ℕ) (v w : A) → j ≢ i → get_elem? xs i ≡ some v
      → get_elem? xs j ≡ some w → f v + f w ≤ total f xs
  total-parts [] i j v w apart e d = absurd (some-ne-none v (sym e))
  total-parts (x ∷ xs) zero zero v w apart e d = absurd (apart refl)
  total-parts (x ∷ xs) zero (suc j) v w apart e d = let same : f x ≡ f v =
      ap f (some-injective x v e) in let rest = total-part xs j w d in omega arith
  total-parts (x ∷ xs) (suc i) zero v w apart e d = let same : f x ≡ f w =
      ap f (some-injective x w d) in let rest = total-part xs i v e in omega arith
  total-parts (x ∷ xs) (suc i) (suc j) v w apart e d = let rest =
      total-parts xs i j v w (λ h. apart (ap suc h)) e d in omega arith

  pub total-same : (xs : List A) (i : ℕ) (v w : A) → get_elem? xs i ≡ some v → f v ≡ f w
      → total f (set xs i w) ≡ total f xs
  total-same xs i v w e same = let moved = total-set xs i v w e in omega arith

pub over-set : (f : Track → ℕ) (views : List View) (seat : ℕ) (v w : View)
    → get_elem? views seat ≡ some v → over f (set views seat w) + total f
    (tracks_of v) ≡ over f views + total f (tracks_of w)
over-set f views seat v w e = total-set (λ (u : View). total f (tracks_of u)) views seat v w e

pub over-append : (f : Track → ℕ) (views : List View) (w : View)
    → over f (views ++ w ∷ []) ≡ over f views + total f (tracks_of w)
over-append f views w = let more = total-append (λ (u : View). total f (tracks_of u)) views
    (w ∷ []) in omega arith
