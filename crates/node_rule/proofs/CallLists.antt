-- Lists of calls with one more at the end.
use Rattle.std.proofs.Common.{◌≡◌, ◌≢◌, ◌⊎◌, ℕ, zero, suc, ◌<◌, ◌≤◌, Bool, true, false, List, [], ◌∷◌, ◌++◌, length, take, refl, sym, ap, ◌∙◌, ⊎_elim, inl, inr, arith}
use mathlib.Core.Option.{some, some-injective, some-ne-none}
use lib.ListN.{get_elem?}
use Rattle.std.specs.Prelude.{◌==◌}
use Rattle.std.proofs.lemmas.Bool.{eq-eqb, ne_eqb}
use Rattle.risk_board.specs.declared.hand.Call.{Call}
use Rattle.risk_board.specs.declared.hand.Call.TheVariants.{Post, Read}
use Rattle.node_rule.specs.Views.{pick}
use Rattle.node_rule.specs.Sums.{posted}

module _ {A : Type 0} where
  -- an element of a longer list is an earlier one, or the last
  pub at_end : (xs : List A) (x y : A) (k : ℕ) → get_elem? (xs ++ x ∷ []) k ≡ some y
      → ((k < length xs) × (get_elem? xs k ≡ some y)) ⊎ ((k ≡ length xs) × (x ≡ y))
  at_end [] x y zero e = inr (refl, some-injective x y e)
  at_end [] x y (suc k) e = absurd (some-ne-none y (sym e))
  at_end (z ∷ xs) x y zero e = inl (omega arith, e)
  at_end (z ∷ xs) x y (suc k) e = ⊎_elim (λ (h : (k < length xs) × (get_elem? xs k ≡ some y)).
      let lt = h.0 in inl (omega arith, h.1)) (λ (h : (k ≡ length xs) × (x ≡ y)). let same = h.0 in
      inr (omega arith, h.1)) (at_end xs x y k e)

  pub take-shorter : (xs ys : List A) (k : ℕ) → k ≤ length xs → take k (xs ++ ys) ≡ take k xs
  take-shorter [] ys zero h = refl
  take-shorter [] ys (suc k) h = absurd (omega arith)
  take-shorter (x ∷ xs) ys zero h = refl
  take-shorter (x ∷ xs) ys (suc k) h = ap (λ (l : List A). x ∷ l)
      (take-shorter xs ys k (omega arith))

  pub take-whole : (xs ys : List A) → take (length xs) (xs ++ ys) ≡ xs
  take-whole [] ys = refl
  take-whole (x ∷ xs) ys = ap (λ (l : List A). x ∷ l) (take-whole xs ys)

pick_append : (b : Bool) (value : ℕ) (old more : List ℕ)
    → pick b (value ∷ (old ++ more)) (old ++ more) ≡ pick b (value ∷ old) old ++ more
pick_append true value old more = refl
pick_append false value old more = refl

pub posted-append : (tree : ℕ) (calls more : List Call)
    → posted tree (calls ++ more) ≡ posted tree calls ++ posted tree more
posted-append tree [] more = refl
posted-append tree (Post t value ∷ calls) more = ap (λ (l : List ℕ). pick (t == tree) (value ∷ l) l)
    (posted-append tree calls more) ∙ pick_append (t == tree) value (posted tree calls)
    (posted tree more)
posted-append tree (Read t stamp value ∷ calls) more = posted-append tree calls more

append-none : (xs : List ℕ) → xs ++ [] ≡ xs
append-none [] = refl
append-none (x ∷ xs) = ap (λ (l : List ℕ). x ∷ l) (append-none xs)

-- a read is no post
pub posted-read : (tree : ℕ) (calls : List Call) (t stamp value : ℕ)
    → posted tree (calls ++ Read t stamp value ∷ []) ≡ posted tree calls
posted-read tree calls t stamp value = posted-append tree calls (Read t stamp value ∷ [])
    ∙ append-none (posted tree calls)

-- a post in the tree, and one in another
pub posted-post : (tree : ℕ) (calls : List Call) (value : ℕ)
    → posted tree (calls ++ Post tree value ∷ []) ≡ posted tree calls ++ value ∷ []
posted-post tree calls value = posted-append tree calls (Post tree value ∷ [])
    ∙ ap (λ (b : Bool). posted tree calls ++ pick b (value ∷ []) []) (eq-eqb tree tree refl)

pub posted-else : (tree : ℕ) (calls : List Call) (t value : ℕ) → t ≢ tree
    → posted tree (calls ++ Post t value ∷ []) ≡ posted tree calls
posted-else tree calls t value apart = posted-append tree calls (Post t value ∷ [])
    ∙ (ap (λ (b : Bool). posted tree calls ++ pick b (value ∷ []) []) (ne_eqb t tree apart)
    ∙ append-none (posted tree calls))
