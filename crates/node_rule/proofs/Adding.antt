-- What one more install adds to the sums over the views.
use Rattle.std.proofs.Common.{◌≡◌, ℕ, ◌+◌, ◌/◌, Bool, true, false, List, [], ◌∷◌, refl, arith}
use Rattle.std.specs.Prelude.{◌&&◌, ◌==◌}
use Rattle.std.proofs.lemmas.Bool.{eqb-true, eq-eqb}
use Rattle.node_rule.specs.declared.view.View.{View}
use Rattle.node_rule.specs.declared.view.Track.{Track}
use Rattle.node_rule.specs.declared.view.Install.{Install}
use Rattle.node_rule.specs.Views.{tracks_of, pick, is_left, installed}
use Rattle.node_rule.specs.Sums.{total, over, when, is_at, read_by, seen_in, times_in}
use Rattle.node_rule.proofs.SumLemmas.{total-append}

-- where f is 0 everywhere, so is g
pub total-zero : {A : Type 0} (f g : A → ℕ) → ((x : A) → f x ≡ 0 → g x ≡ 0) → (xs : List A)
    → total f xs ≡ 0 → total g xs ≡ 0
total-zero f g h [] e = refl
total-zero f g h (x ∷ xs) e = let first : g x ≡ 0 = h x (omega arith) in
    let rest : total g xs ≡ 0 = total-zero f g h xs (omega arith) in omega arith

when_none : (p q r : Bool) (n : ℕ) → (p ≡ true → q ≡ true → r ≡ true → ⊥) → when (p && q && r) n ≡ 0
when_none true true true n h = absurd (h refl refl refl)
when_none true true false n h = refl
when_none true false r n h = nothing r
  where
    nothing : (r : Bool) → when (false && r) n ≡ 0
    nothing r = refl
when_none false q r n h = refl

when_some : (p q r : Bool) (n : ℕ) → p ≡ true → q ≡ true → r ≡ true → when (p && q && r) n ≡ n
when_some true true true n _ _ _ = refl
when_some true true false n _ _ e = absurd (cc)
when_some true false r n _ e _ = absurd (cc)
when_some false q r n e _ _ = absurd (cc)

module _ (x : Install) (tree node stamp n : ℕ) where
  pub matched-none : (x.tree ≡ tree → x.node ≡ node → x.stamp ≡ stamp → ⊥)
      → when (is_at tree node x && x.stamp == stamp) n ≡ 0
  matched-none h = when_none (x.tree == tree) (x.node == node) (x.stamp == stamp) n
      (λ p q r. h (eqb-true _ _ p) (eqb-true _ _ q) (eqb-true _ _ r))

  pub matched-some : x.tree ≡ tree → x.node ≡ node → x.stamp ≡ stamp
      → when (is_at tree node x && x.stamp == stamp) n ≡ n
  matched-some p q r = when_some (x.tree == tree) (x.node == node) (x.stamp == stamp) n
      (eq-eqb _ _ p) (eq-eqb _ _ q) (eq-eqb _ _ r)

at_none : (p q : Bool) → (p ≡ true → q ≡ true → ⊥) → when (p && q) 1 ≡ 0
at_none true true h = absurd (h refl refl)
at_none true false h = refl
at_none false q h = refl

at_some : (p q : Bool) → p ≡ true → q ≡ true → when (p && q) 1 ≡ 1
at_some true true _ _ = refl
at_some true false _ e = absurd (cc)
at_some false q e _ = absurd (cc)

pub located-none : (x : Install) (tree node : ℕ) → (x.tree ≡ tree → x.node ≡ node → ⊥)
    → when (is_at tree node x) 1 ≡ 0
located-none x tree node h = at_none (x.tree == tree) (x.node == node)
    (λ p q. h (eqb-true _ _ p) (eqb-true _ _ q))

pub located-some : (x : Install) (tree node : ℕ) → x.tree ≡ tree → x.node ≡ node
    → when (is_at tree node x) 1 ≡ 1
located-some x tree node p q = at_some (x.tree == tree) (x.node == node) (eq-eqb _ _ p)
    (eq-eqb _ _ q)

-- no install with this stamp has read anything
pub when_zero : (b : Bool) (n : ℕ) → when b 1 ≡ 0 → when b n ≡ 0
when_zero true n e = absurd (omega arith)
when_zero false n e = refl

pub seen-none : (tree child stamp : ℕ) (views : List View)
    → over (times_in tree (child / 2) stamp) views ≡ 0 → over (seen_in tree child stamp) views ≡ 0
seen-none tree child stamp views = total-zero
    (λ v. total (times_in tree (child / 2) stamp) (tracks_of v))
    (λ v. total (seen_in tree child stamp) (tracks_of v))
    (λ v. total-zero (times_in tree (child / 2) stamp) (seen_in tree child stamp)
    (λ track. total-zero (λ x. when (is_at tree (child / 2) x && x.stamp == stamp) 1)
    (read_by tree child stamp)
    (λ x. when_zero (is_at tree (child / 2) x && x.stamp == stamp)
    (pick (is_left child) x.left x.right)) track.trail)
    (tracks_of v))
    views

pub trail-add : (f : Install → ℕ) (track : Track) (x : Install)
    → total f (installed track x).trail ≡ total f track.trail + f x
trail-add f track x = let more = total-append f track.trail (x ∷ []) in omega arith
