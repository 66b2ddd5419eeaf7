-- What the store of a leaf does to the board: the leaf and its session have one post more.
use Rattle.std.proofs.Common.{◌≡◌, ◌⊎◌, ℕ, suc, ◌*◌, ◌/◌, ◌^◌, ◌<◌, ◌≤◌, sym, ap, ◌∙◌, subst, ⊎_elim, inl, inr, arith}
use mathlib.Core.Logic.{dite}
use native.Mathlib.Decide.{ℕ_discrete}
use Rattle.stamp_word.specs.Places.{leaf_of}
use Rattle.node_rule.specs.declared.view.Plan.{Plan}
use Rattle.node_rule.specs.Fronts.{Board}
use Rattle.node_rule.specs.StampPart.{IsGrown}
use Rattle.node_rule.proofs.Tree.{IsLater}

-- The session's leaf and its posts in the tree rose by one
pub record IsStored (plan : Plan) (b c : Board) (tree session : ℕ) : Type 0 where
  pub stamp : c.stamp tree (leaf_of plan.levels session) ≡ suc
      (b.stamp tree (leaf_of plan.levels session))
  pub stamps : (t n : ℕ) → n < 2 * 2 ^ plan.levels
      → (t ≡ tree → n ≡ leaf_of plan.levels session → ⊥) → c.stamp t n ≡ b.stamp t n
  pub seen : (t child s : ℕ) → c.seen t child s ≡ b.seen t child s
  pub times : (t n s : ℕ) → c.times t n s ≡ b.times t n s
  pub installs : (t n : ℕ) → c.installs t n ≡ b.installs t n
  pub post : c.posts session tree ≡ suc (b.posts session tree)
  pub posts : (number t : ℕ) → (number ≡ session → t ≡ tree → ⊥)
      → c.posts number t ≡ b.posts number t

pub either_apart : (a x b y : ℕ) → ((a ≡ x) × (b ≡ y)) ⊎ (a ≡ x → b ≡ y → ⊥)
either_apart a x b y = dite (ℕ_discrete a x) (λ p. dite (ℕ_discrete b y) (λ q. inl (p, q))
    (λ q. inr (λ _ e. q e))) (λ p. inr (λ e _. p e))

module _ (plan : Plan) (b c : Board) (tree session : ℕ) (h : IsStored plan b c tree session)
    (grown : IsGrown plan b) (tree_in : tree < plan.trees)
    (session_in : session < 2 ^ plan.levels) where
  rise : (t n : ℕ) → n < 2 * 2 ^ plan.levels → b.stamp t n ≤ c.stamp t n
  rise t n n_in = ⊎_elim
      (λ (same : (t ≡ tree) × (n ≡ leaf_of plan.levels session)). subst
      (λ (p : ℕ × ℕ). b.stamp p.0 p.1 ≤ c.stamp p.0 p.1) (λ i. (sym same.0 i, sym same.1 i))
      (let up = h.stamp in omega arith))
      (λ (apart : t ≡ tree → n ≡ leaf_of plan.levels session → ⊥). let stays =
      h.stamps t n n_in apart in omega arith)
      (either_apart t tree n (leaf_of plan.levels session))

  pub later_stored : IsLater plan b c
  later_stored = record {
    stamps = λ t n _ _ n_in. rise t n n_in;
    seen =
        λ t child s _ _ _ _. h.seen t child s;
  }

  -- an inner node keeps its stamp
  pub inner_stored : (t n : ℕ) → n < 2 ^ plan.levels → c.stamp t n ≡ b.stamp t n
  inner_stored t n n_in = h.stamps t n (omega arith) (λ _ e. omega arith)

  leaves_stored : (t other : ℕ) → t < plan.trees → other < 2 ^ plan.levels
      → c.stamp t (leaf_of plan.levels other) ≡ c.posts other t
  leaves_stored t other t_in other_in = ⊎_elim
      (λ (same : (other ≡ session) × (t ≡ tree)). subst
      (λ (p : ℕ × ℕ). c.stamp p.1 (leaf_of plan.levels p.0) ≡ c.posts p.0 p.1)
      (λ i. (sym same.0 i, sym same.1 i))
      (h.stamp ∙ (ap suc (grown.leaves tree session tree_in session_in) ∙ sym h.post)))
      (λ (apart : other ≡ session → t ≡ tree → ⊥). h.stamps t (leaf_of plan.levels other)
      (omega arith) (λ p e. apart (omega arith) p)
      ∙ (grown.leaves t other t_in other_in ∙ sym (h.posts other t apart)))
      (either_apart other session t tree)

  pub grown_stored : IsGrown plan c
  grown_stored = record {
    leaves = leaves_stored;
    once = λ t n s t_in low high from_one le. h.times t n s
        ∙ grown.once t n s t_in low high from_one
        (subst (λ (m : ℕ). s ≤ m) (inner_stored t n high) le);
    none_else = λ t n s t_in low high lt. h.times t n s
        ∙ grown.none_else t n s t_in low high (subst (λ (m : ℕ). m < s) (inner_stored t n high) lt);
    none_at_zero = λ t n t_in low high. h.times t n 0 ∙ grown.none_at_zero t n t_in low high;
    counted = λ t n t_in low high. inner_stored t n high
        ∙ (grown.counted t n t_in low high ∙ sym (h.installs t n));
    rises = λ t child early late t_in low high order le. let same =
        inner_stored t (child / 2) (omega arith) in let first = h.seen t child early in
        let last = h.seen t child late in let was =
        grown.rises t child early late t_in low high order (omega arith) in omega arith;
    below = λ t child s t_in low high le. let same = inner_stored t (child / 2) (omega arith) in
        let seen = h.seen t child s in let up = rise t child high in
        let was = grown.below t child s t_in low high (omega arith) in omega arith;
  }
