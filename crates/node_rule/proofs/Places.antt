-- The words of two nodes lie apart, and a store to one leaves the others.
use Rattle.std.proofs.Common.{◌≡◌, ℕ, suc, ◌+◌, ◌*◌, ◌/◌, ◌^◌, ◌<◌, ◌≤◌, List, length, sym, ap, ◌∙◌, subst, arith}
use Rattle.std.proofs.lemmas.List.{get_or-set_same, get_or-set_other}
use Rattle.std.proofs.lemmas.Nat.{div-mul-add}
use Rattle.std.proofs.Math.Nat.{mul-le-mul_right}
use Rattle.std.specs.Prelude.{slice_set}
use Rattle.stamp_word.specs.Places.{place_of}
use Rattle.node_rule.specs.Fronts.{word_at}

same_tree : (m s t k n : ℕ) → k < m → n < m → s * m + k ≡ t * m + n → s ≡ t
same_tree m s t k n k_in n_in e = sym (div-mul-add s m k k_in)
    ∙ (ap (λ (x : ℕ). x / m) e ∙ div-mul-add t m n n_in)

same_node : (m s t k n : ℕ) → s * m + k ≡ t * m + n → s ≡ t → k ≡ n
same_node m s t k n e same = let e' : s * m + k ≡ s * m + n =
    subst (λ (u : ℕ). s * m + k ≡ u * m + n) (sym same) e in let p : ℕ = s * m in
    let e'' : p + k ≡ p + n = e' in omega arith

-- two words in one place are of one node of one tree
pub place-one : (levels s t k n : ℕ) → k < 2 * 2 ^ levels → n < 2 * 2 ^ levels
    → place_of levels s k ≡ place_of levels t n → (s ≡ t) × (k ≡ n)
place-one levels s t k n k_in n_in e = let same = same_tree (2 * 2 ^ levels) s t k n k_in n_in e in
    (same, same_node (2 * 2 ^ levels) s t k n e same)

pub place-in : (levels trees tree node : ℕ) → tree < trees → node < 2 * 2 ^ levels
    → place_of levels tree node < trees * (2 * 2 ^ levels)
place-in levels trees tree node tree_in node_in =
    place_in (2 * 2 ^ levels) trees tree node tree_in node_in
  where
    place_in : (m trees tree node : ℕ) → tree < trees → node < m → tree * m + node < trees * m
    place_in m trees tree node tree_in node_in = let more : suc tree * m ≤ trees * m =
        mul-le-mul_right m tree_in in omega arith

pub word-set_same : (levels trees tree node word : ℕ) (words : List ℕ)
    → length words ≡ trees * (2 * 2 ^ levels) → tree < trees → node < 2 * 2 ^ levels
    → word_at levels (slice_set words (place_of levels tree node) word) tree node ≡ word
word-set_same levels trees tree node word words width tree_in node_in =
    get_or-set_same words (place_of levels tree node) word 0
    (subst (λ (n : ℕ). place_of levels tree node < n) (sym width)
    (place-in levels trees tree node tree_in node_in))

pub word-set_other : (levels tree node word : ℕ) (words : List ℕ) (t n : ℕ) → node < 2 * 2 ^ levels
    → n < 2 * 2 ^ levels → ((t ≡ tree) → (n ≡ node) → ⊥)
    → word_at levels (slice_set words (place_of levels tree node) word) t n
    ≡ word_at levels words t n
word-set_other levels tree node word words t n node_in n_in apart =
    get_or-set_other words (place_of levels tree node) (place_of levels t n) word 0
    (λ e. let same = place-one levels t tree n node n_in node_in e in apart same.0 same.1)
