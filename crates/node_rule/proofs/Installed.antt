-- The board after one more install.
use Rattle.std.proofs.Common.{◌≡◌, ◌⊎◌, ℕ, suc, ◌+◌, ◌*◌, ◌/◌, ◌^◌, ◌<◌, ◌≤◌, List, length, set, Option, refl, sym, ap, ◌∙◌, subst, ⊎_elim, inl, inr, arith}
use mathlib.Core.Option.{some}
use mathlib.Core.Logic.{dite}
use native.Mathlib.Decide.{ℕ_discrete}
use lib.ListN.{get_elem?}
use Rattle.std.specs.Prelude.{◌&&◌, ◌==◌, slice_set}
use Rattle.std.proofs.lemmas.Bool.{cases_lt}
use Rattle.stamp_word.specs.Word.{stamp_in}
use Rattle.stamp_word.specs.Places.{place_of, leaf_of}
use Rattle.node_rule.specs.declared.view.View.{View}
use Rattle.node_rule.specs.declared.view.View.TheVariants.{Session}
use Rattle.node_rule.specs.declared.view.Track.{Track}
use Rattle.node_rule.specs.declared.view.Install.{Install}
use Rattle.node_rule.specs.declared.view.Ascent.{Ascent}
use Rattle.node_rule.specs.declared.view.Plan.{Plan}
use Rattle.node_rule.specs.Views.{installed, pick, is_left}
use Rattle.node_rule.specs.Sums.{total, over, when, is_at, read_by, seen_in, posts_of}
use Rattle.node_rule.specs.Fronts.{Board, board_of}
use Rattle.node_rule.specs.StampPart.{IsGrown}
use Rattle.node_rule.proofs.Tree.{IsLater}
use Rattle.node_rule.proofs.SumLemmas.{over-set}
use Rattle.node_rule.proofs.Places.{word-set_same, word-set_other}
use Rattle.node_rule.proofs.Adding.{matched-none, matched-some, located-none, located-some, seen-none, trail-add}

-- The node's stamp rose by one, by an install that read its children at these stamps
pub record IsInstalled (plan : Plan) (b c : Board) (tree node left right : ℕ) : Type 0 where
  pub stamp : c.stamp tree node ≡ suc (b.stamp tree node)
  pub stamps : (t n : ℕ) → n < 2 * 2 ^ plan.levels → (t ≡ tree → n ≡ node → ⊥)
      → c.stamp t n ≡ b.stamp t n
  pub read : (child : ℕ) → child / 2 ≡ node
      → c.seen tree child (suc (b.stamp tree node)) ≡ pick (is_left child) left right
  pub seen : (t child s : ℕ) → (t ≡ tree → child / 2 ≡ node → s ≡ suc (b.stamp tree node) → ⊥)
      → c.seen t child s ≡ b.seen t child s
  pub once : c.times tree node (suc (b.stamp tree node)) ≡ suc
      (b.times tree node (suc (b.stamp tree node)))
  pub times : (t n s : ℕ) → (t ≡ tree → n ≡ node → s ≡ suc (b.stamp tree node) → ⊥)
      → c.times t n s ≡ b.times t n s
  pub counted : c.installs tree node ≡ suc (b.installs tree node)
  pub installs : (t n : ℕ) → (t ≡ tree → n ≡ node → ⊥) → c.installs t n ≡ b.installs t n
  pub posts : (number t : ℕ) → c.posts number t ≡ b.posts number t

module _ (plan : Plan) (words : List ℕ) (views : List View) (seat levels : ℕ) (track : Track)
    (before after : Option Ascent) (x : Install) (word : ℕ) where
  abbrev was : Board
  was = board_of plan.levels words views

  abbrev is : Board
  is = board_of plan.levels (slice_set words (place_of plan.levels x.tree x.node) word)
      (set views seat (Session levels (installed track x) after))

  added : (f : Track → ℕ) → get_elem? views seat ≡ some (Session levels track before)
      → over f (set views seat (Session levels (installed track x) after)) + f track
      ≡ over f views + f (installed track x)
  added f at = let moved = over-set f views seat (Session levels track before)
      (Session levels (installed track x) after) at in omega arith

  added_by : (g : Install → ℕ) → get_elem? views seat ≡ some (Session levels track before)
      → over (λ (t : Track). total g t.trail)
      (set views seat (Session levels (installed track x) after)) ≡ over
      (λ (t : Track). total g t.trail) views + g x
  added_by g at = let moved = added (λ t. total g t.trail) at in let more = trail-add g track x in
      omega arith

  pub board-installed : get_elem? views seat ≡ some (Session levels track before)
      → length words ≡ plan.trees * (2 * 2 ^ plan.levels) → x.tree < plan.trees
      → x.node < 2 * 2 ^ plan.levels
      → stamp_in word ≡ suc (was.stamp x.tree x.node) → x.stamp ≡ suc (was.stamp x.tree x.node)
      → was.times x.tree x.node x.stamp ≡ 0
      → IsInstalled plan was is x.tree x.node x.left x.right
  board-installed at width tree_in node_in word_is stamp_is none = record {
    stamp = ap stamp_in
        (word-set_same plan.levels plan.trees x.tree x.node word words width tree_in node_in)
        ∙ word_is;
    stamps = λ t n n_in apart. ap stamp_in
        (word-set_other plan.levels x.tree x.node word words t n node_in n_in apart);
    read = λ child halves.
        let more = added_by (read_by x.tree child (suc (was.stamp x.tree x.node))) at in
        let here : read_by x.tree child (suc (was.stamp x.tree x.node)) x ≡ pick
        (is_left child) x.left x.right = matched-some x x.tree (child / 2)
        (suc (was.stamp x.tree x.node)) (pick (is_left child) x.left x.right) refl
        (sym halves) stamp_is in
        let empty : over (seen_in x.tree child (suc (was.stamp x.tree x.node))) views ≡ 0 =
        seen-none x.tree child (suc (was.stamp x.tree x.node)) views
        (subst (λ (p : ℕ × ℕ). was.times x.tree p.0 p.1 ≡ 0)
        (λ i. (sym halves i, stamp_is i)) none) in
        omega arith;
    seen = λ t child s apart.
        let more = added_by (read_by t child s) at in
        let here : read_by t child s x ≡ 0 = matched-none x t (child / 2) s
        (pick (is_left child) x.left x.right)
        (λ p q r. apart (sym p) (sym q) (sym r ∙ stamp_is)) in
        omega arith;
    once =
        let more = added_by (λ z. when (is_at x.tree x.node z && z.stamp == suc
        (was.stamp x.tree x.node)) 1) at in
        let here : when (is_at x.tree x.node x && x.stamp == suc (was.stamp x.tree x.node)) 1 ≡ 1 =
        matched-some x x.tree x.node (suc (was.stamp x.tree x.node)) 1 refl refl stamp_is in
        omega arith;
    times = λ t n s apart.
        let more = added_by (λ z. when (is_at t n z && z.stamp == s) 1) at in
        let here : when (is_at t n x && x.stamp == s) 1 ≡ 0 =
        matched-none x t n s 1 (λ p q r. apart (sym p) (sym q) (sym r ∙ stamp_is)) in
        omega arith;
    counted =
        let more = added_by (λ z. when (is_at x.tree x.node z) 1) at in
        let here : when (is_at x.tree x.node x) 1 ≡ 1 = located-some x x.tree x.node refl refl in
        omega arith;
    installs = λ t n apart.
        let more = added_by (λ z. when (is_at t n z) 1) at in
        let here : when (is_at t n x) 1 ≡ 0 = located-none x t n (λ p q. apart (sym p) (sym q)) in
        omega arith;
    posts = λ number t. let same = added (posts_of number t) at in omega arith;
  }

pub here_or : (tree node t n : ℕ) → ((t ≡ tree) × (n ≡ node)) ⊎ (t ≡ tree → n ≡ node → ⊥)
here_or tree node t n = dite (ℕ_discrete t tree)
    (λ p. dite (ℕ_discrete n node) (λ q. inl (p, q)) (λ q. inr (λ _ e. q e)))
    (λ p. inr (λ e _. p e))

module _ (plan : Plan) (b c : Board) (tree node left right : ℕ)
    (h : IsInstalled plan b c tree node left right) (grown : IsGrown plan b)
    (tree_in : tree < plan.trees) (inner : 1 ≤ node) (node_in : node < 2 ^ plan.levels)
    (newer : (child : ℕ) → child / 2 ≡ node
    → b.seen tree child (b.stamp tree node) ≤ pick (is_left child) left right)
    (within : (child : ℕ) → child / 2 ≡ node
    → pick (is_left child) left right ≤ b.stamp tree child) where
  -- no stamp falls
  rise : (t n : ℕ) → n < 2 * 2 ^ plan.levels → b.stamp t n ≤ c.stamp t n
  rise t n n_in = ⊎_elim
      (λ (same : (t ≡ tree) × (n ≡ node)). subst (λ (p : ℕ × ℕ). b.stamp p.0 p.1 ≤ c.stamp p.0 p.1)
      (λ i. (sym same.0 i, sym same.1 i)) (let up = h.stamp in omega arith))
      (λ (apart : t ≡ tree → n ≡ node → ⊥). let stays = h.stamps t n n_in apart in omega arith)
      (here_or tree node t n)

  -- a stamp that was reached is not the new one
  reached_apart : (t n s : ℕ) → s ≤ b.stamp t n → t ≡ tree → n ≡ node → s ≡ suc (b.stamp tree node)
      → ⊥
  reached_apart t n s le p q e = let le' : s ≤ b.stamp tree node =
      subst (λ (r : ℕ × ℕ). s ≤ b.stamp r.0 r.1) (λ i. (p i, q i)) le in omega arith

  pub later_installed : IsLater plan b c
  later_installed = record {
    stamps = λ t n _ _ n_in. rise t n n_in;
    seen = λ t child s _ _ _ le. h.seen t child s (reached_apart t (child / 2) s le);
  }

  -- a stamp of c is one of b, or the new one
  pub old_or_new : (t n s : ℕ) → n < 2 * 2 ^ plan.levels → s ≤ c.stamp t n
      → (s ≤ b.stamp t n) ⊎ ((t ≡ tree) × (n ≡ node) × (s ≡ suc (b.stamp tree node)))
  old_or_new t n s n_in le = ⊎_elim
      (λ (same : (t ≡ tree) × (n ≡ node)). let le' : s ≤ c.stamp tree node =
      subst (λ (r : ℕ × ℕ). s ≤ c.stamp r.0 r.1) (λ i. (same.0 i, same.1 i)) le in
      let up = h.stamp in ⊎_elim
      (λ (old : s ≤ b.stamp tree node). inl (subst (λ (r : ℕ × ℕ). s ≤ b.stamp r.0 r.1)
      (λ i. (sym same.0 i, sym same.1 i)) old))
      (λ (new : b.stamp tree node < s). inr (same.0, same.1, omega arith))
      (le_or s (b.stamp tree node)))
      (λ (apart : t ≡ tree → n ≡ node → ⊥). let stays = h.stamps t n n_in apart in
      inl (omega arith))
      (here_or tree node t n)
    where
      le_or : (m n : ℕ) → (m ≤ n) ⊎ (n < m)
      le_or m n = ⊎_elim (λ (lt : n < m). inr lt) (λ (le : m ≤ n). inl le) (cases_lt n m)

  rises_installed : (t child early late : ℕ) → t < plan.trees → 2 ≤ child
      → child < 2 * 2 ^ plan.levels → early ≤ late → late ≤ c.stamp t (child / 2)
      → c.seen t child early ≤ c.seen t child late
  rises_installed t child early late t_in low high order le = ⊎_elim
      (λ (old : late ≤ b.stamp t (child / 2)).
      let first = h.seen t child early (reached_apart t (child / 2) early (omega arith)) in
      let last = h.seen t child late (reached_apart t (child / 2) late old) in
      let was = grown.rises t child early late t_in low high order old in omega arith)
      (λ (new : (t ≡ tree) × (child / 2 ≡ node) × (late ≡ suc (b.stamp tree node))).
      subst (λ (p : ℕ × ℕ). c.seen p.0 child early ≤ c.seen p.0 child p.1)
      (λ i. (sym new.0 i, sym new.2 i)) (⊎_elim
      (λ (before : early < suc (b.stamp tree node)).
      let first = h.seen tree child early (reached_apart tree (child / 2) early
      (subst (λ (n : ℕ). early ≤ b.stamp tree n) (sym new.1) (omega arith))) in
      let was = grown.rises tree child early (b.stamp tree node) tree_in low high (omega arith)
      (subst (λ (n : ℕ). b.stamp tree node ≤ b.stamp tree n) (sym new.1) (omega arith)) in
      let last = h.read child new.1 in let more = newer child new.1 in omega arith)
      (λ (after : suc (b.stamp tree node) ≤ early). let same : early ≡ suc (b.stamp tree node) =
      omega arith in subst (λ (s : ℕ). c.seen tree child s ≤ c.seen tree child
      (suc (b.stamp tree node))) (sym same) (omega arith))
      (cases_lt early (suc (b.stamp tree node)))))
      (old_or_new t (child / 2) late (omega arith) le)

  below_installed : (t child s : ℕ) → t < plan.trees → 2 ≤ child → child < 2 * 2 ^ plan.levels
      → s ≤ c.stamp t (child / 2) → c.seen t child s ≤ c.stamp t child
  below_installed t child s t_in low high le = let up = rise t child high in ⊎_elim
      (λ (old : s ≤ b.stamp t (child / 2)). let same =
      h.seen t child s (reached_apart t (child / 2) s old) in
      let was = grown.below t child s t_in low high old in omega arith)
      (λ (new : (t ≡ tree) × (child / 2 ≡ node) × (s ≡ suc (b.stamp tree node))).
      subst (λ (p : ℕ × ℕ). c.seen p.0 child p.1 ≤ c.stamp p.0 child)
      (λ i. (sym new.0 i, sym new.2 i))
      (let last = h.read child new.1 in let most = within child new.1 in
      let up' = rise tree child high in omega arith))
      (old_or_new t (child / 2) s (omega arith) le)

  once_installed : (t n s : ℕ) → t < plan.trees → 1 ≤ n → n < 2 ^ plan.levels → 1 ≤ s
      → s ≤ c.stamp t n → c.times t n s ≡ 1
  once_installed t n s t_in low high from_one le = ⊎_elim
      (λ (old : s ≤ b.stamp t n). h.times t n s (reached_apart t n s old)
      ∙ grown.once t n s t_in low high from_one old)
      (λ (new : (t ≡ tree) × (n ≡ node) × (s ≡ suc (b.stamp tree node))).
      subst (λ (p : ℕ × ℕ × ℕ). c.times p.0 p.1 p.2 ≡ 1)
      (λ i. (sym new.0 i, sym new.1 i, sym new.2 i))
      (let one = h.once in let none = grown.none_else tree node
      (suc (b.stamp tree node)) tree_in inner node_in (omega arith) in omega arith))
      (old_or_new t n s (omega arith) le)

  else_installed : (t n s : ℕ) → t < plan.trees → 1 ≤ n → n < 2 ^ plan.levels → c.stamp t n < s
      → c.times t n s ≡ 0
  else_installed t n s t_in low high lt = let up = rise t n (omega arith) in
      h.times t n s (λ p q e. let lt' : c.stamp tree node < s =
      subst (λ (r : ℕ × ℕ). c.stamp r.0 r.1 < s) (λ i. (p i, q i)) lt in let here = h.stamp in
      omega arith) ∙ grown.none_else t n s t_in low high (omega arith)

  counted_installed : (t n : ℕ) → t < plan.trees → 1 ≤ n → n < 2 ^ plan.levels
      → c.stamp t n ≡ c.installs t n
  counted_installed t n t_in low high = ⊎_elim
      (λ (same : (t ≡ tree) × (n ≡ node)). subst
      (λ (p : ℕ × ℕ). c.stamp p.0 p.1 ≡ c.installs p.0 p.1) (λ i. (sym same.0 i, sym same.1 i))
      (let up = h.stamp in let more = h.counted in
      let was = grown.counted tree node tree_in inner node_in in omega arith))
      (λ (apart : t ≡ tree → n ≡ node → ⊥). h.stamps t n (omega arith) apart
      ∙ (grown.counted t n t_in low high ∙ sym (h.installs t n apart)))
      (here_or tree node t n)

  pub grown_installed : IsGrown plan c
  grown_installed = record {
    leaves = λ t session t_in session_in. h.stamps t (leaf_of plan.levels session) (omega arith)
        (λ _ e. omega arith) ∙ (grown.leaves t session t_in session_in ∙ sym (h.posts session t));
    once = once_installed;
    none_else = else_installed;
    none_at_zero = λ t n t_in low high. h.times t n 0 (λ _ _ e. omega arith)
        ∙ grown.none_at_zero t n t_in low high;
    counted = counted_installed;
    rises = rises_installed;
    below = below_installed;
  }
