-- A won exchange keeps the value part.
use Rattle.std.proofs.Common.{◌≡◌, ◌≢◌, ℕ, zero, suc, ◌+◌, ◌-◌, ◌*◌, ◌/◌, ◌%◌, ◌^◌, ◌<◌, ◌≤◌, Bool, true, false, List, set, Option, Some, None, refl, sym, ap, ◌∙◌, subst, ⊎_elim, arith, lit<}
use mathlib.Core.Option.{some}
use lib.ListN.{get_elem?}
use Rattle.std.specs.Prelude.{IfSome, ◌==◌}
use Rattle.std.proofs.lemmas.Bool.{cases_lt, eq-eqb, ne_eqb}
use Rattle.std.proofs.Math.Nat.{two-pow-succ, pow-le-pow_right}
use Rattle.atomic_table.proofs.Lists.{at_set}
use Rattle.stamp_word.specs.Word.{stamp_in, value_in}
use Rattle.node_rule.specs.declared.view.View.{View}
use Rattle.node_rule.specs.declared.view.Stage.{Stage}
use Rattle.node_rule.specs.declared.view.Track.{Track}
use Rattle.node_rule.specs.declared.view.Try.{Try}
use Rattle.node_rule.specs.declared.view.Ascent.{Ascent}
use Rattle.node_rule.specs.declared.view.Plan.{Plan}
use Rattle.node_rule.specs.Views.{tracks_of, try_of, pick, is_left, staged, moved}
use Rattle.node_rule.specs.Sums.{total, post_of}
use Rattle.node_rule.specs.Fronts.{Board, IsDeep, word_at, leaf_value, value_at}
use Rattle.node_rule.specs.StampPart.{IsAscent, IsTry, IsStamped}
use Rattle.node_rule.specs.ValuePart.{HasValues, IsViewValued, IsValued}
use Rattle.node_rule.proofs.SumLemmas.{total-same}
use Rattle.node_rule.proofs.Children.{IsTrying}
use Rattle.node_rule.proofs.Places.{word-set_same, word-set_other}
use Rattle.node_rule.proofs.Installed.{here_or}
use Rattle.node_rule.proofs.Tree.{deep-within}
use Rattle.node_rule.proofs.Values.{child-deep, ascent-deep, value_stays}
use Rattle.node_rule.proofs.LaterValues.{calls_later, view_values_later}
use Rattle.node_rule.proofs.Won.{full, before, after, b, c, next_words, is, mine, try, change, later, inner}

-- a node has one depth
deep_below : (d e node : ℕ) → IsDeep d node → IsDeep e node → d < e → ⊥
deep_below d e node h k lt = let twice : 2 ^ suc d ≡ 2 ^ d + 2 ^ d = two-pow-succ d in
    let more : 2 ^ suc d ≤ 2 ^ e = pow-le-pow_right (lit< tt) lt in let high = h.high in
    let low = k.low in omega arith

pub deep-one : (d e node : ℕ) → IsDeep d node → IsDeep e node → d ≡ e
deep-one d e node h k = ⊎_elim (λ (lt : d < e). absurd (deep_below d e node h k lt))
    (λ (ge : e ≤ d). ⊎_elim (λ (gt : e < d). absurd (deep_below e d node k h gt))
    (λ (le : d ≤ e). omega arith) (cases_lt e d)) (cases_lt d e)

left_is : (node : ℕ) → is_left (2 * node) ≡ true
left_is node = eq-eqb ((2 * node) % 2) 0 (omega arith)

right_is : (node : ℕ) → is_left (2 * node + 1) ≡ false
right_is node = ne_eqb ((2 * node + 1) % 2) 0 (λ e. omega arith)

module _ (plan : Plan) (unit cap : ℕ) (join : ℕ → ℕ → ℕ) (words : List ℕ) (views : List View)
    (seat levels : ℕ) (track : Track) (x : Ascent) (make : Try
    → Stage) (parent left right word : ℕ) where
  abbrev board : Board
  board = b plan words views seat levels track x make parent left right word

  abbrev board' : Board
  board' = c plan words views seat levels track x make parent left right word

  abbrev views' : List View
  views' = set views seat (after plan words views seat levels track x make parent left right word)

  abbrev words' : List ℕ
  words' = next_words plan words views seat levels track x make parent left right word

  abbrev old : ℕ → ℕ → ℕ → ℕ → ℕ
  old = value_at plan.levels unit join views

  abbrev new : ℕ → ℕ → ℕ → ℕ → ℕ
  new = value_at plan.levels unit join views'

  module _ (trying : IsTrying plan board make) (s : IsStamped plan words views)
      (at : get_elem? views seat ≡ some
      (before plan words views seat levels track x make parent left right word))
      (now : board.stamp x.tree (x.node / 2) ≡ stamp_in parent)
      (word_is : stamp_in word ≡ suc (stamp_in parent))
      (h : IsValued plan unit cap join words views)
      (joined : value_in word ≡ join (value_in left) (value_in right)) where
    leaf_same : (tree node stamp : ℕ)
        → leaf_value plan.levels unit views' tree node stamp
        ≡ leaf_value plan.levels unit views tree node stamp
    leaf_same tree node zero = refl
    leaf_same tree node (suc k) = total-same
        (λ (u : View). total (post_of (node - 2 ^ plan.levels) tree (suc k))
        (tracks_of u)) views seat
        (before plan words views seat levels track x make parent left right word)
        (after plan words views seat levels track x make parent left right word) at refl

    stays : (tree depth height node stamp : ℕ) → tree < plan.trees → depth + height ≡ plan.levels
        → IsDeep depth node → stamp ≤ board.stamp tree node
        → new tree height node stamp ≡ old tree height node stamp
    stays tree depth height node stamp tree_in e deep reached =
        value_stays plan join board board' s.grown
        (later plan words views seat levels track x make parent left right word trying s at now
        word_is) tree tree_in (leaf_value plan.levels unit views tree)
        (leaf_value plan.levels unit views' tree)
        (λ n k _ _. leaf_same tree n k) height depth node stamp e deep reached

    here : IsAscent plan board track.number
        (staged x (make (full plan words views seat levels track x make parent left right word)))
    here = mine plan words views seat levels track x make parent left right word trying s at now
        word_is

    loaded : HasValues plan cap old x.tree x.height x.node
        (full plan words views seat levels track x make parent left right word)
    loaded = subst (λ (o : Option Try). IfSome o (HasValues plan cap old x.tree x.height x.node))
        (trying.tried (full plan words views seat levels track x make parent left right word))
        (h.each seat (before plan words views seat levels track x make parent left right word)
        at).loaded

    tried : IsTry plan board x.tree x.node x.held
        (full plan words views seat levels track x make parent left right word)
    tried = try plan words views seat levels track x make parent left right word trying s at now
        word_is

    deep : IsDeep (plan.levels - suc x.height) (x.node / 2)
    deep = ascent-deep plan board track.number
        (staged x (make (full plan words views seat levels track x make parent left right word)))
        s.planned (s.each seat
        (before plan words views seat levels track x make parent left right word) at).1.past.number
        here

    -- the new word has the value of the new install
    new_word : value_in word ≡ new x.tree (suc x.height) (x.node / 2) (suc (stamp_in parent))
    new_word =
        let n : ℕ = x.node / 2 in
        let depth : ℕ = plan.levels - suc x.height in
        let level : suc depth + x.height ≡ plan.levels = let lt = here.height in omega arith in
        let changed = change plan words views seat levels track x make parent left right word trying
        s at now word_is in
        let read_left : board'.seen x.tree (2 * n) (suc (stamp_in parent)) ≡ stamp_in left =
        subst (λ (k : ℕ). board'.seen x.tree (2 * n) (suc k) ≡ pick (is_left (2 * n))
        (stamp_in left) (stamp_in right)) now (changed.read (2 * n) (omega arith))
        ∙ ap (λ (p : Bool). pick p (stamp_in left) (stamp_in right)) (left_is n) in
        let read_right : board'.seen x.tree (2 * n + 1) (suc (stamp_in parent)) ≡ stamp_in right =
        subst (λ (k : ℕ). board'.seen x.tree (2 * n + 1) (suc k) ≡ pick (is_left (2 * n + 1))
        (stamp_in left) (stamp_in right)) now (changed.read (2 * n + 1) (omega arith))
        ∙ ap (λ (p : Bool). pick p (stamp_in left) (stamp_in right)) (right_is n) in
        let l : value_in left ≡ new x.tree x.height (2 * n)
        (board'.seen x.tree (2 * n) (suc (stamp_in parent))) = loaded.left
        ∙ (sym (stays x.tree (suc depth) x.height (2 * n) (stamp_in left) here.tree level
        (child-deep depth n (2 * n) deep (omega arith) (omega arith)) tried.left.reached)
        ∙ ap (λ (k : ℕ). new x.tree x.height (2 * n) k) (sym read_left)) in
        let r : value_in right ≡ new x.tree x.height (2 * n + 1)
        (board'.seen x.tree (2 * n + 1) (suc (stamp_in parent))) = loaded.right
        ∙ (sym (stays x.tree (suc depth) x.height (2 * n + 1) (stamp_in right) here.tree level
        (child-deep depth n (2 * n + 1) deep (omega arith) (omega arith)) tried.right.reached)
        ∙ ap (λ (k : ℕ). new x.tree x.height (2 * n + 1) k) (sym read_right)) in
        joined ∙ (λ i. join (l i) (r i))

    node_valued : (tree depth height node : ℕ) → tree < plan.trees → depth + height ≡ plan.levels
        → IsDeep depth node → value_in (word_at plan.levels words' tree node) ≡ new tree height node
        (stamp_in (word_at plan.levels words' tree node))
    node_valued tree depth height node tree_in e node_deep =
        let stands = inner plan words views seat levels track x make parent left right word trying s
        at now word_is in
        let node_in = deep-within depth plan.levels node (omega arith) node_deep in
        ⊎_elim
        (λ (same : (tree ≡ x.tree) × (node ≡ x.node / 2)).
        let depths : depth ≡ plan.levels - suc x.height =
        deep-one depth (plan.levels - suc x.height) (x.node / 2)
        (subst (IsDeep depth) same.1 node_deep) deep in
        let heights : height ≡ suc x.height = let lt = here.height in omega arith in
        let is_word : word_at plan.levels words' x.tree (x.node / 2) ≡ word =
        word-set_same plan.levels plan.trees x.tree (x.node / 2) word words s.width here.tree
        (let high = stands.high in omega arith) in
        let valued : value_in word ≡ new x.tree (suc x.height) (x.node / 2) (stamp_in word) =
        new_word ∙ ap (λ (k : ℕ). new x.tree (suc x.height) (x.node / 2) k) (sym word_is) in
        let valued' : value_in (word_at plan.levels words' x.tree (x.node / 2)) ≡ new x.tree
        (suc x.height) (x.node / 2)
        (stamp_in (word_at plan.levels words' x.tree (x.node / 2))) =
        subst (λ (w : ℕ). value_in w ≡ new x.tree (suc x.height) (x.node / 2) (stamp_in w))
        (sym is_word) valued in
        subst (λ (p : ℕ × ℕ × ℕ). value_in (word_at plan.levels words' p.0 p.1) ≡ new p.0 p.2 p.1
        (stamp_in (word_at plan.levels words' p.0 p.1)))
        (λ i. (sym same.0 i, sym same.1 i, sym heights i)) valued')
        (λ (apart : tree ≡ x.tree → node ≡ x.node / 2 → ⊥).
        let is_word : word_at plan.levels words' tree node ≡ word_at plan.levels words tree node =
        word-set_other plan.levels x.tree (x.node / 2) word words tree node
        (let high = stands.high in omega arith) node_in.high apart in
        subst (λ (w : ℕ). value_in w ≡ new tree height node (stamp_in w)) (sym is_word)
        (h.nodes tree depth height node tree_in e node_deep
        ∙ sym (stays tree depth height node (board.stamp tree node) tree_in e node_deep
        (omega arith))))
        (here_or x.tree (x.node / 2) tree node)

    none_loaded : (top : Bool) → IfSome {T = Ascent}
        (pick top None (Some (moved x (suc (stamp_in parent)))))
        (λ y. IfSome (try_of y.stage) (HasValues plan cap new y.tree y.height y.node))
    none_loaded true = tt
    none_loaded false = tt

    pub won_valued : IsValued plan unit cap join words' views'
    won_valued = record {
      nodes = node_valued;
      each = λ j u e. ⊎_elim
          (λ (a : (j ≡ seat)
          × (after plan words views seat levels track x make parent left right word ≡ u)). subst
          (IsViewValued plan cap new) a.1
          (record {
            loaded = none_loaded (x.node / 2 == 1);
            calls = (
              calls_later plan cap board s.planned old new stays track
                  (is plan words views seat levels track x make parent left right word trying s at now
                  word_is).past (h.each seat
                  (before plan words views seat levels track x make parent left right word) at).calls.0,
              tt,
            );
          }))
          (λ (a : (j ≢ seat) × (get_elem? views j ≡ some u)).
          view_values_later plan cap board s.planned old new stays u (s.each j u a.1)
          (h.each j u a.1))
          (at_set views seat j
          (after plan words views seat levels track x make parent left right word) u e);
    }
