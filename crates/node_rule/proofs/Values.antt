-- Values at stamps that were reached stay, and are within the fold's bounds.
use Rattle.std.proofs.Common.{◌≡◌, ℕ, zero, suc, ◌+◌, ◌-◌, ◌*◌, ◌/◌, ◌^◌, ◌<◌, ◌≤◌, Bool, sym, ap, ◌∙◌, subst, arith, lit<}
use Rattle.stamp_word.specs.declared.limits.TheConstants.{LEVELS}
use Rattle.std.proofs.Math.Nat.{two-pow-succ, pow-le-pow_right}
use Rattle.stamp_word.specs.Places.{leaf_of}
use Rattle.fold_law.specs.Laws.{FoldLaws}
use Rattle.node_rule.specs.declared.view.Ascent.{Ascent}
use Rattle.node_rule.specs.declared.view.Plan.{Plan}
use Rattle.node_rule.specs.Fronts.{Board, IsDeep, value_of}
use Rattle.node_rule.specs.StampPart.{IsPlan, IsGrown, IsAscent}
use Rattle.node_rule.proofs.Tree.{IsLater, deep-within, leaf-deep, ancestor-deep}
use Rattle.node_rule.proofs.Children.{in_levels}

pub child-deep : (depth node child : ℕ) → IsDeep depth node → 2 * node ≤ child
    → child < 2 * node + 2 → IsDeep (suc depth) child
child-deep depth node child h low high = let twice : 2 ^ suc depth ≡ 2 ^ depth + 2 ^ depth =
    two-pow-succ depth in let l = h.low in let g = h.high in
    record { low = omega arith; high = omega arith }

-- where an ascent and its parent stand
pub ascent-deep : (plan : Plan) (b : Board) (number : ℕ) (x : Ascent) → IsPlan plan
    → number < plan.sessions → IsAscent plan b number x
    → IsDeep (plan.levels - suc x.height) (x.node / 2)
ascent-deep plan b number x planned number_in h =
    let session_in = in_levels number_in planned.sessions in
    let depth : ℕ = plan.levels - suc x.height in
    let same : depth + suc x.height ≡ plan.levels = let lt = h.height in omega arith in
    subst (λ (n : ℕ). IsDeep depth (n / 2)) (sym h.node)
    (ancestor-deep depth (suc x.height) (leaf_of plan.levels number)
    (subst (λ (n : ℕ). IsDeep n (leaf_of plan.levels number)) (sym same)
    (leaf-deep plan.levels number session_in)))

module _ (plan : Plan) (join : ℕ → ℕ → ℕ) (b c : Board) (grown : IsGrown plan b)
    (later : IsLater plan b c) (tree : ℕ) (tree_in : tree < plan.trees) (at_leaf at_leaf' : ℕ → ℕ
    → ℕ)
    (leaves : (node stamp : ℕ) → IsDeep plan.levels node → stamp ≤ b.stamp tree node
    → at_leaf' node stamp ≡ at_leaf node stamp) where
  -- the value at a stamp that was reached stays
  pub value_stays : (height depth node stamp : ℕ) → depth + height ≡ plan.levels → IsDeep depth node
      → stamp ≤ b.stamp tree node → value_of join at_leaf'
      (c.seen tree) height node stamp ≡ value_of join at_leaf (b.seen tree) height node stamp
  value_stays zero depth node stamp e deep reached = let same : depth ≡ plan.levels = omega arith in
      leaves node stamp (subst (λ (n : ℕ). IsDeep n node) same deep) reached
  value_stays (suc height) depth node stamp e deep reached =
      let w = deep-within depth plan.levels node (omega arith) deep in let low = w.low in
      let left = child-deep depth node (2 * node) deep (omega arith) (omega arith) in
      let right = child-deep depth node (2 * node + 1) deep (omega arith) (omega arith) in
      let left_in = deep-within (suc depth) plan.levels (2 * node) (omega arith) left in
      let right_in = deep-within (suc depth) plan.levels (2 * node + 1) (omega arith) right in
      let left_half : (2 * node) / 2 ≡ node = omega arith in
      let right_half : (2 * node + 1) / 2 ≡ node = omega arith in
      let left_reached : stamp ≤ b.stamp tree ((2 * node) / 2) =
      subst (λ (n : ℕ). stamp ≤ b.stamp tree n) (sym left_half) reached in
      let right_reached : stamp ≤ b.stamp tree ((2 * node + 1) / 2) =
      subst (λ (n : ℕ). stamp ≤ b.stamp tree n) (sym right_half) reached in
      let l : value_of join at_leaf' (c.seen tree) height (2 * node)
      (c.seen tree (2 * node) stamp) ≡ value_of join at_leaf (b.seen tree) height (2 * node)
      (b.seen tree (2 * node) stamp) =
      ap (λ (s : ℕ). value_of join at_leaf' (c.seen tree) height (2 * node) s)
      (later.seen tree (2 * node) stamp tree_in (omega arith) left_in.high left_reached)
      ∙ value_stays height (suc depth) (2 * node) (b.seen tree (2 * node) stamp) (omega arith) left
      (grown.below tree (2 * node) stamp tree_in (omega arith) left_in.high left_reached) in
      let r : value_of join at_leaf' (c.seen tree) height (2 * node + 1)
      (c.seen tree (2 * node + 1) stamp) ≡ value_of join at_leaf (b.seen tree) height
      (2 * node + 1) (b.seen tree (2 * node + 1) stamp) =
      ap (λ (s : ℕ). value_of join at_leaf' (c.seen tree) height (2 * node + 1) s)
      (later.seen tree (2 * node + 1) stamp tree_in (omega arith) right_in.high right_reached)
      ∙ value_stays height (suc depth) (2 * node + 1) (b.seen tree (2 * node + 1) stamp)
      (omega arith) right (grown.below tree (2 * node + 1) stamp tree_in
      (omega arith) right_in.high right_reached) in
      λ i. join (l i) (r i)

-- a value is the join of at most as many leaves as there are below the node
pub value_under : (unit cap : ℕ) (join : ℕ → ℕ → ℕ) (le : ℕ → ℕ → Bool) (under : ℕ → ℕ → Type 0)
    → FoldLaws unit cap join le under → (at_leaf : ℕ → ℕ → ℕ) (seen : ℕ → ℕ → ℕ)
    → ((node stamp : ℕ) → under 1 (at_leaf node stamp))
    → (height node stamp : ℕ) → height ≤ LEVELS
    → under (2 ^ height) (value_of join at_leaf seen height node stamp)
value_under unit cap join le under laws at_leaf seen leaves zero node stamp few = leaves node stamp
value_under unit cap join le under laws at_leaf seen leaves (suc height) node stamp few =
    let twice : 2 ^ suc height ≡ 2 ^ height + 2 ^ height = two-pow-succ height in
    let most : 2 ^ suc height ≤ 2 ^ LEVELS = pow-le-pow_right (lit< tt) few in
    subst (λ (n : ℕ). under n (value_of join at_leaf seen (suc height) node stamp)) (sym twice)
    (laws.join_under (2 ^ height) (2 ^ height)
    (value_of join at_leaf seen height (2 * node) (seen (2 * node) stamp))
    (value_of join at_leaf seen height (2 * node + 1) (seen (2 * node + 1) stamp)) (omega arith)
    (value_under unit cap join le under laws at_leaf seen leaves height (2 * node)
    (seen (2 * node) stamp) (omega arith))
    (value_under unit cap join le under laws at_leaf seen leaves height (2 * node + 1)
    (seen (2 * node + 1) stamp) (omega arith)))

-- at the stamp 0 the value is the unit
pub value_at_zero : (unit cap : ℕ) (join : ℕ → ℕ → ℕ) (le : ℕ → ℕ → Bool) (under : ℕ → ℕ → Type 0)
    → FoldLaws unit cap join le under → (at_leaf : ℕ → ℕ → ℕ) (seen : ℕ → ℕ → ℕ)
    → ((node : ℕ) → at_leaf node 0 ≡ unit) → ((child : ℕ) → seen child 0 ≡ 0)
    → (height node : ℕ) → value_of join at_leaf seen height node 0 ≡ unit
value_at_zero unit cap join le under laws at_leaf seen leaves starts zero node = leaves node
value_at_zero unit cap join le under laws at_leaf seen leaves starts (suc height) node =
    let l : value_of join at_leaf seen height (2 * node) (seen (2 * node) 0) ≡ unit =
    ap (λ (s : ℕ). value_of join at_leaf seen height (2 * node) s) (starts (2 * node))
    ∙ value_at_zero unit cap join le under laws at_leaf seen leaves starts height (2 * node) in
    let r : value_of join at_leaf seen height (2 * node + 1) (seen (2 * node + 1) 0) ≡ unit =
    ap (λ (s : ℕ). value_of join at_leaf seen height (2 * node + 1) s) (starts (2 * node + 1))
    ∙ value_at_zero unit cap join le under laws at_leaf seen leaves starts height
    (2 * node + 1) in
    let both : join (value_of join at_leaf seen height (2 * node) (seen (2 * node) 0))
    (value_of join at_leaf seen height (2 * node + 1) (seen (2 * node + 1) 0))
    ≡ join unit unit = λ i. join (l i) (r i) in
    both ∙ laws.unit_left 0 unit (omega arith) (laws.unit_under 0)
