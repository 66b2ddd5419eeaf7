-- Nodes above a leaf, and what a stamp covers.
use Rattle.std.proofs.Common.{◌≡◌, ℕ, zero, suc, ◌+◌, ◌-◌, ◌*◌, ◌/◌, ◌^◌, ◌<◌, ◌≤◌, refl, sym, ap, ◌∙◌, subst, arith, lit<}
use Rattle.std.proofs.Math.Nat.{two-pow-succ, pow-le-pow_right}
use Rattle.stamp_word.specs.Places.{leaf_of}
use Rattle.node_rule.specs.declared.view.Plan.{Plan}
use Rattle.node_rule.specs.Fronts.{Board, IsDeep, ancestor, cover}
use Rattle.node_rule.specs.StampPart.{IsGrown}

halved : (depth node : ℕ) → IsDeep (suc depth) node → IsDeep depth (node / 2)
halved depth node h = let twice : 2 ^ suc depth ≡ 2 ^ depth + 2 ^ depth = two-pow-succ depth in
    let low = h.low in let high = h.high in
    record { low = omega arith; high = omega arith }

pub ancestor-deep : (depth height leaf : ℕ) → IsDeep (depth + height) leaf
    → IsDeep depth (ancestor leaf height)
ancestor-deep depth zero leaf h = let same : depth + 0 ≡ depth = omega arith in
    subst (λ (n : ℕ). IsDeep n leaf) same h
ancestor-deep depth (suc height) leaf h = let same : depth + suc height ≡ suc depth + height =
    omega arith in
    halved depth (ancestor leaf height) (ancestor-deep (suc depth) height leaf
    (subst (λ (n : ℕ). IsDeep n leaf) same h))

pub leaf-deep : (levels session : ℕ) → session < 2 ^ levels → IsDeep levels (leaf_of levels session)
leaf-deep levels session h = record { low = omega arith; high = omega arith }

-- where a node above a leaf stands
pub record IsWithin (levels node : ℕ) : Type 0 where
  pub low : 1 ≤ node
  pub high : node < 2 * 2 ^ levels

pub deep-within : (depth levels node : ℕ) → depth ≤ levels → IsDeep depth node
    → IsWithin levels node
deep-within depth levels node le h = let less : 2 ^ depth ≤ 2 ^ levels =
    pow-le-pow_right (lit< tt) le in let some : 1 ≤ 2 ^ depth =
    pow-le-pow_right {n = 2} (lit< tt) {i = 0} (omega arith) in
    let low = h.low in let high = h.high in record { low = omega arith; high = omega arith }

pub ancestor-within : (levels height session : ℕ) → session < 2 ^ levels → height ≤ levels
    → IsWithin levels (ancestor (leaf_of levels session) height)
ancestor-within levels height session in_range le = let depth : ℕ = levels - height in
    let same : depth + height ≡ levels = omega arith in
    deep-within depth levels (ancestor (leaf_of levels session) height) (omega arith)
    (ancestor-deep depth height (leaf_of levels session)
    (subst (λ (n : ℕ). IsDeep n (leaf_of levels session)) (sym same)
    (leaf-deep levels session in_range)))

-- a node below the root
pub ancestor-child : (levels height session : ℕ) → session < 2 ^ levels → height < levels
    → 2 ≤ ancestor (leaf_of levels session) height
ancestor-child levels height session in_range lt = let up =
    ancestor-within levels (suc height) session in_range (omega arith) in let low = up.low in
    let node : ℕ = ancestor (leaf_of levels session) height in let low' : 1 ≤ node / 2 = low in
    omega arith

-- the root is that many levels above a leaf
pub ancestor-root : (levels session : ℕ) → session < 2 ^ levels
    → ancestor (leaf_of levels session) levels ≡ 1
ancestor-root levels session in_range = let d = ancestor-deep 0 levels (leaf_of levels session)
    (subst (λ (n : ℕ). IsDeep n (leaf_of levels session)) (omega arith)
    (leaf-deep levels session in_range)) in let low = d.low in let high = d.high in omega arith

module _ (plan : Plan) where
  -- A later state: no stamp fell, and what was read at the stamps that were reached is the same
  pub record IsLater (b c : Board) : Type 0 where
    pub stamps : (tree node : ℕ) → tree < plan.trees → 1 ≤ node → node < 2 * 2 ^ plan.levels
        → b.stamp tree node ≤ c.stamp tree node
    pub seen : (tree child stamp : ℕ) → tree < plan.trees → 2 ≤ child → child < 2 * 2 ^ plan.levels
        → stamp ≤ b.stamp tree (child / 2) → c.seen tree child stamp ≡ b.seen tree child stamp

  module _ (b : Board) (grown : IsGrown plan b) (tree session : ℕ) (tree_in : tree < plan.trees)
      (session_in : session < 2 ^ plan.levels) where
    abbrev leaf : ℕ
    leaf = leaf_of plan.levels session

    -- from the parent's stamp to the child's
    read_below : (height stamp : ℕ) → suc height ≤ plan.levels
        → stamp ≤ b.stamp tree (ancestor leaf (suc height))
        → b.seen tree (ancestor leaf height) stamp ≤ b.stamp tree (ancestor leaf height)
    read_below height stamp le reached = let node =
        ancestor-within plan.levels height session session_in (omega arith) in
        grown.below tree (ancestor leaf height) stamp tree_in
        (ancestor-child plan.levels height session session_in le) node.high reached

    -- a later stamp covers no less
    pub cover_rises : (height early late : ℕ) → height ≤ plan.levels → early ≤ late
        → late ≤ b.stamp tree (ancestor leaf height)
        → cover (b.seen tree) leaf height early ≤ cover (b.seen tree) leaf height late
    cover_rises zero early late le order reached = order
    cover_rises (suc height) early late le order reached = let node =
        ancestor-within plan.levels height session session_in (omega arith) in
        cover_rises height (b.seen tree (ancestor leaf height) early)
        (b.seen tree (ancestor leaf height) late) (omega arith)
        (grown.rises tree (ancestor leaf height) early late tree_in
        (ancestor-child plan.levels height session session_in le) node.high order reached)
        (read_below height late le reached)

    -- a stamp that was reached covers no more posts than there are
    pub cover_below : (height stamp : ℕ) → height ≤ plan.levels
        → stamp ≤ b.stamp tree (ancestor leaf height)
        → cover (b.seen tree) leaf height stamp ≤ b.posts session tree
    cover_below zero stamp le reached = let same : b.stamp tree leaf ≡ b.posts session tree =
        grown.leaves tree session tree_in session_in in omega arith
    cover_below (suc height) stamp le reached = cover_below height
        (b.seen tree (ancestor leaf height) stamp) (omega arith)
        (read_below height stamp le reached)

    -- what a stamp that was reached covers stays
    pub cover_stays : (c : Board) → IsLater b c → (height stamp : ℕ) → height ≤ plan.levels
        → stamp ≤ b.stamp tree (ancestor leaf height)
        → cover (c.seen tree) leaf height stamp ≡ cover (b.seen tree) leaf height stamp
    cover_stays c later zero stamp le reached = refl
    cover_stays c later (suc height) stamp le reached = let node =
        ancestor-within plan.levels height session session_in (omega arith) in
        ap (λ (s : ℕ). cover (c.seen tree) leaf height s)
        (later.seen tree (ancestor leaf height) stamp tree_in
        (ancestor-child plan.levels height session session_in le) node.high reached)
        ∙ cover_stays c later height (b.seen tree (ancestor leaf height) stamp) (omega arith)
        (read_below height stamp le reached)
