-- The value of a node is the join of the values of the leaves below it, from the left.
use Rattle.std.proofs.Common.{◌≡◌, ℕ, zero, suc, ◌+◌, ◌-◌, ◌*◌, ◌/◌, ◌^◌, ◌<◌, ◌≤◌, Bool, List, []}
use Rattle.std.proofs.Common.{◌∷◌, ◌++◌}
use Rattle.std.proofs.Common.{length, refl, ap, sym, ◌∙◌, subst, arith, length-append, lit<, ⊎_elim}
use Rattle.std.specs.Prelude.{slice_index, fold}
use Rattle.std.specs.List.{AllByRecursion}
use Rattle.std.proofs.Math.Nat.{two-pow-succ, pow-le-pow_right}
use Rattle.std.proofs.lemmas.Bool.{cases_lt}
use Rattle.std.proofs.lemmas.List.{get_or-append_right}
use Rattle.fold_law.specs.declared.limits.TheConstants.{SESSIONS}
use Rattle.fold_law.specs.Laws.{FoldLaws}
use Rattle.fold_law.specs.Whole.{whole_of}
use Rattle.stamp_word.specs.declared.limits.TheConstants.{LEVELS}
use Rattle.node_rule.specs.Fronts.{value_of, cover, ancestor}
use Rattle.trail_replay.proofs.BlockLaws.{all-append}

-- the values of the leaves below a node at a stamp, from the left
abbrev pub leaf_values : (ℕ → ℕ → ℕ) → (ℕ → ℕ → ℕ) → ℕ → ℕ → ℕ → List ℕ
leaf_values at_leaf seen zero node stamp = at_leaf node stamp ∷ []
leaf_values at_leaf seen (suc height) node stamp =
    leaf_values at_leaf seen height (2 * node) (seen (2 * node) stamp)
    ++ leaf_values at_leaf seen height (2 * node + 1) (seen (2 * node + 1) stamp)

pub length-leaf_values : (at_leaf seen : ℕ → ℕ → ℕ) (height node stamp : ℕ)
    → length (leaf_values at_leaf seen height node stamp) ≡ 2 ^ height
length-leaf_values at_leaf seen zero node stamp = refl
length-leaf_values at_leaf seen (suc height) node stamp =
    let ls = seen (2 * node) stamp in
    let rs = seen (2 * node + 1) stamp in
    let left = leaf_values at_leaf seen height (2 * node) ls in
    let right = leaf_values at_leaf seen height (2 * node + 1) rs in
    let l = length-leaf_values at_leaf seen height (2 * node) ls in
    let r = length-leaf_values at_leaf seen height (2 * node + 1) rs in
    let twice : 2 ^ suc height ≡ 2 ^ height + 2 ^ height = two-pow-succ height in
    omega (arith, length-append left right)

module _ (unit cap : ℕ) (join : ℕ → ℕ → ℕ) (le : ℕ → ℕ → Bool) (under : ℕ → ℕ → Type 0)
    (laws : FoldLaws unit cap join le under) where
  fold_under : (m a : ℕ) (xs : List ℕ) → m + length xs ≤ SESSIONS → under m a
      → AllByRecursion (under 1) xs → under (m + length xs) (fold join a xs)
  fold_under m a [] few first rest =
      let same : m ≡ m + 0 = omega arith in subst (λ n. under n a) same first
  fold_under m a (x ∷ xs) few first rest =
      let same : (m + 1) + length xs ≡ m + suc (length xs) = omega arith in
      subst (λ n. under n (fold join (join a x) xs)) same
      (fold_under (m + 1) (join a x) xs (omega arith)
      (laws.join_under m 1 a x (omega arith) first rest.0) rest.1)

  pub whole_under : (xs : List ℕ) → length xs ≤ SESSIONS → AllByRecursion (under 1) xs
      → under (length xs) (whole_of join unit xs)
  whole_under xs few rest =
      let same : 0 + length xs ≡ length xs = omega arith in
      subst (λ n. under n (whole_of join unit xs)) same
      (fold_under 0 unit xs (omega arith) (laws.unit_under 0) rest)

  -- a fold from a value is the join of the value and the whole
  fold-from : (m a : ℕ) (xs : List ℕ) → m + length xs ≤ SESSIONS → under m a
      → AllByRecursion (under 1) xs → fold join a xs ≡ join a (whole_of join unit xs)
  fold-from m a [] few first rest = sym (laws.unit_right m a (omega arith) first)
  fold-from m a (x ∷ xs) few first rest =
      let one : under 1 x = rest.0 in
      let w : ℕ = whole_of join unit xs in
      let starts : join unit x ≡ x = laws.unit_left 1 x (omega arith) one in
      let here : fold join (join a x) xs ≡ join (join a x) w =
      fold-from (m + 1) (join a x) xs (omega arith)
      (laws.join_under m 1 a x (omega arith) first one) rest.1 in
      let there : fold join x xs ≡ join x w =
      fold-from 1 x xs (omega arith) one rest.1 in
      here
      ∙ (laws.regroups m 1 (length xs) a x w (omega arith) first one
      (whole_under xs (omega arith) rest.1)
      ∙ ap (λ n. join a n) (sym there ∙ ap (λ n. fold join n xs) (sym starts)))

  pub fold-append : (a : ℕ) (xs ys : List ℕ)
      → fold join a (xs ++ ys) ≡ fold join (fold join a xs) ys
  fold-append a [] ys = refl
  fold-append a (x ∷ xs) ys = fold-append (join a x) xs ys

  whole-append : (xs ys : List ℕ) → length xs + length ys ≤ SESSIONS
      → AllByRecursion (under 1) xs → AllByRecursion (under 1) ys
      → whole_of join unit (xs ++ ys) ≡ join (whole_of join unit xs) (whole_of join unit ys)
  whole-append xs ys few left right =
      fold-append unit xs ys
      ∙ fold-from (length xs) (whole_of join unit xs) ys few
      (whole_under xs (omega arith) left) right

  module _ (at_leaf : ℕ → ℕ → ℕ) (seen : ℕ → ℕ → ℕ)
      (leaves : (node stamp : ℕ) → under 1 (at_leaf node stamp)) where
    abbrev below : ℕ → ℕ → ℕ → List ℕ
    below height node stamp = leaf_values at_leaf seen height node stamp

    all_leaf_values : (height node stamp : ℕ)
        → AllByRecursion (under 1) (below height node stamp)
    all_leaf_values zero node stamp = (leaves node stamp, tt)
    all_leaf_values (suc height) node stamp =
        all-append (under 1) _ _ (all_leaf_values height (2 * node) (seen (2 * node) stamp))
        (all_leaf_values height (2 * node + 1) (seen (2 * node + 1) stamp))

    -- their whole is the node's value
    pub whole-leaf_values : (height node stamp : ℕ) → height ≤ LEVELS
        → whole_of join unit (below height node stamp)
        ≡ value_of join at_leaf seen height node stamp
    whole-leaf_values zero node stamp few =
        laws.unit_left 1 (at_leaf node stamp) (omega arith) (leaves node stamp)
    whole-leaf_values (suc height) node stamp few =
        let ls = seen (2 * node) stamp in
        let rs = seen (2 * node + 1) stamp in
        let left = below height (2 * node) ls in
        let right = below height (2 * node + 1) rs in
        let twice : 2 ^ suc height ≡ 2 ^ height + 2 ^ height = two-pow-succ height in
        let most : 2 ^ suc height ≤ 2 ^ LEVELS = pow-le-pow_right (lit< tt) few in
        let long_left = length-leaf_values at_leaf seen height (2 * node) ls in
        let long_right = length-leaf_values at_leaf seen height (2 * node + 1) rs in
        whole-append left right (omega arith) (all_leaf_values height (2 * node) ls)
        (all_leaf_values height (2 * node + 1) rs)
        ∙ (ap (λ n. join n (whole_of join unit right))
        (whole-leaf_values height (2 * node) ls (omega arith))
        ∙ ap (λ n. join (value_of join at_leaf seen height (2 * node) ls) n)
        (whole-leaf_values height (2 * node + 1) rs (omega arith)))

-- a leaf below a node has the node as its ancestor
pub ancestor-below : (height node away leaf : ℕ) → leaf ≡ node * 2 ^ height + away
    → away < 2 ^ height → ancestor leaf height ≡ node
ancestor-below zero node away leaf is less = omega arith
ancestor-below (suc height) node away leaf is less =
    let twice : 2 ^ suc height ≡ 2 ^ height + 2 ^ height = two-pow-succ height in
    let p : ℕ = 2 ^ height in
    let whole : leaf ≡ node * (p + p) + away = is ∙ ap (λ n. node * n + away) twice in
    ⊎_elim
    (λ (lt : away < p).
    let same : leaf ≡ (2 * node) * p + away = whole ∙ omega arith in
    ap (λ n. n / 2) (ancestor-below height (2 * node) away leaf same lt) ∙ omega arith)
    (λ (ge : p ≤ away).
    let same : leaf ≡ (2 * node + 1) * p + (away - p) = whole ∙ omega arith in
    ap (λ n. n / 2) (ancestor-below height (2 * node + 1) (away - p) leaf same (omega arith))
    ∙ omega arith)
    (cases_lt away p)

pub get-first : (xs ys : List ℕ) (i : ℕ) → i < length xs
    → slice_index (xs ++ ys) i ≡ slice_index xs i
get-first [] ys i less = absurd (omega arith)
get-first (x ∷ xs) ys zero less = refl
get-first (x ∷ xs) ys (suc i) less = get-first xs ys i (omega arith)

module _ (at_leaf : ℕ → ℕ → ℕ) (seen : ℕ → ℕ → ℕ) where
  -- the values of the leaves below a node are those at the stamps that it covers of them
  pub get-leaf_values : (height node away leaf stamp : ℕ) → leaf ≡ node * 2 ^ height + away
      → away < 2 ^ height
      → slice_index (leaf_values at_leaf seen height node stamp) away
      ≡ at_leaf leaf (cover seen leaf height stamp)
  get-leaf_values zero node zero leaf stamp is less =
      let same : node ≡ leaf = omega arith in ap (λ n. at_leaf n stamp) same
  get-leaf_values zero node (suc away) leaf stamp is less = absurd (omega arith)
  get-leaf_values (suc height) node away leaf stamp is less =
      let twice : 2 ^ suc height ≡ 2 ^ height + 2 ^ height = two-pow-succ height in
      let p : ℕ = 2 ^ height in
      let whole : leaf ≡ node * (p + p) + away = is ∙ ap (λ n. node * n + away) twice in
      let left = leaf_values at_leaf seen height (2 * node) (seen (2 * node) stamp) in
      let right = leaf_values at_leaf seen height (2 * node + 1) (seen (2 * node + 1) stamp) in
      let long : length left ≡ p =
      length-leaf_values at_leaf seen height (2 * node) (seen (2 * node) stamp) in
      ⊎_elim
      (λ (lt : away < p).
      let same : leaf ≡ (2 * node) * p + away = whole ∙ omega arith in
      let up : ancestor leaf height ≡ 2 * node =
      ancestor-below height (2 * node) away leaf same lt in
      get-first left right away (omega arith)
      ∙ (get-leaf_values height (2 * node) away leaf (seen (2 * node) stamp) same lt
      ∙ ap (λ n. at_leaf leaf (cover seen leaf height (seen n stamp))) (sym up)))
      (λ (ge : p ≤ away).
      let same : leaf ≡ (2 * node + 1) * p + (away - p) = whole ∙ omega arith in
      let lt : away - p < p = omega arith in
      let up : ancestor leaf height ≡ 2 * node + 1 =
      ancestor-below height (2 * node + 1) (away - p) leaf same lt in
      get_or-append_right left right p away 0 long ge
      ∙ (get-leaf_values height (2 * node + 1) (away - p) leaf (seen (2 * node + 1) stamp) same lt
      ∙ ap (λ n. at_leaf leaf (cover seen leaf height (seen n stamp))) (sym up)))
      (cases_lt away p)
