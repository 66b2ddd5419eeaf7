-- The way down gives the block: session by session, the posts between two fronts.
use Rattle.std.proofs.Common.{◌≡◌, ℕ, zero, suc, ◌+◌, ◌*◌, ◌^◌, ◌<◌, ◌≤◌, List, [], ◌∷◌}
use Rattle.std.proofs.Common.{◌++◌, length, take, drop, refl, ap, sym, ◌∙◌, subst, arith, lit<}
use Rattle.std.proofs.Common.{append_assoc, length-take, length-drop, drop_of_length-le, ⊎_elim}
use Rattle.std.specs.Prelude.{slice_index_or, Result, Ok, Err, OnOk}
use Rattle.std.proofs.Math.Nat.{two-pow-succ, pow-le-pow_right, mul-le-mul_left}
use Rattle.std.proofs.lemmas.Bool.{cases_lt}
use Rattle.std.proofs.lemmas.List.{append-nil as append_nil, take_all, take-take, drop-take}
use Rattle.std.proofs.lemmas.List.{take-append-drop}
use Rattle.stamp_word.specs.Places.{leaf_of}
use Rattle.risk_board.specs.declared.hand.Line.{Line}
use Rattle.risk_board.specs.History.{own_lines}
use Rattle.node_rule.specs.Fronts.{cover, ancestor}
use Rattle.trail_replay.specs.Blocks.{lines_between, block_from}
use Rattle.trail_replay.specs.Descent.{grown_lines, IsUnder}
use Rattle.trail_replay.proofs.Folds.{ancestor-below}

none_between : (session stamp : ℕ) (values : List ℕ)
    → lines_between session stamp stamp values ≡ []
none_between session stamp values =
    ap (own_lines session (stamp + 1))
    (drop_of_length-le (take stamp values) {i = stamp} (omega (arith, length-take stamp values)))

-- where no stamp grew there is no line
pub grown-none : (seen : ℕ → ℕ → ℕ) (posts : List (List ℕ)) (height node first stamp : ℕ)
    → grown_lines seen posts height node first stamp stamp ≡ []
grown-none seen posts zero node first stamp =
    none_between first stamp (slice_index_or posts first [])
grown-none seen posts (suc height) node first stamp =
    let right = grown_lines seen posts height (2 * node + 1) (first + 2 ^ height)
    (seen (2 * node + 1) stamp) (seen (2 * node + 1) stamp) in
    ap (λ lines. lines ++ right) (grown-none seen posts height (2 * node) first (seen (2 * node) stamp))
    ∙ grown-none seen posts height (2 * node + 1) (first + 2 ^ height) (seen (2 * node + 1) stamp)

-- both children's lines are the node's
pub grown_both : {U W : Type 0} (r : Result U W) (old middle new : List Line) (seen : ℕ → ℕ → ℕ)
    (posts : List (List ℕ)) (height next node first before upto : ℕ)
    (early_left late_left early_right late_right : ℕ) → height ≡ suc next
    → early_left ≡ seen (2 * node) before → late_left ≡ seen (2 * node) upto
    → early_right ≡ seen (2 * node + 1) before → late_right ≡ seen (2 * node + 1) upto
    → middle ≡ old ++ grown_lines seen posts next (2 * node) first early_left late_left
    → OnOk r (new ≡ middle
    ++ grown_lines seen posts next (2 * node + 1) (first + 2 ^ next) early_right late_right)
    → OnOk r (new ≡ old ++ grown_lines seen posts height node first before upto)
grown_both (Err why) old middle new seen posts height next node first before upto el ll er lr same a b
    c d left right = tt
grown_both (Ok x) old middle new seen posts height next node first before upto el ll er lr same a b c d
    left right =
    let l = grown_lines seen posts next (2 * node) first in
    let r = grown_lines seen posts next (2 * node + 1) (first + 2 ^ next) in
    right
    ∙ ((λ k. left k ++ r (c k) (d k))
    ∙ ((λ k. (old ++ l (a k) (b k)) ++ r (seen (2 * node + 1) before) (seen (2 * node + 1) upto))
    ∙ (append_assoc old (l (seen (2 * node) before) (seen (2 * node) upto))
    (r (seen (2 * node + 1) before) (seen (2 * node + 1) upto))
    ∙ ap (λ h. old ++ grown_lines seen posts h node first before upto) (sym same))))

-- a session without posts has no line
pub between-nil : (session before upto : ℕ) → lines_between session before upto [] ≡ []
between-nil session before upto =
    ap (own_lines session (before + 1))
    (drop_of_length-le (take upto []) {i = before} (omega (arith, length-take {A = ℕ} upto [])))

one_block : (session away before upto : ℕ) (posts : List (List ℕ))
    → lines_between session before upto (slice_index_or posts away [])
    ≡ block_from (λ s. before) (λ s. upto) session (take 1 (drop away posts))
one_block session zero before upto [] = between-nil session before upto
one_block session zero before upto (values ∷ posts) =
    sym (append_nil (lines_between session before upto values))
one_block session (suc away) before upto [] = between-nil session before upto
one_block session (suc away) before upto (values ∷ posts) =
    one_block session away before upto posts

block-append : (before upto : ℕ → ℕ) (first : ℕ) (xs ys : List (List ℕ))
    → block_from before upto first (xs ++ ys)
    ≡ block_from before upto first xs ++ block_from before upto (first + length xs) ys
block-append before upto first [] ys =
    ap (λ n. block_from before upto n ys) (omega arith)
block-append before upto first (values ∷ xs) ys =
    let own = lines_between first (before first) (upto first) values in
    let rest = block_from before upto (first + 1) xs in
    let next : (first + 1) + length xs ≡ first + suc (length xs) = omega arith in
    ap (λ lines. own ++ lines) (block-append before upto (first + 1) xs ys
    ∙ ap (λ n. rest ++ block_from before upto n ys) next)
    ∙ sym (append_assoc own rest (block_from before upto (first + suc (length xs)) ys))

block-same : (before upto early late : ℕ → ℕ) (first : ℕ) (posts : List (List ℕ))
    → ((away : ℕ) → away < length posts → (before (first + away) ≡ early (first + away))
    × (upto (first + away) ≡ late (first + away)))
    → block_from before upto first posts ≡ block_from early late first posts
block-same before upto early late first [] each = refl
block-same before upto early late first (values ∷ posts) each =
    let here : first + 0 ≡ first = omega arith in
    let both = subst (λ n. (before n ≡ early n) × (upto n ≡ late n)) here (each 0 (omega arith)) in
    let rest = block-same before upto early late (first + 1) posts (λ away less.
    let next : first + suc away ≡ (first + 1) + away = omega arith in
    subst (λ n. (before n ≡ early n) × (upto n ≡ late n)) next (each (suc away) (omega arith))) in
    λ k. lines_between first (both.0 k) (both.1 k) values ++ rest k

take-twice : {A : Type 0} (p : ℕ) (xs : List A) → take (p + p) xs ≡ take p xs ++ take p (drop p xs)
take-twice p xs =
    let first = take-take p (p + p) xs (omega arith) in
    let rest = drop-take p p xs in
    sym (take-append-drop p (take (p + p) xs)) ∙ (λ k. first k ++ rest k)

drop-twice : {A : Type 0} (a b : ℕ) (xs : List A) → drop b (drop a xs) ≡ drop (a + b) xs
drop-twice zero b xs = ap (λ n. drop n xs) (omega arith)
drop-twice {A} (suc a) b [] =
    drop_of_length-le {A = A} [] {i = b} (omega arith)
    ∙ sym (drop_of_length-le {A = A} [] {i = suc a + b} (omega arith))
drop-twice (suc a) b (x ∷ xs) =
    let next : suc (a + b) ≡ suc a + b = omega arith in
    drop-twice a b xs ∙ ap (λ n. drop n (x ∷ xs)) next

module _ (levels : ℕ) (seen : ℕ → ℕ → ℕ) where
  -- what a stamp of a node so high above a session's leaf covers of its posts
  abbrev covers : ℕ → ℕ → ℕ → ℕ
  covers height stamp session = cover seen (leaf_of levels session) height stamp

  -- a child on the way covers of the leaves below it what its parent covers of them
  child-covers : (height child first stamp away : ℕ) → leaf_of levels first ≡ child * 2 ^ height
      → away < 2 ^ height
      → covers (suc height) stamp (first + away) ≡ covers height (seen child stamp) (first + away)
  child-covers height child first stamp away is less =
      let leaf = leaf_of levels (first + away) in
      let up : ancestor leaf height ≡ child =
      ancestor-below height child away leaf (omega (arith, is)) less in
      ap (λ n. cover seen leaf height (seen n stamp)) up

  half : (height child first before upto : ℕ) (posts : List (List ℕ))
      → leaf_of levels first ≡ child * 2 ^ height → length posts ≤ 2 ^ height
      → block_from (covers height (seen child before)) (covers height (seen child upto)) first posts
      ≡ block_from (covers (suc height) before) (covers (suc height) upto) first posts
  half height child first before upto posts is few =
      block-same _ _ _ _ first posts (λ away less. (
        sym (child-covers height child first before away is (omega (arith, less, few))),
        sym (child-covers height child first upto away is (omega (arith, less, few))),
      ))

  -- the lines below a node are the block of the sessions below it
  pub grown-block : (posts : List (List ℕ)) (height node first before upto : ℕ)
      → leaf_of levels first ≡ node * 2 ^ height
      → grown_lines seen posts height node first before upto
      ≡ block_from (covers height before) (covers height upto) first
      (take (2 ^ height) (drop first posts))
  grown-block posts zero node first before upto is = one_block first first before upto posts
  grown-block posts (suc height) node first before upto is =
      let p : ℕ = 2 ^ height in
      let twice : 2 ^ suc height ≡ p + p = two-pow-succ height in
      let whole : leaf_of levels first ≡ node * (p + p) = is ∙ ap (λ n. node * n) twice in
      let left_is : leaf_of levels first ≡ (2 * node) * p = whole ∙ omega arith in
      let right_is : leaf_of levels (first + p) ≡ (2 * node + 1) * p = omega (arith, whole) in
      let left = take p (drop first posts) in
      let right = take p (drop (first + p) posts) in
      let b = covers (suc height) before in
      let u = covers (suc height) upto in
      let few : length left ≤ p = omega (arith, length-take p (drop first posts)) in
      let rest_few : length right ≤ p = omega (arith, length-take p (drop (first + p) posts)) in
      let first_half = grown-block posts height (2 * node) first (seen (2 * node) before)
      (seen (2 * node) upto) left_is
      ∙ half height (2 * node) first before upto left left_is few in
      let second_half = grown-block posts height (2 * node + 1) (first + p)
      (seen (2 * node + 1) before) (seen (2 * node + 1) upto) right_is
      ∙ half height (2 * node + 1) (first + p) before upto right right_is rest_few in
      let parts : take (2 ^ suc height) (drop first posts) ≡ left ++ right =
      ap (λ n. take n (drop first posts)) twice
      ∙ (take-twice p (drop first posts)
      ∙ ap (λ xs. left ++ take p xs) (drop-twice first p posts)) in
      let at_right : block_from b u (first + length left) right ≡ block_from b u (first + p) right =
      ⊎_elim
      (λ (short : length left < p).
      let none : right ≡ [] =
      ap (take p) (drop_of_length-le posts {i = first + p}
      (omega (arith, short, length-take p (drop first posts), length-drop first posts)))
      ∙ take_all p [] (omega arith) in
      ap (block_from b u (first + length left)) none
      ∙ sym (ap (block_from b u (first + p)) none))
      (λ (long : p ≤ length left).
      ap (λ n. block_from b u (first + n) right) (omega (arith, long, few)))
      (cases_lt (length left) p) in
      (λ k. first_half k ++ second_half k)
      ∙ (ap (λ lines. block_from b u first left ++ lines) (sym at_right)
      ∙ (sym (block-append b u first left right)
      ∙ ap (block_from b u first) (sym parts)))

-- from the root they are the block of all sessions
pub root-block : (levels : ℕ) (seen : ℕ → ℕ → ℕ) (posts : List (List ℕ)) (before upto : ℕ)
    → length posts ≤ 2 ^ levels
    → grown_lines seen posts levels 1 0 before upto
    ≡ block_from (λ session. cover seen (leaf_of levels session) levels before)
    (λ session. cover seen (leaf_of levels session) levels upto) 0 posts
root-block levels seen posts before upto few =
    grown-block levels seen posts levels 1 0 before upto (omega arith)
    ∙ ap (block_from (λ session. cover seen (leaf_of levels session) levels before)
    (λ session. cover seen (leaf_of levels session) levels upto) 0)
    (take_all (2 ^ levels) posts few)

-- the root of a tree is so high above the first leaf
pub root_under : (levels : ℕ) → IsUnder levels 1 levels 0
root_under levels = record { high = omega arith; leaf = omega arith; room = omega arith }

module _ (levels node height first next : ℕ) (same : height ≡ suc next)
    (under : IsUnder levels node height first) where
  abbrev p : ℕ
  p = 2 ^ next

  pub doubled : 2 ^ height ≡ p + p
  doubled = ap (λ n. 2 ^ n) same ∙ two-pow-succ next

  leaf_is : leaf_of levels first ≡ node * (p + p)
  leaf_is = under.leaf ∙ ap (λ n. node * n) doubled

  pub left_under : IsUnder levels (2 * node) next first
  left_under = record {
    high = omega (arith, same, under.high);
    leaf = leaf_is ∙ omega arith;
    room = omega (arith, doubled, under.room);
  }

  pub right_under : IsUnder levels (2 * node + 1) next (first + 2 ^ next)
  right_under = record {
    high = omega (arith, same, under.high);
    leaf = omega (arith, leaf_is);
    room = omega (arith, doubled, under.room);
  }

  some : 1 ≤ 2 ^ levels
  some = pow-le-pow_right {n = 2} (lit< tt) {i = 0} (omega arith)

  pub inner_some : 1 ≤ node
  inner_some = is_some node leaf_is
    where
      is_some : (n : ℕ) → leaf_of levels first ≡ n * (p + p) → 1 ≤ n
      is_some zero is = absurd (omega (arith, is, some))
      is_some (suc n) is = omega arith

  pub inner_below : node < 2 ^ levels
  inner_below =
      let one : 1 ≤ p = pow-le-pow_right {n = 2} (lit< tt) {i = 0} (omega arith) in
      let least : node * 2 ≤ node * (p + p) = mul-le-mul_left node (omega (arith, one)) in
      omega (arith, least, leaf_is, doubled, under.room, one)
