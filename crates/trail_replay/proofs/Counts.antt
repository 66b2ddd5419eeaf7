-- How many lines a history has.
use Rattle.std.proofs.Common.{◌≡◌, ℕ, zero, suc, ◌+◌, ◌*◌, ◌≤◌, List, [], ◌∷◌, length}
use Rattle.std.proofs.Common.{take, drop, refl, ap, sym, ◌∙◌, subst, arith}
use Rattle.std.proofs.Common.{length-append, length-take, length-drop}
use Rattle.std.specs.Prelude.{Some, slice_get}
use Rattle.trail_replay.specs.Blocks.{lines_between, block_from, lines_to}
use Rattle.risk_board.proofs.Legal.{length-own_lines}
use Rattle.trail_replay.proofs.BlockLaws.{AreFronts, front_within}

-- how many posts a front covers, of the sessions from this one on
abbrev covered : (ℕ → ℕ) → ℕ → List (List ℕ) → ℕ
covered front first [] = 0
covered front first (values ∷ posts) = front first + covered front (first + 1) posts

length-between : (session before upto : ℕ) (values : List ℕ) → before ≤ upto
    → upto ≤ length values → length (lines_between session before upto values) + before ≡ upto
length-between session before upto values le within =
    let own = length-own_lines session (before + 1) (drop before (take upto values)) in
    let rest = length-drop before (take upto values) in
    let first = length-take upto values in
    omega arith

length-block : (before upto : ℕ → ℕ) (first : ℕ) (posts : List (List ℕ))
    → ((away : ℕ) (values : List ℕ) → slice_get posts away ≡ Some values
    → (before (first + away) ≤ upto (first + away)) × (upto (first + away) ≤ length values))
    → length (block_from before upto first posts) + covered before first posts
    ≡ covered upto first posts
length-block before upto first [] each = omega arith
length-block before upto first (values ∷ posts) each =
    let own = lines_between first (before first) (upto first) values in
    let rest = block_from before upto (first + 1) posts in
    let same : first + 0 ≡ first = omega arith in
    let here = subst (λ n. (before n ≤ upto n) × (upto n ≤ length values)) same
    (each 0 values refl) in
    let mine = length-between first (before first) (upto first) values here.0 here.1 in
    let others = length-block before upto (first + 1) posts (λ away v at.
    let next : first + suc away ≡ (first + 1) + away = omega arith in
    subst (λ n. (before n ≤ upto n) × (upto n ≤ length v)) next (each (suc away) v at)) in
    let both = length-append own rest in
    omega arith

covered-zero : (front : ℕ → ℕ) (first : ℕ) (posts : List (List ℕ))
    → ((away : ℕ) (values : List ℕ) → slice_get posts away ≡ Some values
    → front (first + away) ≡ 0)
    → covered front first posts ≡ 0
covered-zero front first [] each = refl
covered-zero front first (values ∷ posts) each =
    let same : first + 0 ≡ first = omega arith in
    let here = subst (λ n. front n ≡ 0) same (each 0 values refl) in
    let rest = covered-zero front (first + 1) posts (λ away v at.
    let next : first + suc away ≡ (first + 1) + away = omega arith in
    subst (λ n. front n ≡ 0) next (each (suc away) v at)) in
    omega arith

covered-most : (most : ℕ) (front : ℕ → ℕ) (first : ℕ) (posts : List (List ℕ))
    → ((away : ℕ) (values : List ℕ) → slice_get posts away ≡ Some values
    → front (first + away) ≤ most)
    → covered front first posts ≤ most * length posts
covered-most most front first [] each = omega arith
covered-most most front first (values ∷ posts) each =
    let same : first + 0 ≡ first = omega arith in
    let here = subst (λ n. front n ≤ most) same (each 0 values refl) in
    let rest = covered-most most front (first + 1) posts (λ away v at.
    let next : first + suc away ≡ (first + 1) + away = omega arith in
    subst (λ n. front n ≤ most) next (each (suc away) v at)) in
    omega arith

module _ (front : ℕ → ℕ → ℕ) (posts : List (List ℕ)) (last : ℕ)
    (are : AreFronts front posts last) where
  length-lines_to : (stamp : ℕ) → stamp ≤ last
      → length (lines_to front posts stamp) ≡ covered (front stamp) 0 posts
  length-lines_to zero le =
      let none = covered-zero (front 0) 0 posts (λ away values at.
      let same : 0 + away ≡ away = omega arith in
      ap (front 0) same ∙ are.starts away values at) in
      omega arith
  length-lines_to (suc stamp) le =
      let earlier = length-lines_to stamp (omega arith) in
      let block = block_from (front stamp) (front (suc stamp)) 0 posts in
      let added = length-block (front stamp) (front (suc stamp)) 0 posts (λ away values at.
      let same : away ≡ 0 + away = omega arith in
      subst (λ n. (front stamp n ≤ front (suc stamp) n) × (front (suc stamp) n ≤ length values))
      same (
        are.rises stamp (suc stamp) away values at (omega arith) le,
        front_within front posts last are away values at (suc stamp) le,
      )) in
      let both = length-append (lines_to front posts stamp) block in
      omega arith

  -- no more lines than all posts that a quota lets
  pub lines_few : (quota stamp : ℕ) → stamp ≤ last
      → ((session : ℕ) (values : List ℕ) → slice_get posts session ≡ Some values
      → length values ≤ quota)
      → length (lines_to front posts stamp) ≤ quota * length posts
  lines_few quota stamp le each =
      let long = length-lines_to stamp le in
      let most = covered-most quota (front stamp) 0 posts (λ away values at.
      let same : 0 + away ≡ away = omega arith in
      let within = front_within front posts last are away values at stamp le in
      let few = each away values at in
      subst (λ n. front stamp n ≤ quota) (sym same) (omega arith)) in
      omega arith
