-- Blocks of fronts that never fall: each post once, in its session's order.
use Rattle.std.proofs.Common.{◌≡◌, ℕ, zero, suc, ◌+◌, ◌<◌, ◌≤◌, List, [], ◌∷◌, ◌++◌, length}
use Rattle.std.proofs.Common.{◌-◌, take, append_assoc, refl, ap, sym, ◌∙◌, subst, arith}
use Rattle.std.specs.Prelude.{Some, slice_get}
use Rattle.std.specs.List.{AllByRecursion}
use Rattle.std.proofs.lemmas.List.{append-nil as append_nil, take_all, take_at}
use Rattle.std.proofs.Common.{length-append, length-take}
use Rattle.risk_board.specs.declared.hand.Line.{Line}
use Rattle.risk_board.specs.History.{own_lines, lines_of}
use Rattle.trail_replay.specs.Blocks.{lines_between, block_from, lines_to, place_at}
use Rattle.trail_replay.proofs.OwnLines.{lines_of-append, lines_of-own, lines_of-other}
use Rattle.trail_replay.proofs.OwnLines.{own_lines-between}
use Rattle.risk_board.proofs.Legal.{length-own_lines}

-- a block has no line of a session before its first
lines_of-earlier : (before upto : ℕ → ℕ) (session first : ℕ) (posts : List (List ℕ))
    → session < first → lines_of session (block_from before upto first posts) ≡ []
lines_of-earlier before upto session first [] less = refl
lines_of-earlier before upto session first (values ∷ posts) less =
    lines_of-append session (lines_between first (before first) (upto first) values)
    (block_from before upto (first + 1) posts)
    ∙ ap (λ s. s ++ lines_of session (block_from before upto (first + 1) posts))
    (lines_of-other session first _ _ (λ same. absurd (omega (arith, same))))
    ∙ lines_of-earlier before upto session (first + 1) posts (omega arith)

-- of a session it has exactly the posts between the two fronts
lines_of-block : (before upto : ℕ → ℕ) (first away : ℕ) (posts : List (List ℕ)) (values : List ℕ)
    → slice_get posts away ≡ Some values
    → lines_of (first + away) (block_from before upto first posts)
    ≡ lines_between (first + away) (before (first + away)) (upto (first + away)) values
lines_of-block before upto first away [] values at = absurd (cc)
lines_of-block before upto first zero (v ∷ posts) values at =
    let same : v ≡ values = cc in
    let here : first + 0 ≡ first = omega arith in
    let own = lines_between first (before first) (upto first) v in
    let at_first : lines_of first (block_from before upto first (v ∷ posts)) ≡ own =
    lines_of-append first own (block_from before upto (first + 1) posts)
    ∙ ap (λ s. lines_of first own ++ s)
    (lines_of-earlier before upto first (first + 1) posts (omega arith))
    ∙ append_nil (lines_of first own)
    ∙ lines_of-own first _ _ in
    subst (λ n. lines_of n (block_from before upto first (v ∷ posts))
    ≡ lines_between n (before n) (upto n) values) (sym here)
    (subst (λ x. lines_of first (block_from before upto first (v ∷ posts))
    ≡ lines_between first (before first) (upto first) x) same at_first)
lines_of-block before upto first (suc away) (v ∷ posts) values at =
    let next : (first + 1) + away ≡ first + suc away = omega arith in
    let own = lines_between first (before first) (upto first) v in
    let rest = block_from before upto (first + 1) posts in
    lines_of-append (first + suc away) own rest
    ∙ ap (λ s. s ++ lines_of (first + suc away) rest)
    (lines_of-other (first + suc away) first _ _ (λ same. absurd (omega (arith, same))))
    ∙ subst (λ n. lines_of n rest ≡ lines_between n (before n) (upto n) values) next
    (lines_of-block before upto (first + 1) away posts values at)

-- What fronts keep up to a last stamp: they begin with nothing, never fall, and end with all posts
pub record AreFronts (front : ℕ → ℕ → ℕ) (posts : List (List ℕ)) (last : ℕ) : Type 0 where
  pub starts : (session : ℕ) (values : List ℕ) → slice_get posts session ≡ Some values
      → front 0 session ≡ 0
  pub rises : (early late session : ℕ) (values : List ℕ) → slice_get posts session ≡ Some values
      → early ≤ late → late ≤ last → front early session ≤ front late session
  pub ends : (session : ℕ) (values : List ℕ) → slice_get posts session ≡ Some values
      → front last session ≡ length values

module _ (front : ℕ → ℕ → ℕ) (posts : List (List ℕ)) (last : ℕ) (are : AreFronts front posts last)
    (session : ℕ) (values : List ℕ) (at : slice_get posts session ≡ Some values) where
  pub front_within : (stamp : ℕ) → stamp ≤ last → front stamp session ≤ length values
  front_within stamp le =
      let rises = are.rises stamp last session values at le (omega arith) in
      let ends = are.ends session values at in
      omega arith

  -- the lines of a session up to a stamp are its posts that the front covers
  pub lines_of-to : (stamp : ℕ) → stamp ≤ last
      → lines_of session (lines_to front posts stamp)
      ≡ own_lines session 1 (take (front stamp session) values)
  lines_of-to zero le =
      ap (λ n. own_lines session 1 (take n values)) (sym (are.starts session values at))
  lines_of-to (suc stamp) le =
      let earlier = lines_to front posts stamp in
      let block = block_from (front stamp) (front (suc stamp)) 0 posts in
      let here : 0 + session ≡ session = omega arith in
      let added : lines_of session block
      ≡ lines_between session (front stamp session) (front (suc stamp) session) values =
      subst (λ n. lines_of n block ≡ lines_between n (front stamp n) (front (suc stamp) n) values)
      here (lines_of-block (front stamp) (front (suc stamp)) 0 session posts values at) in
      lines_of-append session earlier block
      ∙ ap (λ s. s ++ lines_of session block) (lines_of-to stamp (omega arith))
      ∙ ap (λ s. own_lines session 1 (take (front stamp session) values) ++ s) added
      ∙ own_lines-between session (front stamp session) (front (suc stamp) session) values
      (are.rises stamp (suc stamp) session values at (omega arith) le)
      (front_within stamp (omega arith))

  -- up to the last stamp these are all its posts
  pub lines_of-all : lines_of session (lines_to front posts last) ≡ own_lines session 1 values
  lines_of-all =
      lines_of-to last (omega arith)
      ∙ ap (own_lines session 1)
      (take_all (front last session) values
      (let ends = are.ends session values at in omega arith))

  -- and there are as many as the front covers
  pub count_to : (stamp : ℕ) → stamp ≤ last
      → length (lines_of session (lines_to front posts stamp)) ≡ front stamp session
  count_to stamp le =
      ap length (lines_of-to stamp le)
      ∙ (length-own_lines session 1 (take (front stamp session) values)
      ∙ (let within = front_within stamp le in
      omega (arith, length-take (front stamp session) values)))

pub all-append : {A : Type 0} (P : A → Type 0) (xs ys : List A) → AllByRecursion P xs
    → AllByRecursion P ys → AllByRecursion P (xs ++ ys)
all-append P [] ys left right = right
all-append P (x ∷ xs) ys left right = (left.0, all-append P xs ys left.1 right)

all_own : (most session index : ℕ) (values : List ℕ) → session < most
    → AllByRecursion (λ l. l.session < most) (own_lines session index values)
all_own most session index [] less = tt
all_own most session index (x ∷ values) less =
    (less, all_own most session (index + 1) values less)

all_block : (before upto : ℕ → ℕ) (most first : ℕ) (posts : List (List ℕ))
    → first + length posts ≤ most
    → AllByRecursion (λ l. l.session < most) (block_from before upto first posts)
all_block before upto most first [] le = tt
all_block before upto most first (values ∷ posts) le =
    all-append (λ l. l.session < most) _ _ (all_own most first _ _ (omega arith))
    (all_block before upto most (first + 1) posts (omega arith))

-- no line is of another session
pub all_sessions : (front : ℕ → ℕ → ℕ) (posts : List (List ℕ)) (most stamp : ℕ)
    → length posts ≤ most
    → AllByRecursion (λ l. l.session < most) (lines_to front posts stamp)
all_sessions front posts most zero le = tt
all_sessions front posts most (suc stamp) le =
    all-append (λ l. l.session < most) _ _ (all_sessions front posts most stamp le)
    (all_block (front stamp) (front (suc stamp)) most 0 posts (omega arith))

-- the lines up to a stamp begin those up to a later one
pub begins : (front : ℕ → ℕ → ℕ) (posts : List (List ℕ)) (early away : ℕ)
    → (rest : List Line) × (lines_to front posts (early + away)
    ≡ lines_to front posts early ++ rest)
begins front posts early zero =
    let same : early + 0 ≡ early = omega arith in
    ([], ap (lines_to front posts) same ∙ sym (append_nil (lines_to front posts early)))
begins front posts early (suc away) =
    let b = begins front posts early away in
    let next : early + suc away ≡ suc (early + away) = omega arith in
    let block = block_from (front (early + away)) (front (suc (early + away))) 0 posts in (
      b.0 ++ block,
      ap (lines_to front posts) next
          ∙ ap (λ s. s ++ block) b.1
          ∙ append_assoc (lines_to front posts early) b.0 block,
    )

begins_by : (front : ℕ → ℕ → ℕ) (posts : List (List ℕ)) (early late : ℕ) → early ≤ late
    → (rest : List Line) × (lines_to front posts late ≡ lines_to front posts early ++ rest)
begins_by front posts early late le =
    let same : early + (late - early) ≡ late = omega arith in
    subst (λ n. (rest : List Line)
    × (lines_to front posts n ≡ lines_to front posts early ++ rest))
    same (begins front posts early (late - early))

-- places rise with stamps
pub place_rises : (front : ℕ → ℕ → ℕ) (posts : List (List ℕ)) (early late : ℕ) → early ≤ late
    → place_at front posts early ≤ place_at front posts late
place_rises front posts early late le =
    let b = begins_by front posts early late le in
    omega (arith, ap length b.1, length-append (lines_to front posts early) b.0)

-- the lines before a stamp's place are those up to the stamp
pub take-place : (front : ℕ → ℕ → ℕ) (posts : List (List ℕ)) (early late : ℕ) → early ≤ late
    → take (place_at front posts early) (lines_to front posts late) ≡ lines_to front posts early
take-place front posts early late le =
    let b = begins_by front posts early late le in
    ap (take (place_at front posts early)) b.1
    ∙ take_at (lines_to front posts early) b.0 (place_at front posts early) refl
