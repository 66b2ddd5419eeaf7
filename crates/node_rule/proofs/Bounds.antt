-- Stamps and values are within the bounds of a word.
use Rattle.std.proofs.Common.{◌≡◌, ℕ, zero, suc, ◌-◌, ◌*◌, ◌^◌, ◌<◌, ◌≤◌, Bool, true, false, List, [], ◌∷◌, None, refl, subst, ⊎_elim, arith}
use Rattle.fold_law.specs.declared.limits.TheConstants.{SESSIONS, QUOTA}
use mathlib.Core.Option.{some}
use lib.ListN.{get_elem?}
use Rattle.std.specs.Prelude.{◌==◌, slice_index}
use Rattle.std.proofs.Math.Nat.{mul-le-mul_left}
use Rattle.std.proofs.lemmas.Bool.{cases_lt}
use Rattle.stamp_word.specs.Places.{leaf_of}
use Rattle.fold_law.specs.Laws.{FoldLaws}
use Rattle.node_rule.specs.declared.view.View.{View}
use Rattle.node_rule.specs.declared.view.View.TheVariants.{Keeper, Session, Spent}
use Rattle.risk_board.specs.declared.hand.Call.{Call}
use Rattle.risk_board.specs.declared.hand.Call.TheVariants.{Post, Read}
use Rattle.node_rule.specs.declared.view.Track.{Track}
use Rattle.node_rule.specs.declared.view.Plan.{Plan}
use Rattle.node_rule.specs.Views.{tracks_of, pick}
use Rattle.node_rule.specs.Sums.{Each, total, over, when, posted, posts_in, posts_of, post_of, nth, installs_in, stands_in}
use Rattle.node_rule.specs.Fronts.{Board, board_of, leaf_value, value_at}
use Rattle.node_rule.specs.StampPart.{IsPast, IsTrack, IsView, IsStamped}
use Rattle.node_rule.specs.ValuePart.{IsCallValued, IsValued}
use Rattle.node_rule.proofs.Numbers.{at_most_once}

-- sums that are bounded term by term
pub total-most : {A : Type 0} (m : ℕ) (f g : A → ℕ) (xs : List A)
    → ((k : ℕ) (x : A) → get_elem? xs k ≡ some x → f x ≤ m * g x) → total f xs ≤ m * total g xs
total-most m f g [] h = omega arith
total-most m f g (x ∷ xs) h = let first : f x ≤ m * g x = h 0 x refl in
    let rest : total f xs ≤ m * total g xs = total-most m f g xs (λ k y e. h (suc k) y e) in
    omega arith

total-most_each : (m : ℕ) (f g : Track → ℕ) (P : Track → Type 0)
    → ((x : Track) → P x → f x ≤ m * g x) → (xs : List Track) → Each P xs
    → total f xs ≤ m * total g xs
total-most_each m f g P h [] is = omega arith
total-most_each m f g P h (x ∷ xs) is = let first : f x ≤ m * g x = h x is.0 in
    let rest : total f xs ≤ m * total g xs = total-most_each m f g P h xs is.1 in omega arith

each_past : (plan : Plan) (b : Board) (tracks : List Track)
    → Each (λ (t : Track). IsTrack plan b t None) tracks → Each (IsPast plan b) tracks
each_past plan b [] h = tt
each_past plan b (t ∷ ts) h = (h.0.past, each_past plan b ts h.1)

pub view_past : (plan : Plan) (b : Board) (u : View) → IsView plan b u
    → Each (IsPast plan b) (tracks_of u)
view_past plan b (Keeper levels given joined) h = each_past plan b joined h.1
view_past plan b (Session levels track ascent) h = (h.1.past, tt)
view_past plan b Spent h = tt

module _ (plan : Plan) (words : List ℕ) (views : List View) (h : IsStamped plan words views) where
  abbrev b : Board
  b = board_of plan.levels words views

  -- what each track has at most `quota` of
  over_quota : (f : Track → ℕ) → ((t : Track) → IsPast plan b t → f t ≤ plan.quota * 1)
      → over f views ≤ QUOTA * SESSIONS
  over_quota f few =
      let sum : over f views ≤ plan.quota * over (λ (t : Track). 1) views =
      total-most plan.quota (λ v. total f (tracks_of v))
      (λ v. total (λ (t : Track). 1) (tracks_of v)) views
      (λ k v e. total-most_each plan.quota f (λ (t : Track). 1) (IsPast plan b) few (tracks_of v)
      (view_past plan b v (h.each k v e))) in
      let tracks : over (λ (t : Track). 1) views ≤ SESSIONS = let n = h.numbers.tracks in
      let g = h.numbers.given in let p = h.planned.few in omega arith in
      let most : plan.quota * over (λ (t : Track). 1) views ≤ plan.quota * SESSIONS =
      mul-le-mul_left plan.quota tracks in
      let quota = h.planned.quota in omega arith

  when_most : (q : Bool) (n m : ℕ) → n ≤ m → when q n ≤ m
  when_most true n m le = le
  when_most false n m le = omega arith

  -- a stamp has room above it in its word
  pub stamp_most : (tree node : ℕ) → tree < plan.trees → 1 ≤ node → node < 2 * 2 ^ plan.levels
      → b.stamp tree node ≤ QUOTA * SESSIONS
  stamp_most tree node tree_in low high = ⊎_elim
      (λ (inner : node < 2 ^ plan.levels). let counted =
      h.grown.counted tree node tree_in low inner in
      let sum : b.installs tree node ≤ QUOTA * SESSIONS =
      over_quota (installs_in tree node) (λ t p. let i = p.installs tree node in
      let q = p.quota tree in omega arith) in omega arith)
      (λ (leaf : 2 ^ plan.levels ≤ node).
      let session : ℕ = node - 2 ^ plan.levels in
      let posts : b.stamp tree (leaf_of plan.levels session) ≡ b.posts session tree =
      h.grown.leaves tree session tree_in (omega arith) in
      let same : leaf_of plan.levels session ≡ node = omega arith in
      let posts' : b.stamp tree node ≡ b.posts session tree =
      subst (λ (n : ℕ). b.stamp tree n ≡ b.posts session tree) same posts in
      let sum : b.posts session tree ≤ QUOTA * SESSIONS =
      over_quota (posts_of session tree) (λ t p. let q = p.quota tree in
      when_most (t.number == session) (posts_in tree t) (plan.quota * 1) (omega arith)) in
      omega arith)
      (cases_lt node (2 ^ plan.levels))

picked_most : (most : ℕ) (q : Bool) (v : ℕ) (xs : List ℕ) → v ≤ most
    → ((k : ℕ) → slice_index xs k ≤ most) → (k : ℕ) → slice_index (pick q (v ∷ xs) xs) k ≤ most
picked_most most true v xs first rest zero = first
picked_most most true v xs first rest (suc k) = rest k
picked_most most false v xs first rest k = rest k

-- each post is within the fold's cap
posted_most : (plan : Plan) (cap : ℕ) (value : ℕ → ℕ → ℕ → ℕ → ℕ) (tree : ℕ) (calls : List Call)
    → Each (IsCallValued plan cap value) calls → (k : ℕ) → slice_index (posted tree calls) k ≤ cap
posted_most plan cap value tree [] h zero = omega arith
posted_most plan cap value tree [] h (suc k) = omega arith
posted_most plan cap value tree (Post t v ∷ calls) h k =
    picked_most cap (t == tree) v (posted tree calls) h.0
    (posted_most plan cap value tree calls h.1) k
posted_most plan cap value tree (Read t s v ∷ calls) h k =
    posted_most plan cap value tree calls h.1 k

nth_most : (cap : ℕ) (xs : List ℕ) → ((k : ℕ) → slice_index xs k ≤ cap) → (index : ℕ)
    → nth xs index ≤ cap
nth_most cap xs h zero = omega arith
nth_most cap xs h (suc k) = h k

post_most : (cap : ℕ) (q : Bool) (n : ℕ) → n ≤ cap → when q n ≤ cap * when q 1
post_most cap true n le = omega arith
post_most cap false n le = omega arith

-- a leaf's value can be the join of one leaf
pub leaf_under : (plan : Plan) (unit cap : ℕ) (join : ℕ → ℕ → ℕ) (le : ℕ → ℕ → Bool)
    (under : ℕ → ℕ → Type 0) → FoldLaws unit cap join le under → (words : List ℕ) (views : List View)
    → IsStamped plan words views → IsValued plan unit cap join words views
    → (tree node stamp : ℕ) → under 1 (leaf_value plan.levels unit views tree node stamp)
leaf_under plan unit cap join le under laws words views s h tree node zero = laws.unit_under 1
leaf_under plan unit cap join le under laws words views s h tree node (suc k) =
    let session : ℕ = node - 2 ^ plan.levels in
    let sum : over (post_of session tree (suc k)) views ≤ cap * over (stands_in session) views =
    total-most cap (λ v. total (post_of session tree (suc k)) (tracks_of v))
    (λ v. total (stands_in session) (tracks_of v)) views
    (λ j v e. total-most_each cap (post_of session tree (suc k)) (stands_in session)
    (λ t. Each (IsCallValued plan cap (value_at plan.levels unit join views)) t.calls)
    (λ t c. post_most cap (t.number == session) (nth (posted tree t.calls) (suc k))
    (nth_most cap (posted tree t.calls) (posted_most plan cap
    (value_at plan.levels unit join views) tree t.calls c) (suc k))) (tracks_of v)
    (h.each j v e).calls) in
    let once = at_most_once plan views s.numbers session in
    let most : cap * over (stands_in session) views ≤ cap * 1 = mul-le-mul_left cap once in
    laws.leaf_under (over (post_of session tree (suc k)) views) (omega arith)
