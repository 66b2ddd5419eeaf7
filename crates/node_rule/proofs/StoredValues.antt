-- A store of the leaf keeps the value part.
use Rattle.std.proofs.Common.{◌≡◌, ◌≢◌, ℕ, zero, suc, ◌+◌, ◌-◌, ◌^◌, ◌<◌, ◌≤◌, Bool, true, false, List, [], ◌∷◌, ◌++◌, length, set, Some, None, refl, sym, ap, ◌∙◌, subst, ⊎_elim, arith}
use mathlib.Core.Option.{some}
use mathlib.Core.Logic.{dite}
use native.Mathlib.Decide.{ℕ_discrete}
use lib.ListN.{get_elem?}
use Rattle.std.specs.Prelude.{IfSome, ◌==◌, slice_index}
use Rattle.std.proofs.lemmas.Bool.{eq-eqb, ne_eqb}
use Rattle.atomic_table.proofs.Lists.{at_set}
use Rattle.stamp_word.specs.Word.{stamp_in, value_in}
use Rattle.stamp_word.specs.Places.{leaf_of}
use Rattle.node_rule.specs.declared.view.View.{View}
use Rattle.node_rule.specs.declared.view.View.TheVariants.{Spent}
use Rattle.node_rule.specs.declared.view.Stage.TheVariants.{Fresh}
use Rattle.risk_board.specs.declared.hand.Call.TheVariants.{Post}
use Rattle.node_rule.specs.declared.view.Track.{Track}
use Rattle.node_rule.specs.declared.view.Ascent.{Ascent}
use Rattle.node_rule.specs.declared.view.Plan.{Plan}
use Rattle.node_rule.specs.Views.{tracks_of, try_of, pick, called}
use Rattle.node_rule.specs.Sums.{total, over, when, posted, posts_in, nth, stands_in, post_of}
use Rattle.node_rule.specs.Fronts.{Board, IsDeep, word_at, leaf_value, value_at}
use Rattle.node_rule.specs.StampPart.{IsStamped}
use Rattle.node_rule.specs.ValuePart.{HasValues, IsCallValued, IsViewValued, IsValued}
use Rattle.node_rule.proofs.SumLemmas.{over-set}
use Rattle.node_rule.proofs.Adding.{total-zero, when_zero}
use Rattle.node_rule.proofs.Numbers.{at_most_once, stands-own}
use Rattle.node_rule.proofs.CallLists.{posted-post, posted-else}
use Rattle.node_rule.proofs.Places.{word-set_same, word-set_other}
use Rattle.node_rule.proofs.Tree.{deep-within, leaf-deep}
use Rattle.node_rule.proofs.Values.{value_stays}
use Rattle.node_rule.proofs.LaterValues.{calls_later, view_values_later}
use Rattle.node_rule.proofs.Won.{each-append}
use Rattle.node_rule.proofs.WonValues.{deep-one}
use Rattle.node_rule.proofs.StoredBoard.{either_apart}
use Rattle.node_rule.proofs.Stored.{b, c, before, after, next_words, moved-sum, is, session_in, own, later}

index_shorter : (xs ys : List ℕ) (k : ℕ) → k < length xs
    → slice_index (xs ++ ys) k ≡ slice_index xs k
index_shorter [] ys k h = absurd (omega arith)
index_shorter (x ∷ xs) ys zero h = refl
index_shorter (x ∷ xs) ys (suc k) h = index_shorter xs ys k (omega arith)

index_last : (xs : List ℕ) (y : ℕ) → slice_index (xs ++ y ∷ []) (length xs) ≡ y
index_last [] y = refl
index_last (x ∷ xs) y = index_last xs y

index_past : (xs : List ℕ) → slice_index xs (length xs) ≡ 0
index_past [] = refl
index_past (x ∷ xs) = index_past xs

-- a number that stands nowhere has no post
post_none : (number tree index : ℕ) (views : List View) → over (stands_in number) views ≡ 0
    → over (post_of number tree index) views ≡ 0
post_none number tree index views = total-zero (λ v. total (stands_in number) (tracks_of v))
    (λ v. total (post_of number tree index) (tracks_of v))
    (λ v. total-zero (stands_in number) (post_of number tree index)
    (λ track. when_zero (track.number == number) (nth (posted tree track.calls) index))
    (tracks_of v)) views

module _ (plan : Plan) (unit cap : ℕ) (join : ℕ → ℕ → ℕ) (words : List ℕ) (views : List View)
    (seat levels : ℕ) (track : Track) (tree value word : ℕ) where
  abbrev board : Board
  board = b plan words views seat levels track tree value word

  abbrev board' : Board
  board' = c plan words views seat levels track tree value word

  abbrev views' : List View
  views' = set views seat (after plan words views seat levels track tree value word)

  abbrev words' : List ℕ
  words' = next_words plan words views seat levels track tree value word

  abbrev mine : ℕ
  mine = leaf_of plan.levels track.number

  abbrev old : ℕ → ℕ → ℕ → ℕ → ℕ
  old = value_at plan.levels unit join views

  abbrev new : ℕ → ℕ → ℕ → ℕ → ℕ
  new = value_at plan.levels unit join views'

  module _ (s : IsStamped plan words views) (at : get_elem? views seat ≡ some
      (before plan words views seat levels track tree value word)) (tree_in : tree < plan.trees)
      (room : posts_in tree track < plan.quota)
      (word_is : stamp_in word ≡ suc (posts_in tree track))
      (h : IsValued plan unit cap join words views) (small : value ≤ cap)
      (value_is : value_in word ≡ value) where
    in_leaves : track.number < 2 ^ plan.levels
    in_leaves = session_in plan words views seat levels track tree value word s at tree_in room
        word_is

    stamp_is : posts_in tree track ≡ board.stamp tree mine
    stamp_is = own plan words views seat levels track tree value word s at tree_in room word_is

    -- the number's only track is the caller's
    alone : (index : ℕ) → over (post_of track.number tree index) views
        ≡ post_of track.number tree index track
    alone index =
        let stands = over-set (stands_in track.number) views seat
        (before plan words views seat levels track tree value word) Spent at in
        let posts = over-set (post_of track.number tree index) views seat
        (before plan words views seat levels track tree value word) Spent at in
        let one = stands-own track in let most = at_most_once plan views s.numbers track.number in
        let none = post_none track.number tree index (set views seat Spent) (omega arith) in
        omega arith

    own_post : (t index : ℕ) (it : Track) → it.number ≡ track.number
        → post_of track.number t index it ≡ nth (posted t it.calls) index
    own_post t index it same = ap (λ (q : Bool). when q (nth (posted t it.calls) index))
        (eq-eqb it.number track.number same)

    -- the new post
    newest : over (post_of track.number tree (suc (posts_in tree track))) views' ≡ value
    newest =
        let moved = moved-sum plan words views seat levels track tree value word
        (post_of track.number tree (suc (posts_in tree track))) at in
        let was : post_of track.number tree (suc (posts_in tree track)) track ≡ 0 =
        own_post tree (suc (posts_in tree track)) track refl
        ∙ index_past (posted tree track.calls) in
        let now : post_of track.number tree (suc (posts_in tree track))
        (called track (Post tree value)) ≡ value =
        own_post tree (suc (posts_in tree track)) (called track (Post tree value)) refl
        ∙ (ap (λ (l : List ℕ). slice_index l (posts_in tree track))
        (posted-post tree track.calls value) ∙ index_last (posted tree track.calls) value) in
        let only = alone (suc (posts_in tree track)) in omega arith

    -- earlier posts, and those of others
    post_same : (number t k : ℕ) → (number ≡ track.number → t ≡ tree → k < posts_in tree track)
        → post_of number t (suc k) (called track (Post tree value)) ≡ post_of number t (suc k) track
    post_same number t k before_it = ⊎_elim
        (λ (same : (number ≡ track.number) × (t ≡ tree)). subst
        (λ (p : ℕ × ℕ). post_of p.0 p.1 (suc k)
        (called track (Post tree value)) ≡ post_of p.0 p.1 (suc k) track)
        (λ i. (sym same.0 i, sym same.1 i))
        (own_post tree (suc k) (called track (Post tree value)) refl
        ∙ (ap (λ (l : List ℕ). slice_index l k) (posted-post tree track.calls value)
        ∙ (index_shorter (posted tree track.calls) (value ∷ []) k (before_it same.0 same.1)
        ∙ sym (own_post tree (suc k) track refl)))))
        (λ (apart : number ≡ track.number → t ≡ tree → ⊥). dite (ℕ_discrete track.number number)
        (λ p. ap (λ (l : List ℕ). when (track.number == number) (slice_index l k))
        (posted-else t track.calls tree value (λ e. apart (sym p) (sym e))))
        (λ p. let off = ne_eqb track.number number p in
        ap (λ (q : Bool). when q (nth (posted t (called track (Post tree value)).calls)
        (suc k))) off
        ∙ sym (ap (λ (q : Bool). when q (nth (posted t track.calls) (suc k))) off)))
        (either_apart number track.number t tree)

    leaf_same : (t : ℕ) (node stamp : ℕ) → t < plan.trees → IsDeep plan.levels node
        → stamp ≤ board.stamp t node
        → leaf_value plan.levels unit views' t node stamp
        ≡ leaf_value plan.levels unit views t node stamp
    leaf_same t node zero t_in deep reached = refl
    leaf_same t node (suc k) t_in deep reached =
        let moved = moved-sum plan words views seat levels track tree value word
        (post_of (node - 2 ^ plan.levels) t (suc k)) at in
        let low = deep.low in
        let same = post_same (node - 2 ^ plan.levels) t k
        (λ p q. let here : node ≡ mine = omega arith in
        let reached' : suc k ≤ board.stamp tree mine =
        subst (λ (z : ℕ × ℕ). suc k ≤ board.stamp z.0 z.1) (λ i. (q i, here i)) reached in
        let is_stamp = stamp_is in omega arith) in
        omega arith

    stays : (t depth height node stamp : ℕ) → t < plan.trees → depth + height ≡ plan.levels
        → IsDeep depth node → stamp ≤ board.stamp t node
        → new t height node stamp ≡ old t height node stamp
    stays t depth height node stamp t_in e deep reached =
        value_stays plan join board board' s.grown
        (later plan words views seat levels track tree value word s at tree_in room word_is) t t_in
        (leaf_value plan.levels unit views t) (leaf_value plan.levels unit views' t)
        (λ n k n_deep k_reached. leaf_same t n k t_in n_deep k_reached) height depth node stamp e
        deep reached

    new_word : value_in word ≡ new tree 0 mine (stamp_in word)
    new_word = value_is ∙ (sym newest
        ∙ (ap (λ (n : ℕ). over (post_of n tree (suc (posts_in tree track))) views')
        (let back : track.number ≡ mine - 2 ^ plan.levels = omega arith in back)
        ∙ ap (λ (n : ℕ). new tree 0 mine n) (sym word_is)))

    node_valued : (t depth height node : ℕ) → t < plan.trees → depth + height ≡ plan.levels
        → IsDeep depth node → value_in (word_at plan.levels words' t node) ≡ new t height node
        (stamp_in (word_at plan.levels words' t node))
    node_valued t depth height node t_in e deep =
        let inside = in_leaves in
        let node_in = deep-within depth plan.levels node (omega arith) deep in
        ⊎_elim
        (λ (same : (t ≡ tree) × (node ≡ mine)).
        let depths : depth ≡ plan.levels = deep-one depth plan.levels mine
        (subst (IsDeep depth) same.1 deep) (leaf-deep plan.levels track.number inside) in
        let heights : height ≡ 0 = omega arith in
        let is_word : word_at plan.levels words' tree mine ≡ word =
        word-set_same plan.levels plan.trees tree mine word words s.width tree_in
        (omega arith) in
        let valued : value_in (word_at plan.levels words' tree mine) ≡ new tree 0 mine
        (stamp_in (word_at plan.levels words' tree mine)) =
        subst (λ (w : ℕ). value_in w ≡ new tree 0 mine (stamp_in w)) (sym is_word) new_word in
        subst (λ (p : ℕ × ℕ × ℕ). value_in (word_at plan.levels words' p.0 p.1) ≡ new p.0 p.2 p.1
        (stamp_in (word_at plan.levels words' p.0 p.1)))
        (λ i. (sym same.0 i, sym same.1 i, sym heights i)) valued)
        (λ (apart : t ≡ tree → node ≡ mine → ⊥).
        let is_word : word_at plan.levels words' t node ≡ word_at plan.levels words t node =
        word-set_other plan.levels tree mine word words t node
        (omega arith) node_in.high apart in
        subst (λ (w : ℕ). value_in w ≡ new t height node (stamp_in w)) (sym is_word)
        (h.nodes t depth height node t_in e deep
        ∙ sym (stays t depth height node (board.stamp t node) t_in e deep (omega arith))))
        (either_apart t tree node mine)

    none_loaded : (none : Bool) → IfSome {T = Ascent}
        (pick none None (Some (record {
          tree = tree;
          node = mine;
          height = 0;
          held =
              suc (posts_in tree track);
          stage = Fresh;
        })))
        (λ y. IfSome (try_of y.stage) (HasValues plan cap new y.tree y.height y.node))
    none_loaded true = tt
    none_loaded false = tt

    pub stored_valued : IsValued plan unit cap join words' views'
    stored_valued = record {
      nodes = node_valued;
      each = λ j u e. ⊎_elim
          (λ (a : (j ≡ seat) × (after plan words views seat levels track tree value word ≡ u)).
          subst (IsViewValued plan cap new) a.1
          (record {
            loaded = none_loaded (plan.levels == 0);
            calls = (
              each-append (IsCallValued plan cap new) track.calls (Post tree value)
                  (calls_later plan cap board s.planned old new stays track
                  (is plan words views seat levels track tree value word s at tree_in room
                  word_is).past (h.each seat
                  (before plan words views seat levels track tree value word) at).calls.0)
                  small,
              tt,
            );
          }))
          (λ (a : (j ≢ seat) × (get_elem? views j ≡ some u)).
          view_values_later plan cap board s.planned old new stays u (s.each j u a.1)
          (h.each j u a.1))
          (at_set views seat j (after plan words views seat levels track tree value word) u e);
    }
