-- A store of the caller's own leaf keeps the stamp part.
use Rattle.std.proofs.Common.{◌≡◌, ◌≢◌, ℕ, suc, ◌+◌, ◌/◌, ◌^◌, ◌<◌, ◌≤◌, Bool, true, false, List, [], ◌∷◌, length, take, set, Option, Some, None, refl, sym, ap, ◌∙◌, subst, ⊎_elim, arith, length-set, length-append}
use mathlib.Core.Option.{some}
use mathlib.Core.Logic.{dite}
use native.Mathlib.Decide.{ℕ_discrete}
use lib.ListN.{get_elem?}
use Rattle.std.specs.Prelude.{IfSome, slice_set, ◌==◌}
use Rattle.std.proofs.lemmas.Bool.{eqb-true, eqb-false, eq-eqb, ne_eqb}
use Rattle.atomic_table.proofs.Lists.{at_set}
use Rattle.stamp_word.specs.Word.{stamp_in}
use Rattle.stamp_word.specs.Places.{place_of, leaf_of}
use Rattle.node_rule.specs.declared.view.View.{View}
use Rattle.node_rule.specs.declared.view.View.TheVariants.{Session}
use Rattle.node_rule.specs.declared.view.Stage.TheVariants.{Fresh}
use Rattle.risk_board.specs.declared.hand.Call.{Call}
use Rattle.risk_board.specs.declared.hand.Call.TheVariants.{Post, Read}
use Rattle.node_rule.specs.declared.view.Track.{Track}
use Rattle.node_rule.specs.declared.view.Ascent.{Ascent}
use Rattle.node_rule.specs.declared.view.Plan.{Plan}
use Rattle.node_rule.specs.Views.{tracks_of, first_of, pick, called, started}
use Rattle.node_rule.specs.Sums.{Each, over, when, posted, posts_in, posts_of, installs_in, seen_in, times_in}
use Rattle.node_rule.specs.Fronts.{Board, board_of, ancestor, cover}
use Rattle.node_rule.specs.StampPart.{IsGrown, IsCall, IsPast, IsPresent, IsTrack, IsView, IsStamped}
use Rattle.node_rule.proofs.Tree.{IsLater, ancestor-root}
use Rattle.node_rule.proofs.SumLemmas.{over-set}
use Rattle.node_rule.proofs.Quiet.{numbers-same, pairs-set}
use Rattle.node_rule.proofs.Stages.{view_ascent}
use Rattle.node_rule.proofs.Children.{in_levels}
use Rattle.node_rule.proofs.Later.{IsInner, ascent_inner, ReadsNew, call_later, idle_later, view_later}
use Rattle.node_rule.proofs.Arrival.{fresh_onward, fresh_back}
use Rattle.node_rule.proofs.Places.{word-set_same, word-set_other}
use Rattle.node_rule.proofs.CallLists.{at_end, take-shorter, posted-post, posted-else}
use Rattle.node_rule.proofs.Numbers.{others_apart}
use Rattle.node_rule.proofs.StoredBoard.{IsStored, later_stored, inner_stored, grown_stored, either_apart}

module _ (plan : Plan) (words : List ℕ) (views : List View) (seat levels : ℕ) (track : Track)
    (tree value word : ℕ) where
  abbrev pub b : Board
  b = board_of plan.levels words views

  abbrev pub leaf : ℕ
  leaf = leaf_of plan.levels track.number

  abbrev pub post : Track
  post = called track (Post tree value)

  abbrev pub before : View
  before = Session levels track None

  abbrev pub ascent : Option Ascent
  ascent = started plan.levels tree leaf (suc (posts_in tree track))

  abbrev pub after : View
  after = Session levels post ascent

  abbrev pub next_words : List ℕ
  next_words = slice_set words (place_of plan.levels tree leaf) word

  abbrev pub c : Board
  c = board_of plan.levels next_words (set views seat after)

  posts-here : posts_in tree post ≡ suc (posts_in tree track)
  posts-here = let more = ap length (posted-post tree track.calls value) in
      let added = length-append (posted tree track.calls) (value ∷ []) in
      let one : length (value ∷ []) ≡ 1 = refl in omega arith

  posts-else : (t : ℕ) → (t ≡ tree → ⊥) → posts_in t post ≡ posts_in t track
  posts-else t apart = ap length (posted-else t track.calls tree value (λ e. apart (sym e)))

  pub moved-sum : (f : Track → ℕ) → get_elem? views seat ≡ some before
      → over f (set views seat after) + f track ≡ over f views + f post
  moved-sum f at = let moved = over-set f views seat before after at in omega arith

  module _ (h : IsStamped plan words views) (at : get_elem? views seat ≡ some before)
      (tree_in : tree < plan.trees) (room : posts_in tree track < plan.quota)
      (word_is : stamp_in word ≡ suc (posts_in tree track)) where
    pub is : IsTrack plan b track None
    is = (h.each seat before at).1

    pub session_in : track.number < 2 ^ plan.levels
    session_in = in_levels is.past.number h.planned.sessions

    pub own : posts_in tree track ≡ b.stamp tree leaf
    own = is.past.own tree ∙ sym (h.grown.leaves tree track.number tree_in session_in)

    pub change : IsStored plan b c tree track.number
    change = record {
      stamp = ap stamp_in (word-set_same plan.levels plan.trees tree leaf word words h.width tree_in
          (let inside = session_in in omega arith)) ∙ (word_is ∙ ap suc own);
      stamps = λ t n n_in apart. ap stamp_in (word-set_other plan.levels tree leaf word words t n
          (let inside = session_in in omega arith) n_in apart);
      seen = λ t child s. let moved = moved-sum (seen_in t child s) at in omega arith;
      times = λ t n s. let moved = moved-sum (times_in t n s) at in omega arith;
      installs = λ t n. let moved = moved-sum (installs_in t n) at in omega arith;
      post = let moved = moved-sum (posts_of track.number tree) at in
          let here = eq-eqb track.number track.number refl in
          let old : posts_of track.number tree track ≡ posts_in tree track =
          ap (λ (q : Bool). when q (posts_in tree track)) here in
          let new : posts_of track.number tree post ≡ posts_in tree post =
          ap (λ (q : Bool). when q (posts_in tree post)) here in let more = posts-here in
          omega arith;
      posts = λ number t apart. let moved = moved-sum (posts_of number t) at in ⊎_elim
          (λ (same : (number ≡ track.number) × (t ≡ tree)). absurd (apart same.0 same.1))
          (λ (other : number ≡ track.number → t ≡ tree
          → ⊥). let equal : posts_of number t post ≡ posts_of number t track =
          posts_of_else number t other in omega arith)
          (either_apart number track.number t tree);
    }
      where
        posts_of_else : (number t : ℕ) → (number ≡ track.number → t ≡ tree → ⊥)
            → posts_of number t post ≡ posts_of number t track
        posts_of_else number t other = dite (ℕ_discrete track.number number)
            (λ p. ap (λ (n : ℕ). when (track.number == number) n) (posts-else t (other (sym p))))
            (λ p. let off = ne_eqb track.number number p in
            ap (λ (q : Bool). when q (posts_in t post)) off
            ∙ sym (ap (λ (q : Bool). when q (posts_in t track)) off))

    pub later : IsLater plan b c
    later = later_stored plan b c tree track.number change h.grown tree_in session_in

    pub grown : IsGrown plan c
    grown = grown_stored plan b c tree track.number change h.grown tree_in session_in

    fits : (k : ℕ) (call : Call) → get_elem? post.calls k ≡ some call
        → IsCall plan c track.number (take k post.calls) call
    fits k call found = ⊎_elim
        (λ (old : (k < length track.calls) × (get_elem? track.calls k ≡ some call)). subst
        (λ (l : List Call). IsCall plan c track.number l call)
        (sym (take-shorter track.calls (Post tree value ∷ []) k (let lt = old.0 in
        omega arith)))
        (call_later plan b c h.planned h.grown later track.number is.past.number
        (take k track.calls) call (is.past.calls k call old.1)))
        (λ (new : (k ≡ length track.calls) × (Post tree value ≡ call)). subst
        (λ (x : Call). IsCall plan c track.number (take k post.calls) x) new.1 tree_in)
        (at_end track.calls (Post tree value) call k found)

    order : (k l : ℕ) (t s u v w : ℕ) → k ≤ l → get_elem? post.calls k ≡ some (Read t s v)
        → get_elem? post.calls l ≡ some (Read t u w) → s ≤ u
    order k l t s u v w le first last = ⊎_elim
        (λ (old : (k < length track.calls) × (get_elem? track.calls k ≡ some (Read t s v))). ⊎_elim
        (λ (older : (l < length track.calls) × (get_elem? track.calls l ≡ some (Read t u w))).
        is.past.in_order k l t s u v w le old.1 older.1)
        (λ (new : (l ≡ length track.calls) × (Post tree value ≡ Read t u w)). let e = new.1 in cc)
        (at_end track.calls (Post tree value) (Read t u w) l last))
        (λ (new : (k ≡ length track.calls) × (Post tree value ≡ Read t s v)). let e = new.1 in cc)
        (at_end track.calls (Post tree value) (Read t s v) k first)

    quota_at : (t : ℕ) → posts_in t post ≤ plan.quota
    quota_at t = dite (ℕ_discrete t tree)
        (λ p. subst (λ (n : ℕ). posts_in n post ≤ plan.quota) (sym p) (let here = posts-here in
        omega arith))
        (λ p. let same = posts-else t p in let few = is.past.quota t in omega arith)

    no_fewer : (t : ℕ) → posts_in t track ≤ posts_in t post
    no_fewer t = dite (ℕ_discrete t tree)
        (λ p. subst (λ (n : ℕ). posts_in n track ≤ posts_in n post) (sym p)
        (let here = posts-here in omega arith))
        (λ p. let same = posts-else t p in omega arith)

    past : IsPast plan c post
    past = record {
      number = is.past.number;
      own = λ t. dite (ℕ_discrete t tree)
          (λ p. subst (λ (n : ℕ). posts_in n post ≡ c.posts track.number n) (sym p)
          (posts-here ∙ (ap suc (is.past.own tree) ∙ sym change.post)))
          (λ p. posts-else t p ∙ (is.past.own t ∙ sym (change.posts track.number t (λ _ e. p e))));
      quota = quota_at;
      installs = λ t node. let few = is.past.installs t node in let more = no_fewer t in
          omega arith;
      trail = is.past.trail;
      calls = fits;
      in_order = order;
    }

    idle_else : (t : ℕ) → t < plan.trees → (t ≡ tree → ⊥)
        → cover (c.seen t) leaf plan.levels (c.stamp t 1) ≡ c.posts track.number t
    idle_else t t_in apart =
        idle_later plan b c h.planned h.grown later track.number is.past.number grown t t_in
        (change.posts track.number t (λ _ e. apart e)) (is.present.idle t t_in tt)

    -- with no level above it, the leaf is the root
    idle_leaf : plan.levels ≡ 0 → cover (c.seen tree) leaf plan.levels
        (c.stamp tree 1) ≡ c.posts track.number tree
    idle_leaf none =
        let root : leaf ≡ 1 = subst (λ (n : ℕ). ancestor leaf n ≡ 1) none
        (ancestor-root plan.levels track.number session_in) in
        subst (λ (n : ℕ). cover (c.seen tree) leaf n (c.stamp tree 1) ≡ c.posts track.number tree)
        (sym none)
        (subst (λ (n : ℕ). c.stamp tree n ≡ c.posts track.number tree) root
        (grown.leaves tree track.number tree_in session_in))

    present_at : (none : Bool) → (plan.levels == 0) ≡ none
        → IsPresent plan c post (pick none None
        (Some (record {
          tree = tree;
          node = leaf;
          height = 0;
          held = suc (posts_in tree track);
          stage = Fresh;
        })))
    present_at true e = record {
      ascends = tt;
      idle = λ t t_in _. dite (ℕ_discrete t tree)
          (λ p. subst (λ (n : ℕ). cover (c.seen n) leaf plan.levels
          (c.stamp n 1) ≡ c.posts track.number n) (sym p)
          (idle_leaf (eqb-true plan.levels 0 e)))
          (λ p. idle_else t t_in p);
      fewer = tt;
    }
    present_at false e = record {
      ascends = record {
        tree = tree_in;
        height = let some_level : plan.levels ≢ 0 = eqb-false plan.levels 0 e in omega arith;
        node = refl;
        held = let up = change.stamp in let mine = own in omega arith;
        covers = ap suc (is.past.own tree) ∙ sym change.post;
        stage = tt;
        refreshed = tt;
      };
      idle = λ t t_in other. idle_else t t_in (λ e. other (sym e));
      fewer = λ height _ _. let few = is.past.installs tree (ancestor leaf height) in
          let more = posts-here in omega arith;
    }

    fresh_at : (none : Bool) → IfSome {T = Ascent}
        (pick none None (Some (record {
          tree = tree;
          node = leaf;
          height = 0;
          held =
              suc (posts_in tree track);
          stage = Fresh;
        }))) (λ x. x.stage ≡ Fresh)
    fresh_at true = tt
    fresh_at false = refl

    -- no inner node has a new stamp
    reads_new : (u : Ascent) → IsInner plan u → ReadsNew plan b c h.planned h.grown later u
    reads_new u inner = nothing_new (first_of u.stage)
      where
        nothing_new : (o : Option ℕ) → IfSome o (λ s. (stamp : ℕ) → s + 2 ≤ stamp
            → b.stamp u.tree (u.node / 2) < stamp → stamp ≤ c.stamp u.tree (u.node / 2)
            → u.held ≤ c.seen u.tree u.node stamp)
        nothing_new None = tt
        nothing_new (Some s) = λ stamp late above reached. let high = inner.high in
            let same = inner_stored plan b c tree track.number change h.grown tree_in session_in
            u.tree (u.node / 2) (omega arith) in absurd (omega arith)

    apart_posts : (tracks : List Track)
        → Each (λ (other : Track). other.number ≢ track.number) tracks
        → Each (λ (other : Track). (t : ℕ) → c.posts other.number t ≡ b.posts other.number t) tracks
    apart_posts [] h = tt
    apart_posts (x ∷ xs) h = ((λ t. change.posts x.number t (λ e _. h.0 e)), apart_posts xs h.1)

    pub stored : IsStamped plan next_words (set views seat after)
    stored = record {
      planned = h.planned;
      width = length-set words (place_of plan.levels tree leaf) word ∙ h.width;
      grown = grown;
      each = λ j u e. ⊎_elim
          (λ (a : (j ≡ seat) × (after ≡ u)). subst (IsView plan c) a.1 (
            (h.each seat before at).0,
            record {
              past = past;
              present =
                  present_at (plan.levels == 0) refl;
            },
          ))
          (λ (a : (j ≢ seat) × (get_elem? views j ≡ some u)).
          view_later plan b c h.planned h.grown later grown u
          (apart_posts (tracks_of u)
          (others_apart plan views h.numbers seat levels track None at j u a.0 a.1))
          (view_ascent plan b (ReadsNew plan b c h.planned h.grown later) u (h.each j u a.1)
          (λ number y number_in is_ascent _. reads_new y
          (ascent_inner plan b number y h.planned number_in is_ascent)))
          (h.each j u a.1))
          (at_set views seat j after u e);
      pairs = pairs-set views seat after h.pairs
          (λ j u _ _. (
            fresh_onward levels post ascent u (fresh_at (plan.levels == 0)),
            fresh_back levels post ascent u (fresh_at (plan.levels == 0)),
          ))
          (fresh_onward levels post ascent after (fresh_at (plan.levels == 0)));
      numbers = numbers-same plan views seat before after at
          (record {
            stands = λ number. refl;
            tracks = refl;
            keepers = refl;
            given =
                refl;
          }) h.numbers;
    }
