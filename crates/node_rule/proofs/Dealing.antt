-- A split of a new session's seat, and a join of one that is done, keep the stamp part.
use Rattle.std.proofs.Common.{◌≡◌, ◌≢◌, ℕ, suc, ◌+◌, ◌<◌, ◌≤◌, Bool, true, false, List, [], ◌∷◌, ◌++◌, set, None, refl, sym, ap, ◌∙◌, subst, ⊎_elim, arith}
use mathlib.Core.Option.{some, some-ne-none}
use lib.ListN.{get_elem?}
use Rattle.std.specs.Prelude.{◌==◌}
use Rattle.std.proofs.lemmas.Bool.{eq-eqb, ne_eqb, cases_lt}
use Rattle.atomic_table.proofs.Lists.{at_set, at_snoc}
use Rattle.stamp_word.specs.Word.{stamp_in}
use Rattle.node_rule.specs.declared.view.View.{View}
use Rattle.node_rule.specs.declared.view.View.TheVariants.{Keeper, Session, Spent}
use Rattle.node_rule.specs.declared.view.Track.{Track}
use Rattle.node_rule.specs.declared.view.Plan.{Plan}
use Rattle.node_rule.specs.Views.{tracks_of, ascent_of, given_of, keepers_of, new_track}
use Rattle.node_rule.specs.Sums.{total, over, when, seen_in, times_in, installs_in, posts_of, posts_in, stands_in}
use Rattle.node_rule.specs.Fronts.{Board, board_of, word_at}
use Rattle.node_rule.specs.StampPart.{IsGrown, IsTrack, IsView, RefreshesAny, AreNumbered, IsStamped}
use Rattle.node_rule.proofs.Tree.{ancestor-root, cover_below}
use Rattle.node_rule.proofs.SumLemmas.{total-append, total-set, total-same, over-set, over-append}
use Rattle.node_rule.proofs.Adding.{total-zero, when_zero}
use Rattle.node_rule.proofs.Quiet.{pairs-set, each-set}
use Rattle.node_rule.proofs.Loads.{if_all}
use Rattle.node_rule.proofs.Children.{in_levels}
use Rattle.node_rule.proofs.Won.{each-append}

no_keeper : (u : View) → keepers_of u ≡ 0 → given_of u ≡ 0
no_keeper (Keeper levels given joined) e = absurd (omega arith)
no_keeper (Session levels track ascent) e = refl
no_keeper Spent e = refl

-- the keeper's count is that of all views
pub given-keeper : (views : List View) (seat levels given : ℕ) (joined : List Track)
    → total keepers_of views ≡ 1 → get_elem? views seat ≡ some (Keeper levels given joined)
    → total given_of views ≡ given
given-keeper views seat levels given joined one at =
    let k = total-set keepers_of views seat (Keeper levels given joined) Spent at in
    let g = total-set given_of views seat (Keeper levels given joined) Spent at in
    let none = total-zero keepers_of given_of no_keeper (set views seat Spent) (omega arith) in
    omega arith

pub nothing : (b : Bool) → when b 0 ≡ 0
nothing true = refl
nothing false = refl

-- a number that stands nowhere has no post
pub posts-none : (number tree : ℕ) (views : List View) → over (stands_in number) views ≡ 0
    → over (posts_of number tree) views ≡ 0
posts-none number tree views = total-zero (λ v. total (stands_in number) (tracks_of v))
    (λ v. total (posts_of number tree) (tracks_of v))
    (λ v. total-zero (stands_in number) (posts_of number tree)
    (λ track. when_zero (track.number == number) (posts_in tree track)) (tracks_of v)) views

module _ (plan : Plan) (words : List ℕ) (views : List View) (seat levels given : ℕ)
    (joined : List Track) where
  abbrev b : Board
  b = board_of plan.levels words views

  abbrev pub keeper : View
  keeper = Keeper levels given joined

  abbrev pub left : View
  left = Keeper levels (suc given) joined

  abbrev pub right : View
  right = Session levels (new_track given) None

  abbrev pub dealt : List View
  dealt = set views seat left ++ right ∷ []

  module _ (h : IsStamped plan words views) (at : get_elem? views seat ≡ some keeper)
      (room : given < plan.sessions) where
    pub over-dealt : (f : Track → ℕ) → over f dealt ≡ over f views + (f (new_track given) + 0)
    over-dealt f = let more = over-append f (set views seat left) right in
        let same = over-set f views seat keeper left at in omega arith

    board-dealt : board_of plan.levels words dealt ≡ b
    board-dealt = λ k. record {
      stamp = λ tree node. stamp_in (word_at plan.levels words tree node);
      seen = λ tree child stamp. (over-dealt (seen_in tree child stamp)
          ∙ unchanged (b.seen tree child stamp)) k;
      times = λ tree node stamp. (over-dealt (times_in tree node stamp)
          ∙ unchanged (b.times tree node stamp)) k;
      installs = λ tree node. (over-dealt (installs_in tree node)
          ∙ unchanged (b.installs tree node)) k;
      posts = λ number tree. (over-dealt (posts_of number tree)
          ∙ (ap (λ (n : ℕ). b.posts number tree + (n + 0)) (nothing (given == number))
          ∙ unchanged (b.posts number tree))) k;
    }
      where
        unchanged : (n : ℕ) → n + (0 + 0) ≡ n
        unchanged n = omega arith

    count : total given_of views ≡ given
    count = given-keeper views seat levels given joined h.numbers.one_keeper at

    none_yet : over (stands_in given) views ≡ 0
    none_yet = h.numbers.no_other given (let c = count in omega arith)

    numbers : AreNumbered plan dealt
    numbers =
        let k : total keepers_of dealt ≡ total keepers_of views = let a =
        total-append keepers_of (set views seat left) (right ∷ []) in
        let s = total-set keepers_of views seat keeper left at in omega arith in
        let g : total given_of dealt ≡ suc given = let a =
        total-append given_of (set views seat left) (right ∷ []) in
        let s = total-set given_of views seat keeper left at in let c = count in omega arith in
        record {
          one_keeper = k ∙ h.numbers.one_keeper;
          given = subst (λ (n : ℕ). n ≤ plan.sessions) (sym g) room;
          tracks = let more = over-dealt (λ track. 1) in let was = h.numbers.tracks in
              let c = count in omega arith;
          once = λ number less. let more = over-dealt (stands_in number) in ⊎_elim
              (λ (before : number < given). let was =
              h.numbers.once number (let c = count in omega arith) in
              let off : stands_in number (new_track given) ≡ 0 =
              ap (λ (q : Bool). when q 1) (ne_eqb given number (λ e. omega arith)) in
              omega arith)
              (λ (after : given ≤ number). let same : given ≡ number = omega arith in
              let on : stands_in number (new_track given) ≡ 1 =
              ap (λ (q : Bool). when q 1) (eq-eqb given number same) in
              let was : over (stands_in number) views ≡ 0 =
              h.numbers.no_other number (let c = count in omega arith) in omega arith)
              (cases_lt number given);
          no_other = λ number more'. let more = over-dealt (stands_in number) in
              let was : over (stands_in number) views ≡ 0 =
              h.numbers.no_other number (let c = count in omega arith) in
              let off : stands_in number (new_track given) ≡ 0 =
              ap (λ (q : Bool). when q 1) (ne_eqb given number (λ e. omega arith)) in
              omega arith;
        }

    newcomer : IsTrack plan b (new_track given) None
    newcomer =
        let none : (tree : ℕ) → b.posts given tree ≡ 0 =
        λ tree. posts-none given tree views none_yet in
        let session_in = in_levels room h.planned.sessions in
        record {
          past = record {
            number = room;
            own = λ tree. sym (none tree);
            quota = λ tree. omega arith;
            installs = λ tree node. omega arith;
            trail = tt;
            calls = λ k call e. absurd (some-ne-none call (sym e));
            in_order = λ k l tree s t v w _ e _. absurd (some-ne-none _ (sym e));
          };
          present = record {
            ascends = tt;
            idle = λ tree tree_in _. let empty = none tree in
                let most = cover_below plan b h.grown tree given tree_in session_in plan.levels
                (b.stamp tree 1) (omega arith)
                (subst (λ (n : ℕ). b.stamp tree 1 ≤ b.stamp tree n)
                (sym (ancestor-root plan.levels given session_in)) (omega arith)) in
                omega arith;
            fewer = tt;
          };
        }

    each : (j : ℕ) (u : View) → get_elem? dealt j ≡ some u → IsView plan b u
    each j u e = ⊎_elim
        (λ (old : get_elem? (set views seat left) j ≡ some u). each-set
        (IsView plan b) views seat left h.each (h.each seat keeper at) j u old)
        (λ (new : right ≡ u). subst (IsView plan b) new ((h.each seat keeper at).0, newcomer))
        (at_snoc (set views seat left) right u j e)

    to_none : (u : View) → RefreshesAny u right
    to_none u = if_all (λ x. Unit {0}) (ascent_of u) (λ x. tt)

    to_left : (u : View) → RefreshesAny u left
    to_left u = if_all (λ x. Unit {0}) (ascent_of u) (λ x. tt)

    pairs : (j k : ℕ) (u x : View) → get_elem? dealt j ≡ some u → get_elem? dealt k ≡ some x
        → RefreshesAny u x
    pairs j k u x e d = ⊎_elim
        (λ (old : get_elem? (set views seat left) j ≡ some u). ⊎_elim
        (λ (older : get_elem? (set views seat left) k ≡ some x). pairs-set views seat left h.pairs
        (λ i z _ _. (tt, to_left z)) tt j k u x old older)
        (λ (new : right ≡ x). subst (λ (z : View). RefreshesAny u z) new (to_none u))
        (at_snoc (set views seat left) right x k d))
        (λ (new : right ≡ u). subst (λ (z : View). RefreshesAny z x) new tt)
        (at_snoc (set views seat left) right u j e)

    pub splits : IsStamped plan words dealt
    splits = record {
      planned = h.planned;
      width = h.width;
      grown = subst (IsGrown plan) (sym board-dealt) h.grown;
      each = subst (λ (c : Board). (j : ℕ) (u : View) → get_elem? dealt j ≡ some u
          → IsView plan c u) (sym board-dealt) each;
      pairs = pairs;
      numbers = numbers;
    }

module _ (plan : Plan) (words : List ℕ) (views : List View)
    (seat other levels other_levels given : ℕ) (joined : List Track) (track : Track) where
  abbrev b' : Board
  b' = board_of plan.levels words views

  abbrev pub keeper' : View
  keeper' = Keeper levels given joined

  abbrev pub both : View
  both = Keeper levels given (joined ++ track ∷ [])

  abbrev pub done : View
  done = Session other_levels track None

  abbrev pub taken : List View
  taken = set (set views seat both) other Spent

  module _ (h : IsStamped plan words views) (at : get_elem? views seat ≡ some keeper')
      (apart : other ≡ seat → ⊥) (there : get_elem? (set views seat both) other ≡ some done) where
    pub at_other : get_elem? views other ≡ some done
    at_other = ⊎_elim (λ (a : (other ≡ seat) × (both ≡ done)). absurd (apart a.0))
        (λ (a : (other ≢ seat) × (get_elem? views other ≡ some done)). a.1)
        (at_set views seat other both done there)

    pub over-taken : (f : Track → ℕ) → over f taken ≡ over f views
    over-taken f = let first = over-set f views seat keeper' both at in
        let second = over-set f (set views seat both) other done Spent there in
        let more = total-append f joined (track ∷ []) in omega arith

    board-taken : board_of plan.levels words taken ≡ b'
    board-taken = λ k. record {
      stamp = λ tree node. stamp_in (word_at plan.levels words tree node);
      seen = λ tree child stamp. over-taken (seen_in tree child stamp) k;
      times = λ tree node stamp. over-taken (times_in tree node stamp) k;
      installs = λ tree node. over-taken (installs_in tree node) k;
      posts = λ number tree. over-taken (posts_of number tree) k;
    }

    numbers' : AreNumbered plan taken
    numbers' =
        let k : total keepers_of taken ≡ total keepers_of views =
        total-same keepers_of (set views seat both) other done Spent there refl
        ∙ total-same keepers_of views seat keeper' both at refl in
        let g : total given_of taken ≡ total given_of views =
        total-same given_of (set views seat both) other done Spent there refl
        ∙ total-same given_of views seat keeper' both at refl in
        record {
          one_keeper = k ∙ h.numbers.one_keeper;
          given = subst (λ (n : ℕ). n ≤ plan.sessions) (sym g) h.numbers.given;
          tracks = over-taken (λ t. 1) ∙ (h.numbers.tracks ∙ sym g);
          once = λ number less. over-taken (stands_in number)
              ∙ h.numbers.once number (subst (λ (n : ℕ). number < n) g less);
          no_other = λ number more. over-taken (stands_in number)
              ∙ h.numbers.no_other number (subst (λ (n : ℕ). n ≤ number) g more);
        }

    together : IsView plan b' both
    together = (
      (h.each seat keeper' at).0,
      each-append
          (λ (t : Track). IsTrack plan b' t None) joined track (h.each seat keeper' at).1
          (h.each other done at_other).1,
    )

    to_keeper : (u : View) → RefreshesAny u both
    to_keeper u = if_all (λ x. Unit {0}) (ascent_of u) (λ x. tt)

    to_spent : (u : View) → RefreshesAny u Spent
    to_spent u = if_all (λ x. Unit {0}) (ascent_of u) (λ x. tt)

    pub joins : IsStamped plan words taken
    joins = record {
      planned = h.planned;
      width = h.width;
      grown = subst (IsGrown plan) (sym board-taken) h.grown;
      each = subst (λ (c : Board). (j : ℕ) (u : View) → get_elem? taken j ≡ some u
          → IsView plan c u) (sym board-taken)
          (each-set (IsView plan b') (set views seat both) other Spent
          (each-set (IsView plan b') views seat both h.each together) tt);
      pairs = pairs-set (set views seat both) other Spent
          (pairs-set views seat both h.pairs (λ i z _ _. (tt, to_keeper z)) tt)
          (λ i z _ _. (tt, to_spent z)) tt;
      numbers = numbers';
    }
