-- A step that changes no word, and of the views only the caller's ascent.
use Rattle.std.proofs.Common.{◌≡◌, ◌≢◌, ℕ, ◌<◌, ◌≤◌, List, set, Option, refl, sym, ◌∙◌, subst, ⊎_elim}
use mathlib.Core.Option.{some}
use lib.ListN.{get_elem?}
use Rattle.atomic_table.proofs.Lists.{at_set}
use Rattle.node_rule.specs.declared.view.View.{View}
use Rattle.node_rule.specs.declared.view.View.TheVariants.{Session}
use Rattle.node_rule.specs.declared.view.Track.{Track}
use Rattle.node_rule.specs.declared.view.Ascent.{Ascent}
use Rattle.node_rule.specs.declared.view.Plan.{Plan}
use Rattle.node_rule.specs.Views.{tracks_of, given_of, keepers_of}
use Rattle.node_rule.specs.Sums.{total, over, seen_in, times_in, installs_in, posts_of, stands_in}
use Rattle.node_rule.specs.Fronts.{Board, board_of, word_at}
use Rattle.stamp_word.specs.Word.{stamp_in}
use Rattle.node_rule.specs.StampPart.{IsGrown, IsTrack, IsView, RefreshesAny, AreNumbered, IsStamped}
use Rattle.node_rule.proofs.SumLemmas.{total-same}

-- Views that add the same to every sum
pub record SameSums (v w : View) : Type 0 where
  pub seen : (tree child stamp : ℕ) → total (seen_in tree child stamp) (tracks_of v) ≡ total
      (seen_in tree child stamp) (tracks_of w)
  pub times : (tree node stamp : ℕ) → total (times_in tree node stamp) (tracks_of v) ≡ total
      (times_in tree node stamp) (tracks_of w)
  pub installs : (tree node : ℕ) → total (installs_in tree node) (tracks_of v) ≡ total
      (installs_in tree node) (tracks_of w)
  pub posts : (number tree : ℕ) → total (posts_of number tree) (tracks_of v) ≡ total
      (posts_of number tree) (tracks_of w)

over-same-sum : (f : Track → ℕ) (views : List View) (seat : ℕ) (v w : View)
    → get_elem? views seat ≡ some v → total f (tracks_of v) ≡ total f (tracks_of w)
    → over f (set views seat w) ≡ over f views
over-same-sum f views seat v w e same = total-same
    (λ (u : View). total f (tracks_of u)) views seat v w e same

-- the board is the same
pub board-same : (levels : ℕ) (words : List ℕ) (views : List View) (seat : ℕ) (v w : View)
    → get_elem? views seat ≡ some v → SameSums v w
    → board_of levels words (set views seat w) ≡ board_of levels words views
board-same levels words views seat v w e same = λ k. record {
  stamp = λ tree node. stamp_in (word_at levels words tree node);
  seen = λ tree child stamp. over-same-sum (seen_in tree child stamp) views seat v w e
      (same.seen tree child stamp) k;
  times = λ tree node stamp. over-same-sum (times_in tree node stamp) views seat v w e
      (same.times tree node stamp) k;
  installs = λ tree node. over-same-sum (installs_in tree node) views seat v w e
      (same.installs tree node) k;
  posts = λ number tree. over-same-sum (posts_of number tree) views seat v w e
      (same.posts number tree) k;
}

-- Views that name the same numbers
pub record SameNumbers (v w : View) : Type 0 where
  pub stands : (number : ℕ) → total (stands_in number) (tracks_of v) ≡ total (stands_in number)
      (tracks_of w)
  pub tracks : total (λ (t : Track). 1) (tracks_of v) ≡ total (λ (t : Track). 1) (tracks_of w)
  pub keepers : keepers_of v ≡ keepers_of w
  pub given : given_of v ≡ given_of w

pub numbers-same : (plan : Plan) (views : List View) (seat : ℕ) (v w : View)
    → get_elem? views seat ≡ some v → SameNumbers v w → AreNumbered plan views
    → AreNumbered plan (set views seat w)
numbers-same plan views seat v w e same h =
    let k = total-same keepers_of views seat v w e same.keepers in
    let g = total-same given_of views seat v w e same.given in
    let o = λ (number : ℕ). total-same (λ (u : View). total (stands_in number)
    (tracks_of u)) views seat v w e (same.stands number) in
    record {
      one_keeper = k ∙ h.one_keeper;
      given = subst (λ (n : ℕ). n ≤ plan.sessions) (sym g) h.given;
      tracks = total-same (λ (u : View). total (λ (t : Track). 1)
          (tracks_of u)) views seat v w e same.tracks ∙ (h.tracks ∙ sym g);
      once = λ number less. o number ∙ h.once number (subst (λ (n : ℕ). number < n) g less);
      no_other = λ number more. o number ∙ h.no_other number (subst (λ (n : ℕ). n ≤ number) g more);
    }

-- the pairs, where one view changes
pub pairs-set : (views : List View) (seat : ℕ) (w : View)
    → ((j k : ℕ) (u x : View) → get_elem? views j ≡ some u → get_elem? views k ≡ some x
    → RefreshesAny u x)
    → ((j : ℕ) (u : View) → j ≢ seat → get_elem? views j ≡ some u
    → RefreshesAny w u × RefreshesAny u w) → RefreshesAny w w
    → (j k : ℕ) (u x : View) → get_elem? (set views seat w) j ≡ some u
    → get_elem? (set views seat w) k ≡ some x → RefreshesAny u x
pairs-set views seat w old others mine j k u x e d =
    ⊎_elim
    (λ (a : (j ≡ seat) × (w ≡ u)). ⊎_elim
    (λ (b : (k ≡ seat) × (w ≡ x)). subst (λ (z : View × View). RefreshesAny z.0 z.1)
    (λ i. (a.1 i, b.1 i)) mine)
    (λ (b : (k ≢ seat) × (get_elem? views k ≡ some x)). subst (λ (z : View). RefreshesAny z x) a.1
    (others k x b.0 b.1).0)
    (at_set views seat k w x d))
    (λ (a : (j ≢ seat) × (get_elem? views j ≡ some u)). ⊎_elim
    (λ (b : (k ≡ seat) × (w ≡ x)). subst (λ (z : View). RefreshesAny u z) b.1
    (others j u a.0 a.1).1)
    (λ (b : (k ≢ seat) × (get_elem? views k ≡ some x)). old j k u x a.1 b.1)
    (at_set views seat k w x d))
    (at_set views seat j w u e)

pub each-set : (P : View → Type 0) (views : List View) (seat : ℕ) (w : View)
    → ((j : ℕ) (u : View) → get_elem? views j ≡ some u → P u) → P w → (j : ℕ) (u : View)
    → get_elem? (set views seat w) j ≡ some u → P u
each-set P views seat w old mine j u e = ⊎_elim (λ (a : (j ≡ seat) × (w ≡ u)). subst P a.1 mine)
    (λ (a : (j ≢ seat) × (get_elem? views j ≡ some u)). old j u a.1) (at_set views seat j w u e)

-- A caller's new view keeps the stamp part where it adds the same to every sum, and is in order
-- with every other
pub keeps_sums : (plan : Plan) (words : List ℕ) (views : List View) (seat : ℕ) (v w : View)
    → IsStamped plan words views → get_elem? views seat ≡ some v → SameSums v w → SameNumbers v w
    → IsView plan (board_of plan.levels words views) w
    → ((j : ℕ) (u : View) → j ≢ seat → get_elem? views j ≡ some u
    → RefreshesAny w u × RefreshesAny u w)
    → RefreshesAny w w
    → IsStamped plan words (set views seat w)
keeps_sums plan words views seat v w h at sums numbers mine others itself =
    let same = sym (board-same plan.levels words views seat v w at sums) in
    record {
      planned = h.planned;
      width = h.width;
      grown = subst (IsGrown plan) same h.grown;
      each = subst (λ (b : Board). (j : ℕ) (u : View) → get_elem? (set views seat w) j ≡ some u
          → IsView plan b u) same
          (each-set (IsView plan (board_of plan.levels words views)) views seat w h.each mine);
      pairs = pairs-set views seat w h.pairs others itself;
      numbers = numbers-same plan views seat v w at numbers h.numbers;
    }

-- A caller's new ascent keeps the stamp part where the ascent itself is in order and in order with
-- every other
pub keeps_quietly : (plan : Plan) (words : List ℕ) (views : List View) (seat levels : ℕ)
    (track : Track) (before after : Option Ascent)
    → IsStamped plan words views → get_elem? views seat ≡ some (Session levels track before)
    → IsTrack plan (board_of plan.levels words views) track after
    → ((j : ℕ) (u : View) → j ≢ seat → get_elem? views j ≡ some u
    → RefreshesAny (Session levels track after) u × RefreshesAny u (Session levels track after))
    → RefreshesAny (Session levels track after) (Session levels track after)
    → IsStamped plan words (set views seat (Session levels track after))
keeps_quietly plan words views seat levels track before after h at mine others itself =
    keeps_sums plan words views seat (Session levels track before) (Session levels track after) h at
    (record {
      seen = λ tree child stamp. refl;
      times = λ tree node stamp. refl;
      installs =
          λ tree node. refl;
      posts = λ number tree. refl;
    })
    (record { stands = λ number. refl; tracks = refl; keepers = refl; given = refl })
    ((h.each seat (Session levels track before) at).0, mine) others itself
