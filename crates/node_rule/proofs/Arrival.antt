-- An ascent that comes to the parent of its node, with a stamp that covers its post.
use Rattle.std.proofs.Common.{◌≡◌, ◌≢◌, ℕ, suc, ◌/◌, ◌^◌, ◌<◌, ◌≤◌, Bool, true, false, List, set, Option, Some, None, refl, sym, ap, ◌∙◌, subst, ⊎_elim, arith}
use mathlib.Core.Option.{some}
use lib.ListN.{get_elem?}
use Rattle.std.specs.Prelude.{IfSome, ◌==◌}
use Rattle.std.proofs.lemmas.Bool.{cases_lt, eqb-true, eqb-false}
use mathlib.Core.Logic.{dite}
use native.Mathlib.Decide.{ℕ_discrete}
use Rattle.stamp_word.specs.Word.{stamp_in}
use Rattle.stamp_word.specs.Places.{leaf_of}
use Rattle.node_rule.specs.declared.view.View.{View}
use Rattle.node_rule.specs.declared.view.View.TheVariants.{Session}
use Rattle.node_rule.specs.declared.view.Stage.{Stage}
use Rattle.node_rule.specs.declared.view.Stage.TheVariants.{Fresh, Second}
use Rattle.node_rule.specs.declared.view.Track.{Track}
use Rattle.node_rule.specs.declared.view.Try.{Try}
use Rattle.node_rule.specs.declared.view.Ascent.{Ascent}
use Rattle.node_rule.specs.declared.view.Plan.{Plan}
use Rattle.node_rule.specs.Views.{ascent_of, first_of, try_of, child_in, pick, staged, moved, risen}
use Rattle.node_rule.specs.Sums.{installs_in, posts_in}
use Rattle.node_rule.specs.Fronts.{Board, board_of, ancestor, cover}
use Rattle.node_rule.specs.StampPart.{IsPlan, IsGrown, IsPresent, Refreshes, RefreshesAny, IsStamped}
use Rattle.node_rule.proofs.Tree.{ancestor-within, ancestor-child, ancestor-root, cover_rises, cover_below}
use Rattle.node_rule.proofs.Quiet.{keeps_quietly}
use Rattle.node_rule.proofs.Loads.{if_all}
use Rattle.node_rule.proofs.Children.{in_levels, below_levels}

-- only the root is the root
pub root_height : (levels height session : ℕ) → session < 2 ^ levels → height ≤ levels
    → ancestor (leaf_of levels session) height ≡ 1 → height ≡ levels
root_height levels height session in_range le e =
    ⊎_elim (λ (lt : height < levels). let low = ancestor-child levels height session in_range lt in
    absurd (omega arith)) (λ (ge : levels ≤ height). omega arith) (cases_lt height levels)

-- an ascent that has loaded nothing is told of by nobody, and tells nobody
pub fresh_onward : (levels : ℕ) (track : _) (ascent : Option Ascent) (u : View)
    → IfSome ascent (λ x. x.stage ≡ Fresh) → RefreshesAny (Session levels track ascent) u
fresh_onward levels track None u h = tt
fresh_onward levels track (Some x) u h = if_all (Refreshes x) (ascent_of u)
    (λ y same_tree same_parent. subst (λ (o : Stage). IfSome (first_of o)
    (λ s. IfSome (try_of y.stage) (λ z. s < stamp_in z.parent
    → IfSome (child_in z x.node) (λ w. x.held ≤ stamp_in w)))) (sym h) tt)

pub fresh_back : (levels : ℕ) (track : _) (ascent : Option Ascent) (u : View)
    → IfSome ascent (λ x. x.stage ≡ Fresh) → RefreshesAny u (Session levels track ascent)
fresh_back levels track None u h = if_all (λ y. Unit {0}) (ascent_of u) (λ y. tt)
fresh_back levels track (Some x) u h = if_all (λ y. Refreshes y x) (ascent_of u)
    (λ y same_tree same_parent. if_all (λ s. IfSome (try_of x.stage) (λ z. s < stamp_in z.parent
    → IfSome (child_in z y.node) (λ w. y.held ≤ stamp_in w))) (first_of y.stage)
    (λ s. subst (λ (o : Stage). IfSome (try_of o) (λ z. s < stamp_in z.parent
    → IfSome (child_in z y.node) (λ w. y.held ≤ stamp_in w))) (sym h) tt))

fresh_pick : (x : Ascent) (stamp : ℕ) (b : Bool)
    → IfSome (pick b None (Some (moved x stamp))) (λ y. y.stage ≡ Fresh)
fresh_pick x stamp true = tt
fresh_pick x stamp false = refl

pub risen_fresh : (x : Ascent) (stamp : ℕ) → IfSome (risen x stamp) (λ y. y.stage ≡ Fresh)
risen_fresh x stamp = fresh_pick x stamp (x.node / 2 == 1)

module _ (plan : Plan) (b : Board) (planned : IsPlan plan) (grown : IsGrown plan b) (track : Track)
    (number_in : track.number < plan.sessions) (x : Ascent) (stamp : ℕ)
    (tree_in : x.tree < plan.trees) (height_in : x.height < plan.levels)
    (node : x.node ≡ ancestor (leaf_of plan.levels track.number) x.height) where
  abbrev leaf : ℕ
  leaf = leaf_of plan.levels track.number

  -- the ascent's session needs the parent to cover its posts
  module _ (reached : stamp ≤ b.stamp x.tree (x.node / 2))
      (covers : cover (b.seen x.tree) leaf (suc x.height) stamp ≡ b.posts track.number x.tree)
      (elsewhere : (tree : ℕ) → tree < plan.trees → (x.tree ≡ tree → ⊥)
      → cover (b.seen tree) leaf plan.levels (b.stamp tree 1) ≡ b.posts track.number tree)
      (fewer : (height : ℕ) → suc x.height < height → height ≤ plan.levels
      → installs_in x.tree (ancestor leaf height) track < posts_in x.tree track) where
    -- at the root, the root covers all posts
    at_root : x.node / 2 ≡ 1 → cover (b.seen x.tree) leaf plan.levels
        (b.stamp x.tree 1) ≡ b.posts track.number x.tree
    at_root root =
        let session_in : track.number < 2 ^ plan.levels = in_levels number_in planned.sessions in
        let top : suc x.height ≡ plan.levels = root_height plan.levels
        (suc x.height) track.number session_in (omega arith)
        (ap (λ (n : ℕ). n / 2) (sym node) ∙ root) in
        let is_root = ancestor-root plan.levels track.number session_in in
        let here : stamp ≤ b.stamp x.tree 1 =
        subst (λ (n : ℕ). stamp ≤ b.stamp x.tree n) root reached in
        let all : cover (b.seen x.tree) leaf plan.levels stamp ≡ b.posts track.number x.tree =
        subst (λ (n : ℕ). cover (b.seen x.tree) leaf n stamp
        ≡ b.posts track.number x.tree) top covers in
        let now : b.stamp x.tree 1 ≤ b.stamp x.tree (ancestor leaf plan.levels) =
        subst (λ (n : ℕ). b.stamp x.tree 1 ≤ b.stamp x.tree n) (sym is_root) (omega arith) in
        let rises = cover_rises plan b grown x.tree track.number tree_in session_in plan.levels
        stamp (b.stamp x.tree 1) (omega arith) here now in
        let most = cover_below plan b grown x.tree track.number tree_in session_in plan.levels
        (b.stamp x.tree 1) (omega arith) now in
        omega arith

    below_root : (x.node / 2 ≡ 1 → ⊥) → suc x.height < plan.levels
    below_root other =
        let session_in : track.number < 2 ^ plan.levels = in_levels number_in planned.sessions in
        ⊎_elim (λ (lt : suc x.height < plan.levels). lt)
        (λ (ge : plan.levels ≤ suc x.height). let top : plan.levels ≡ suc x.height = omega arith in
        absurd (other (ap (λ (n : ℕ). n / 2) node
        ∙ (sym (ap (ancestor leaf) top) ∙ ancestor-root plan.levels track.number session_in))))
        (cases_lt (suc x.height) plan.levels)

    present_at : (at_top : Bool) → (x.node / 2 == 1) ≡ at_top
        → IsPresent plan b track (pick at_top None (Some (moved x stamp)))
    present_at true e = record {
      ascends = tt;
      idle = λ tree in_range _. dite (ℕ_discrete x.tree tree)
          (λ same. subst (λ (t : ℕ). cover (b.seen t) leaf plan.levels
          (b.stamp t 1) ≡ b.posts track.number t) same (at_root (eqb-true (x.node / 2) 1 e)))
          (λ other. elsewhere tree in_range other);
      fewer = tt;
    }
    present_at false e = record {
      ascends = record {
        tree = tree_in;
        height = below_root (eqb-false (x.node / 2) 1 e);
        node = ap (λ (n : ℕ). n / 2) node;
        held = reached;
        covers = covers;
        stage = tt;
        refreshed = tt;
      };
      idle = λ tree in_range other. elsewhere tree in_range other;
      fewer = fewer;
    }

    pub arrives : IsPresent plan b track (risen x stamp)
    arrives = present_at (x.node / 2 == 1) refl

-- the second try lost too: the parent has a stamp whose install read the node at what the ascent
-- holds, or later
pub second_lost : (plan : Plan) (words : List ℕ) (views : List View) (seat levels : ℕ)
    (track : Track) (x : Ascent) (first : ℕ) (y : Try) (stamp : ℕ) → IsStamped plan words views
    → get_elem? views seat ≡ some (Session levels track (Some (staged x (Second first y))))
    → stamp ≡ (board_of plan.levels words views).stamp x.tree (x.node / 2)
    → stamp_in y.parent ≢ stamp
    → IsStamped plan words (set views seat (Session levels track (risen x stamp)))
second_lost plan words views seat levels track x first y stamp h at now changed =
    let b = board_of plan.levels words views in
    let is = (h.each seat (Session levels track (Some (staged x (Second first y)))) at).1 in
    let mine = is.present.ascends in
    let leaf = leaf_of plan.levels track.number in
    let session_in : track.number < 2 ^ plan.levels = in_levels is.past.number h.planned.sessions in
    let above = mine.stage.0 in
    let was = mine.stage.1.reached in
    let read : x.held ≤ b.seen x.tree x.node stamp =
    mine.refreshed stamp (omega arith) (omega arith) in
    let read_here : x.held ≤ b.seen x.tree (ancestor leaf x.height) stamp =
    subst (λ (n : ℕ). x.held ≤ b.seen x.tree n stamp) mine.node read in
    let reached : stamp ≤ b.stamp x.tree (ancestor leaf (suc x.height)) =
    subst (λ (n : ℕ). stamp ≤ b.stamp x.tree (n / 2)) mine.node (omega arith) in
    let node = ancestor-within plan.levels x.height track.number session_in
    (below_levels mine.height) in
    let within : b.seen x.tree (ancestor leaf x.height) stamp ≤ b.stamp x.tree
    (ancestor leaf x.height) = h.grown.below x.tree (ancestor leaf x.height) stamp mine.tree
    (ancestor-child plan.levels x.height track.number session_in mine.height) node.high
    reached in
    let rises = cover_rises plan b h.grown x.tree track.number mine.tree session_in x.height x.held
    (b.seen x.tree (ancestor leaf x.height) stamp)
    (below_levels mine.height) read_here within in
    let most = cover_below plan b h.grown x.tree track.number mine.tree session_in x.height
    (b.seen x.tree (ancestor leaf x.height) stamp) (below_levels mine.height) within in
    let all = mine.covers in
    keeps_quietly plan words views seat levels track (Some (staged x (Second first y)))
    (risen x stamp) h at
    (record {
      past = is.past;
      present = arrives plan b h.planned h.grown track is.past.number x stamp mine.tree mine.height
          mine.node (omega arith) (omega arith)
          (λ tree in_range other. is.present.idle tree in_range other)
          (λ height more le. is.present.fewer height (omega arith) le);
    })
    (λ j u _ _. (
      fresh_onward levels track (risen x stamp) u (risen_fresh x stamp),
      fresh_back levels track (risen x stamp) u (risen_fresh x stamp),
    ))
    (fresh_onward levels track (risen x stamp) (Session levels track (risen x stamp))
    (risen_fresh x stamp))
