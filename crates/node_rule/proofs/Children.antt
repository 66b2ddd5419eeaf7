-- Loads of a child keep the stamp part: the child's stamp now is at least what each ascent there
-- holds.
use Rattle.std.proofs.Common.{◌≡◌, ◌≢◌, ℕ, ◌+◌, ◌*◌, ◌/◌, ◌%◌, ◌^◌, ◌<◌, ◌≤◌, Bool, true, false, List, set, Option, Some, refl, sym, ap, ◌∙◌, subst, arith}
use mathlib.Core.Option.{some}
use lib.ListN.{get_elem?}
use Rattle.std.specs.Prelude.{IfSome}
use Rattle.std.proofs.lemmas.Bool.{eqb-true, eqb-false}
use Rattle.stamp_word.specs.Word.{stamp_in}
use Rattle.node_rule.specs.declared.view.View.{View}
use Rattle.node_rule.specs.declared.view.View.TheVariants.{Session}
use Rattle.node_rule.specs.declared.view.Stage.{Stage}
use Rattle.node_rule.specs.declared.view.Stage.TheVariants.{First, Second}
use Rattle.node_rule.specs.declared.view.Track.{Track}
use Rattle.node_rule.specs.declared.view.Try.{Try}
use Rattle.node_rule.specs.declared.view.Ascent.{Ascent}
use Rattle.node_rule.specs.declared.view.Plan.{Plan}
use Rattle.node_rule.specs.Views.{first_of, try_of, child_in, pick, is_left, staged, with_left, with_right}
use Rattle.node_rule.specs.Fronts.{Board, board_of}
use Rattle.node_rule.specs.StampPart.{IsLoaded, IsTry, IsStage, AreRefreshed, IsAscent, Refreshes, IsStamped}
use Rattle.node_rule.proofs.Tree.{ancestor-within, ancestor-child}
use Rattle.node_rule.proofs.Loads.{if_some}
use Rattle.node_rule.proofs.Stages.{keeps_staged}

pub left_child : (node : ℕ) → is_left node ≡ true → node ≡ 2 * (node / 2)
left_child node e = let even : node % 2 ≡ 0 = eqb-true (node % 2) 0 e in omega arith

pub right_child : (node : ℕ) → is_left node ≡ false → node ≡ 2 * (node / 2) + 1
right_child node e = let odd : node % 2 ≢ 0 = eqb-false (node % 2) 0 e in omega arith

-- a left child is loaded at the stamp `found`: what each ascent at it holds is no more
told_left : (P : ℕ → Type 0) (b : Bool) (found : ℕ) (left right : Option ℕ) → (b ≡ true → P found)
    → (b ≡ false → IfSome (pick b left right) P) → IfSome (pick b (Some found) right) P
told_left P true found left right new old = new refl
told_left P false found left right new old = old refl

told_right : (P : ℕ → Type 0) (b : Bool) (found : ℕ) (left right : Option ℕ) → (b ≡ false → P found)
    → (b ≡ true → IfSome (pick b left right) P) → IfSome (pick b left (Some found)) P
told_right P true found left right new old = old refl
told_right P false found left right new old = new refl

pub in_levels : {number sessions leaves : ℕ} → number < sessions → sessions ≤ leaves
    → number < leaves
in_levels p q = omega arith

pub below_levels : {height levels : ℕ} → height < levels → height ≤ levels
below_levels p = omega arith

-- a stage with a try in hand
pub record IsTrying (plan : Plan) (b : Board) (make : Try → Stage) : Type 0 where
  pub tried : (y : Try) → try_of (make y) ≡ Some y
  pub first : (y z : Try) → y.parent ≡ z.parent → first_of (make y) ≡ first_of (make z)
  pub stage : (tree node held : ℕ) (y z : Try) → y.parent ≡ z.parent
      → IsStage plan b tree node held (make y)
      → (IsTry plan b tree node held y → IsTry plan b tree node held z)
      → IsStage plan b tree node held (make z)

pub trying_first : (plan : Plan) (b : Board) → IsTrying plan b First
trying_first plan b = record {
  tried = λ y. refl;
  first =
      λ y z e. ap (λ (p : ℕ). Some (stamp_in p)) e;
  stage = λ tree node held y z e h f. f h;
}

pub trying_second : (plan : Plan) (b : Board) (s : ℕ) → IsTrying plan b (Second s)
trying_second plan b s = record {
  tried = λ y. refl;
  first = λ y z e. refl;
  stage =
      λ tree node held y z e h f. (subst (λ (p : ℕ). s < stamp_in p) e h.0, f h.1);
}

module _ (plan : Plan) (words : List ℕ) (views : List View) (seat levels : ℕ) (track : Track)
    (x : Ascent) (make : Try → Stage) (y : Try) (found : ℕ) where
  abbrev board : Board
  board = board_of plan.levels words views

  abbrev seated : Type 0
  seated = get_elem? views seat ≡ some (Session levels track (Some (staged x (make y))))

  abbrev kept : Try → Type 0
  kept z = IsStamped plan words (set views seat (Session levels track (Some (staged x (make z)))))

  -- what one ascent is told of another's try, before and after the load
  module _ (z : Try) (same : y.parent ≡ z.parent) (trying : IsTrying plan board make)
      (told : (number : ℕ) (u : Ascent) → IsAscent plan board number u → u.tree ≡ x.tree
      → u.node / 2 ≡ x.node / 2 → IfSome (child_in y u.node) (λ w. u.held ≤ stamp_in w)
      → IfSome (child_in z u.node) (λ w. u.held ≤ stamp_in w)) where
    abbrev told_by : Try → Ascent → ℕ → Type 0
    told_by t u s = s < stamp_in t.parent → IfSome (child_in t u.node) (λ w. u.held ≤ stamp_in w)

    back : (number : ℕ) (u : Ascent) → IsAscent plan board number u → Refreshes u (staged x (make y))
        → Refreshes u (staged x (make z))
    back number u is old same_tree same_parent =
        if_some (λ s. IfSome (try_of (make y)) (λ t. told_by t u s))
        (λ s. IfSome (try_of (make z)) (λ t. told_by t u s)) (first_of u.stage)
        (λ s was. subst (λ (o : Option Try). IfSome o (λ t. told_by t u s)) (sym (trying.tried z))
        (λ later. told number u is same_tree same_parent
        (subst (λ (o : Option Try). IfSome o (λ t. told_by t u s)) (trying.tried y) was
        (subst (λ (p : ℕ). s < stamp_in p) (sym same) later))))
        (old same_tree same_parent)

    onward : (u : Ascent) → Refreshes (staged x (make y)) u → Refreshes (staged x (make z)) u
    onward u old same_tree same_parent =
        subst (λ (o : Option ℕ). IfSome o (λ s. IfSome (try_of u.stage) (λ t. s < stamp_in t.parent
        → IfSome (child_in t x.node) (λ w. x.held ≤ stamp_in w)))) (trying.first y z same)
        (old same_tree same_parent)

    loaded : (h : IsStamped plan words views) → seated
        → (IsTry plan board x.tree x.node x.held y → IsTry plan board x.tree x.node x.held z)
        → kept z
    loaded h at better =
        let is = (h.each seat (Session levels track (Some (staged x (make y)))) at).1 in
        let mine = is.present.ascends in
        keeps_staged plan words views seat levels track (staged x (make y)) (make z) h at
        (trying.stage x.tree x.node x.held y z same mine.stage better)
        (subst (λ (o : Option ℕ). AreRefreshed plan board x.tree x.node x.held o)
        (trying.first y z same) mine.refreshed)
        (λ number u ascends old. onward u old)
        (λ number u ascends old. back number u ascends old)
        (λ old. onward (staged x (make z)) (back track.number (staged x (make y)) mine old))

  -- a loaded word of a child, which is the child's now
  module _ (child : ℕ) (h : IsStamped plan words views) (at : seated)
      (halves : child / 2 ≡ x.node / 2) (below : child < 2 * (x.node / 2) + 2)
      (now : stamp_in found ≡ board.stamp x.tree child) where
    loaded_now : IsTry plan board x.tree x.node x.held y
        → IsLoaded plan board x.tree x.node x.held y.parent child found
    loaded_now try =
        let is = (h.each seat (Session levels track (Some (staged x (make y)))) at).1 in
        let mine = is.present.ascends in
        let session_in : track.number < 2 ^ plan.levels =
        in_levels is.past.number h.planned.sessions in
        let low : 2 ≤ x.node = subst (λ (n : ℕ). 2 ≤ n) (sym mine.node)
        (ancestor-child plan.levels x.height track.number session_in mine.height) in
        let high : x.node < 2 * 2 ^ plan.levels =
        subst (λ (n : ℕ). n < 2 * 2 ^ plan.levels) (sym mine.node)
        (ancestor-within plan.levels x.height track.number session_in
        (below_levels mine.height)).high in
        let parent : stamp_in y.parent ≤ board.stamp x.tree (child / 2) =
        subst (λ (n : ℕ). stamp_in y.parent ≤ board.stamp x.tree n) (sym halves) try.reached in
        let below_now : board.seen x.tree child (stamp_in y.parent) ≤ board.stamp x.tree child =
        h.grown.below x.tree child (stamp_in y.parent) mine.tree (omega arith)
        (omega arith) parent in
        record {
          reached = omega arith;
          newer = omega arith;
          own = λ same. let held : x.held ≤ board.stamp x.tree child =
              subst (λ (n : ℕ). x.held ≤ board.stamp x.tree n) (sym same) mine.held in omega arith;
        }

  -- the load of the left child
  pub load_left : IsTrying plan board make → IsStamped plan words views → seated
      → stamp_in found ≡ board.stamp x.tree (2 * (x.node / 2)) → kept (with_left y found)
  load_left trying h at now = loaded (with_left y found) refl trying
      (λ number u is same_tree same_parent old. told_left (λ w. u.held ≤ stamp_in w)
      (is_left u.node) found y.left y.right
      (λ even. let here : u.node ≡ 2 * (x.node / 2) = left_child u.node even
      ∙ ap (λ (n : ℕ). 2 * n) same_parent in
      let held : u.held ≤ board.stamp x.tree (2 * (x.node / 2)) =
      subst (λ (p : ℕ × ℕ). u.held ≤ board.stamp p.0 p.1)
      (λ i. (same_tree i, here i)) is.held in omega arith)
      (λ odd. old))
      h at (λ try. record {
        reached = try.reached;
        left =
            loaded_now (2 * (x.node / 2)) h at (omega arith) (omega arith) now try;
        right =
            try.right;
      })

  -- the load of the right child
  pub load_right : IsTrying plan board make → IsStamped plan words views → seated
      → stamp_in found ≡ board.stamp x.tree (2 * (x.node / 2) + 1) → kept (with_right y found)
  load_right trying h at now = loaded (with_right y found) refl trying
      (λ number u is same_tree same_parent old. told_right (λ w. u.held ≤ stamp_in w)
      (is_left u.node) found y.left y.right
      (λ odd. let here : u.node ≡ 2 * (x.node / 2) + 1 = right_child u.node odd
      ∙ ap (λ (n : ℕ). 2 * n + 1) same_parent in
      let held : u.held ≤ board.stamp x.tree (2 * (x.node / 2) + 1) =
      subst (λ (p : ℕ × ℕ). u.held ≤ board.stamp p.0 p.1)
      (λ i. (same_tree i, here i)) is.held in omega arith)
      (λ even. old))
      h at (λ try. record {
        reached = try.reached;
        left = try.left;
        right =
            loaded_now (2 * (x.node / 2) + 1) h at (omega arith) (omega arith) now try;
      })
