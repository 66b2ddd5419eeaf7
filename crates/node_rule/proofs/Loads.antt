-- Loads of an ascent, and the loss of its first try, keep the stamp part.
use Rattle.std.proofs.Common.{◌≡◌, ◌≢◌, ℕ, ◌/◌, ◌<◌, ◌≤◌, Bool, true, false, List, set, Option, Some, None, refl, sym, subst, arith}
use mathlib.Core.Option.{some}
use lib.ListN.{get_elem?}
use Rattle.std.specs.Prelude.{IfSome}
use Rattle.stamp_word.specs.Word.{stamp_in}
use Rattle.node_rule.specs.declared.view.View.{View}
use Rattle.node_rule.specs.declared.view.View.TheVariants.{Session}
use Rattle.node_rule.specs.declared.view.Stage.{Stage}
use Rattle.node_rule.specs.declared.view.Stage.TheVariants.{Fresh, First, Lost, Second}
use Rattle.node_rule.specs.declared.view.Track.{Track}
use Rattle.node_rule.specs.declared.view.Try.{Try}
use Rattle.node_rule.specs.declared.view.Ascent.{Ascent}
use Rattle.node_rule.specs.declared.view.Plan.{Plan}
use Rattle.node_rule.specs.Views.{first_of, try_of, child_in, pick, is_left, staged, try_at}
use Rattle.node_rule.specs.Fronts.{Board, board_of}
use Rattle.node_rule.specs.StampPart.{IsTry, Refreshes, IsStamped}
use Rattle.node_rule.proofs.Stages.{stage_try, keeps_staged}

pub if_some : {A : Type 0} (P Q : A → Type 0) (o : Option A) → ((a : A) → P a → Q a) → IfSome o P
    → IfSome o Q
if_some P Q None f h = tt
if_some P Q (Some a) f h = f a h

pub if_all : {A : Type 0} (Q : A → Type 0) (o : Option A) → ((a : A) → Q a) → IfSome o Q
if_all Q None f = tt
if_all Q (Some a) f = f a

nothing_picked : (P : ℕ → Type 0) (b : Bool) → IfSome (pick b None None) P
nothing_picked P true = tt
nothing_picked P false = tt

-- a try that has loaded no child tells no ascent anything
unloaded : (y x : Ascent) (stage : Stage) (word : ℕ) → try_of stage ≡ Some (try_at word)
    → Refreshes y (staged x stage)
unloaded y x stage word e same_tree same_parent =
    if_all (λ s. IfSome (try_of stage) (λ z. s < stamp_in z.parent
    → IfSome (child_in z y.node) (λ w. y.held ≤ stamp_in w))) (first_of y.stage)
    (λ s. subst (λ (o : Option Try). IfSome o (λ z. s < stamp_in z.parent
    → IfSome (child_in z y.node) (λ w. y.held ≤ stamp_in w))) (sym e)
    (λ _. nothing_picked (λ w. y.held ≤ stamp_in w) (is_left y.node)))

module _ (plan : Plan) (words : List ℕ) (views : List View) (seat levels : ℕ) (track : Track)
    (x : Ascent) where
  abbrev board : Board
  board = board_of plan.levels words views

  abbrev seated : Stage → Type 0
  seated stage = get_elem? views seat ≡ some (Session levels track (Some (staged x stage)))

  abbrev kept : Stage → Type 0
  kept stage = IsStamped plan words (set views seat (Session levels track (Some (staged x stage))))

  parent_try : (word : ℕ) → stamp_in word ≡ board.stamp x.tree (x.node / 2)
      → IsTry plan board x.tree x.node x.held (try_at word)
  parent_try word now = record {
    reached = let s = stamp_in word in
        omega arith;
    left = tt;
    right = tt;
  }

  -- the first load of the parent
  pub first_load : (word : ℕ) → IsStamped plan words views → seated Fresh
      → stamp_in word ≡ board.stamp x.tree (x.node / 2) → kept (First (try_at word))
  first_load word h at now =
      keeps_staged plan words views seat levels track (staged x Fresh) (First (try_at word)) h at
      (parent_try word now)
      (λ stamp late reached. absurd (omega arith))
      (λ number y is _ same_tree same_parent. if_some (IsTry plan board y.tree y.node y.held)
      (λ z. stamp_in word < stamp_in z.parent
      → IfSome (child_in z x.node) (λ w. x.held ≤ stamp_in w)) (try_of y.stage)
      (λ z try later. let reached : stamp_in z.parent ≤ board.stamp x.tree (x.node / 2) =
      subst (λ (p : ℕ × ℕ). stamp_in z.parent ≤ board.stamp p.0 p.1)
      (λ i. (sym same_tree i, sym same_parent i)) try.reached in absurd (omega arith))
      (stage_try plan board y.tree y.node y.held y.stage is.stage))
      (λ number y is _. unloaded y (staged x Fresh) (First (try_at word)) word refl)
      (λ _. unloaded (staged x (First (try_at word))) (staged x Fresh)
      (First (try_at word)) word refl)

  -- the second load of the parent
  pub second_load : (first word : ℕ) → IsStamped plan words views → seated (Lost first)
      → stamp_in word ≡ board.stamp x.tree (x.node / 2) → kept (Second first (try_at word))
  second_load first word h at now =
      let mine = (h.each seat (Session levels track
      (Some (staged x (Lost first)))) at).1.present.ascends in
      keeps_staged plan words views seat levels track (staged x (Lost first))
      (Second first (try_at word)) h at (
        (let above : first < board.stamp x.tree (x.node / 2) = mine.stage in omega arith),
        parent_try word now,
      )
      mine.refreshed
      (λ number y is old. old)
      (λ number y is _. unloaded y (staged x (Lost first)) (Second first (try_at word)) word refl)
      (λ _. unloaded (staged x (Second first (try_at word))) (staged x (Lost first))
      (Second first (try_at word)) word refl)

  -- the first try lost: the parent has another stamp than the one that was loaded
  pub first_lost : (y : Try) → IsStamped plan words views → seated (First y)
      → stamp_in y.parent ≢ board.stamp x.tree (x.node / 2) → kept (Lost (stamp_in y.parent))
  first_lost y h at changed =
      let mine = (h.each seat (Session levels track
      (Some (staged x (First y)))) at).1.present.ascends in
      keeps_staged plan words views seat levels track (staged x (First y))
      (Lost (stamp_in y.parent)) h at
      (let reached : stamp_in y.parent ≤ board.stamp x.tree (x.node / 2) = mine.stage.reached in
      omega arith)
      mine.refreshed
      (λ number z is old. old)
      (λ number z is _ same_tree same_parent. if_all (λ s. Unit {0}) (first_of z.stage) (λ s. tt))
      (λ _ same_tree same_parent. tt)
