-- What each kind of step leaves in the view of its caller, and what it tells.
use Rattle.std.specs.Prelude.{◌≡◌, ◌≢◌, ℕ, suc, ◌*◌, ◌/◌, ◌^◌, ◌≤◌, [], ◌∷◌, ◌++◌, Option, Some, None, unwrap_or}
use mathlib.Core.Option.{some}
use lib.ListN.{get_elem?}
use Rattle.atomic_table.specs.Table.{Me, Step}
use Rattle.fold_law.specs.declared.limits.TheConstants.{SESSIONS, QUOTA}
use Rattle.stamp_word.specs.Word.{stamp_in, value_in}
use Rattle.stamp_word.specs.Places.{leaf_of}
use Rattle.node_rule.specs.declared.view.View.{View}
use Rattle.node_rule.specs.declared.view.View.TheVariants.{Keeper, Session, Spent}
use Rattle.node_rule.specs.declared.view.Stage.{Stage}
use Rattle.node_rule.specs.declared.view.Stage.TheVariants.{Fresh, First, Lost, Second}
use Rattle.node_rule.specs.declared.view.Track.{Track}
use Rattle.node_rule.specs.declared.view.Try.{Try}
use Rattle.node_rule.specs.declared.view.Install.{Install}
use Rattle.node_rule.specs.declared.view.Ascent.{Ascent}
use Rattle.risk_board.specs.declared.hand.Call.TheVariants.{Post, Read}
use Rattle.node_rule.specs.Views.{staged, try_at, with_left, with_right, risen, called, installed, started, new_track}

-- what a seat knows; it holds no slot
abbrev pub Mine : Type 0
Mine = Me (Unit {0}) View

-- the tree of a word's place
abbrev pub tree_of : ℕ → ℕ → ℕ
tree_of levels place = place / (2 * 2 ^ levels)

-- a post is stored in the leaf
abbrev pub after_store : ℕ → ℕ → View → View
after_store place word (Session levels track ascent) =
    Session levels (called track (Post (tree_of levels place) (value_in word)))
    (started levels (tree_of levels place) (leaf_of levels track.number) (stamp_in word))
after_store place word (Keeper levels given joined) = Keeper levels given joined
after_store place word Spent = Spent

-- with the parent loaded, for the first try or the second
abbrev pub parent_stage : Stage → ℕ → Stage
parent_stage Fresh word = First (try_at word)
parent_stage (First y) word = First y
parent_stage (Lost s) word = Second s (try_at word)
parent_stage (Second s y) word = Second s y

-- with the left child loaded
abbrev pub left_stage : Stage → ℕ → Stage
left_stage Fresh word = Fresh
left_stage (First y) word = First (with_left y word)
left_stage (Lost s) word = Lost s
left_stage (Second s y) word = Second s (with_left y word)

-- with the right child loaded
abbrev pub right_stage : Stage → ℕ → Stage
right_stage Fresh word = Fresh
right_stage (First y) word = First (with_right y word)
right_stage (Lost s) word = Lost s
right_stage (Second s y) word = Second s (with_right y word)

-- the ascent's stage becomes this
abbrev pub after_stage : (Stage → Stage) → View → View
after_stage f (Session levels track None) = Session levels track None
after_stage f (Session levels track (Some x)) = Session levels track (Some (staged x (f x.stage)))
after_stage f (Keeper levels given joined) = Keeper levels given joined
after_stage f Spent = Spent

-- the stamp of a word that was loaded
abbrev pub stamp_or : Option ℕ → ℕ
stamp_or word = stamp_in (unwrap_or word 0)

-- the install of a try that won
abbrev pub install_of : Ascent → Try → Install
install_of x y = record {
  tree = x.tree;
  node = x.node / 2;
  stamp = suc (stamp_in y.parent);
  left =
      stamp_or y.left;
  right = stamp_or y.right;
}

-- the view after a won exchange, by the stage of the ascent
abbrev pub win : ℕ → Track → Ascent → Stage → View
win levels track x Fresh = Session levels track (Some x)
win levels track x (First y) = Session levels (installed track (install_of x y))
    (risen x (suc (stamp_in y.parent)))
win levels track x (Lost s) = Session levels track (Some x)
win levels track x (Second s y) = Session levels (installed track (install_of x y))
    (risen x (suc (stamp_in y.parent)))

-- the view after a won exchange
abbrev pub after_win : View → View
after_win (Session levels track None) = Session levels track None
after_win (Session levels track (Some x)) = win levels track x x.stage
after_win (Keeper levels given joined) = Keeper levels given joined
after_win Spent = Spent

-- after the first loss the ascent tries again, after the second it rises to the word that was found
abbrev pub ascent_lost : Ascent → ℕ → Stage → Option Ascent
ascent_lost x found Fresh = Some x
ascent_lost x found (First y) = Some (staged x (Lost (stamp_in y.parent)))
ascent_lost x found (Lost s) = Some x
ascent_lost x found (Second s y) = risen x (stamp_in found)

-- the view after a lost exchange that found this word
abbrev pub after_loss : ℕ → View → View
after_loss found (Session levels track None) = Session levels track None
after_loss found (Session levels track (Some x)) =
    Session levels track (ascent_lost x found x.stage)
after_loss found (Keeper levels given joined) = Keeper levels given joined
after_loss found Spent = Spent

-- the view after a read of the root that found this word
abbrev pub after_read : ℕ → ℕ → View → View
after_read place word (Session levels track ascent) =
    Session levels (called track (Read (tree_of levels place) (stamp_in word) (value_in word)))
    ascent
after_read place word (Keeper levels given joined) = Keeper levels given joined
after_read place word Spent = Spent

-- the height of the node that an ascent has come to
abbrev pub height_of : View → ℕ
height_of (Session levels track None) = 0
height_of (Session levels track (Some x)) = x.height
height_of (Keeper levels given joined) = 0
height_of Spent = 0

-- the keeper gave the next number
abbrev pub keeper_after_split : View → View
keeper_after_split (Keeper levels given joined) = Keeper levels (suc given) joined
keeper_after_split (Session levels track ascent) = Session levels track ascent
keeper_after_split Spent = Spent

-- the session that got it has done nothing
abbrev pub session_after_split : View → View
session_after_split (Keeper levels given joined) = Session levels (new_track given) None
session_after_split (Session levels track ascent) = Spent
session_after_split Spent = Spent

-- the keeper has what the joined session did
abbrev pub keeper_after_join : View → View → View
keeper_after_join (Keeper levels given joined) (Session l track ascent) =
    Keeper levels given (joined ++ track ∷ [])
keeper_after_join (Keeper levels given joined) (Keeper l g j) = Keeper levels given joined
keeper_after_join (Keeper levels given joined) Spent = Keeper levels given joined
keeper_after_join (Session levels track ascent) w = Session levels track ascent
keeper_after_join Spent w = Spent

-- a store tells the view after it
abbrev pub Stores : Step (Unit {0}) → Mine → ℕ → Mine → Type 0
Stores step me found after = after ≡ (after_store step.word step.first me.0, me.1)

-- a stamp has room above it: it is at most what all sessions may post in a tree
abbrev pub LoadsParent : Step (Unit {0}) → Mine → ℕ → Mine → Type 0
LoadsParent step me found after =
    (after ≡ (after_stage (λ stage. parent_stage stage found) me.0, me.1))
    × (stamp_in found ≤ QUOTA * SESSIONS)

-- a child's value can be the join of as many leaves as there are below it
abbrev pub LoadsLeft : (ℕ → ℕ → Type 0) → Step (Unit {0}) → Mine → ℕ → Mine → Type 0
LoadsLeft under step me found after =
    (after ≡ (after_stage (λ stage. left_stage stage found) me.0, me.1))
    × under (2 ^ height_of me.0) (value_in found)

-- the same of the right child
abbrev pub LoadsRight : (ℕ → ℕ → Type 0) → Step (Unit {0}) → Mine → ℕ → Mine → Type 0
LoadsRight under step me found after =
    (after ≡ (after_stage (λ stage. right_stage stage found) me.0, me.1))
    × under (2 ^ height_of me.0) (value_in found)

-- an exchange won where it found the word that was to be exchanged, and else lost
abbrev pub Exchanges : Step (Unit {0}) → Mine → ℕ → Mine → Type 0
Exchanges step me found after = (found ≡ step.first → after ≡ (after_win me.0, me.1))
    × (found ≢ step.first → after ≡ (after_loss found me.0, me.1))

-- the session has read no later stamp of this root
abbrev pub IsLatest : View → ℕ → ℕ → Type 0
IsLatest (Session levels track ascent) place stamp = (k s v : ℕ)
    → get_elem? track.calls k ≡ some (Read (tree_of levels place) s v) → s ≤ stamp
IsLatest (Keeper levels given joined) place stamp = Unit {0}
IsLatest Spent place stamp = Unit {0}

-- a read tells the view after it, and that no earlier one saw a later stamp
abbrev pub Reads : Step (Unit {0}) → Mine → ℕ → Mine → Type 0
Reads step me found after = (after ≡ (after_read step.word found me.0, me.1))
    × IsLatest me.0 step.word (stamp_in found)
