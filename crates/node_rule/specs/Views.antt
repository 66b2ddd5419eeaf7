-- The parts of a view.
use Rattle.std.specs.Prelude.{◌≡◌, ℕ, suc, ◌/◌, ◌%◌, Bool, true, false, ◌==◌, List, [], ◌∷◌, ◌++◌, Option, Some, None}
use Rattle.stamp_word.specs.Word.{stamp_in}
use Rattle.node_rule.specs.declared.view.View.{View}
use Rattle.node_rule.specs.declared.view.View.TheVariants.{Keeper, Session, Spent}
use Rattle.node_rule.specs.declared.view.Stage.{Stage}
use Rattle.node_rule.specs.declared.view.Stage.TheVariants.{Fresh, First, Lost, Second}
use Rattle.node_rule.specs.declared.view.Track.{Track}
use Rattle.node_rule.specs.declared.view.Try.{Try}
use Rattle.risk_board.specs.declared.hand.Call.{Call}
use Rattle.node_rule.specs.declared.view.Install.{Install}
use Rattle.node_rule.specs.declared.view.Ascent.{Ascent}

-- what the sessions of a view did
abbrev pub tracks_of : View → List Track
tracks_of (Keeper levels given joined) = joined
tracks_of (Session levels track ascent) = track ∷ []
tracks_of Spent = []

-- the ascent that a view has in hand
abbrev pub ascent_of : View → Option Ascent
ascent_of (Keeper levels given joined) = None
ascent_of (Session levels track ascent) = ascent
ascent_of Spent = None

-- the keeper's count of the numbers given
abbrev pub given_of : View → ℕ
given_of (Keeper levels given joined) = given
given_of (Session levels track ascent) = 0
given_of Spent = 0

-- 1 for the keeper's view
abbrev pub keepers_of : View → ℕ
keepers_of (Keeper levels given joined) = 1
keepers_of (Session levels track ascent) = 0
keepers_of Spent = 0

-- the stamp of the first load of the parent
abbrev pub first_of : Stage → Option ℕ
first_of Fresh = None
first_of (First y) = Some (stamp_in y.parent)
first_of (Lost s) = Some s
first_of (Second s y) = Some s

-- the try in hand
abbrev pub try_of : Stage → Option Try
try_of Fresh = None
try_of (First y) = Some y
try_of (Lost s) = None
try_of (Second s y) = Some y

-- the first where this holds, else the second
abbrev pub pick : {A : Type 0} → Bool → A → A → A
pick true a b = a
pick false a b = b

-- an even node is a left child
abbrev pub is_left : ℕ → Bool
is_left child = child % 2 == 0

-- the word of this child, where the try has loaded it
abbrev pub child_in : Try → ℕ → Option ℕ
child_in y child = pick (is_left child) y.left y.right

-- no ascent in hand in this tree
abbrev pub IsIdleIn : ℕ → Option Ascent → Type 0
IsIdleIn tree None = Unit {0}
IsIdleIn tree (Some x) = x.tree ≡ tree → ⊥

-- the ascent, so far
abbrev pub staged : Ascent → Stage → Ascent
staged x stage = record x { stage = stage }

-- a try with its parent loaded alone
abbrev pub try_at : ℕ → Try
try_at word = record { parent = word; left = None; right = None }

-- the same with the left child loaded
abbrev pub with_left : Try → ℕ → Try
with_left y word = record y { left = Some word }

-- the same with the right child loaded
abbrev pub with_right : Try → ℕ → Try
with_right y word = record y { right = Some word }

-- the ascent at the parent, with what it holds of it
abbrev pub moved : Ascent → ℕ → Ascent
moved x stamp = record {
  tree = x.tree;
  node = x.node / 2;
  height = suc x.height;
  held = stamp;
  stage = Fresh;
}

-- an ascent ends at the root
abbrev pub risen : Ascent → ℕ → Option Ascent
risen x stamp = pick (x.node / 2 == 1) None (Some (moved x stamp))

-- a track with one more call
abbrev pub called : Track → Call → Track
called track call = record track { calls = track.calls ++ call ∷ [] }

-- a track with one more install
abbrev pub installed : Track → Install → Track
installed track x = record track { trail = track.trail ++ x ∷ [] }

-- the ascent of a post at its leaf; with no level above it, there is none
abbrev pub started : ℕ → ℕ → ℕ → ℕ → Option Ascent
started levels tree leaf stamp = pick (levels == 0) None
    (Some (record { tree = tree; node = leaf; height = 0; held = stamp; stage = Fresh }))

-- a session's view at first
abbrev pub new_track : ℕ → Track
new_track number = record { number = number; calls = []; trail = [] }
