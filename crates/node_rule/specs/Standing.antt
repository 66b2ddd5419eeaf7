-- What contracts see of the words and of a climb, and what each call leaves.
use Rattle.std.specs.Prelude.{◌≡◌, ◌≢◌, ℕ, suc, ◌+◌, ◌-◌, ◌*◌, ◌^◌, ◌<◌, ◌≤◌, List, [], ◌∷◌, ◌++◌, Option, Some, None, IfSome, length, slice_index}
use mathlib.Core.Option.{some}
use lib.ListN.{get_elem?}
use Rattle.atomic_table.specs.Seated.{TableId}
use Rattle.fold_law.specs.declared.limits.TheConstants.{SESSIONS, QUOTA}
use Rattle.stamp_word.specs.Word.{stamp_in, value_in}
use Rattle.stamp_word.specs.Places.{leaf_of}
use Rattle.risk_board.specs.declared.hand.Call.{Call}
use Rattle.risk_board.specs.declared.hand.Call.TheVariants.{Post, Read}
use Rattle.node_rule.specs.declared.view.View.{View}
use Rattle.node_rule.specs.declared.view.View.TheVariants.{Keeper, Session, Spent}
use Rattle.node_rule.specs.declared.view.Track.{Track}
use Rattle.node_rule.specs.declared.view.Try.{Try}
use Rattle.node_rule.specs.declared.view.Stage.{Stage}
use Rattle.node_rule.specs.declared.view.Stage.TheVariants.{Fresh, Lost}
use Rattle.node_rule.specs.declared.view.Install.{Install}
use Rattle.node_rule.specs.declared.view.Ascent.{Ascent}
use Rattle.node_rule.specs.declared.view.Plan.{Plan}
use Rattle.node_rule.specs.Views.{try_of, staged, called, started, new_track}
use Rattle.node_rule.specs.Sums.{posted, posts_in}
use Rattle.node_rule.specs.Fronts.{ancestor}
use Rattle.node_rule.specs.StampPart.{IsPlan}
use Rattle.node_rule.specs.Steps.{after_stage, after_loss}

-- the words of the trees: their table, and the plan of the rule
pub record Forested : Type 0 where
  pub table : TableId
  pub plan : Plan

-- a climb, which is a session's seat with its lists: its table, the plan, its view, for how many
-- calls there is room, and how many steps it made on the table's words
pub record Standing : Type 0 where
  pub table : TableId
  pub plan : Plan
  pub view : View
  pub spare : ℕ
  pub steps : ℕ

-- the keeper's seat: its table, the plan, how many numbers it gave, what the joined sessions did,
-- and how many steps it made on the table's words
pub record Keeping : Type 0 where
  pub table : TableId
  pub plan : Plan
  pub given : ℕ
  pub joined : List Track
  pub steps : ℕ

-- the plan of so many sessions and posts over trees of this shape
abbrev pub plan_of : ℕ → ℕ → ℕ → ℕ → Plan
plan_of levels trees sessions quota =
    record { levels = levels; trees = trees; sessions = sessions; quota = quota }

-- the climb is of these words
abbrev pub IsOf : Forested → Standing → Type 0
IsOf words climb = (climb.table ≡ words.table) × (climb.plan ≡ words.plan)

-- the keeper's seat is of these words
abbrev pub IsKeeperOf : Forested → Keeping → Type 0
IsKeeperOf words keeper = (keeper.table ≡ words.table) × (keeper.plan ≡ words.plan)

-- the same table and plan
abbrev pub KeepsTable : Standing → Standing → Type 0
KeepsTable old new = (new.table ≡ old.table) × (new.plan ≡ old.plan)

-- all is as before but the view and the steps
abbrev pub KeepsSeat : Standing → Standing → Type 0
KeepsSeat old new =
    (new.table ≡ old.table) × (new.plan ≡ old.plan) × (new.spare ≡ old.spare)

-- where a climb stands

-- a session between two posts
abbrev pub IsIdle : Standing → Type 0
IsIdle c = (track : Track) × (c.view ≡ Session c.plan.levels track None)

-- a session between two posts, that may post once more in the tree
abbrev pub HasPostLeft : ℕ → Standing → Type 0
HasPostLeft tree c =
    (track : Track) × (c.view ≡ Session c.plan.levels track None)
    × (posts_in tree track < c.plan.quota)

-- a session with this ascent in hand
abbrev pub IsAt : Standing → Ascent → Type 0
IsAt c x = (track : Track) × (c.view ≡ Session c.plan.levels track (Some x))

-- a session with an ascent in hand
abbrev pub HasAscent : Standing → Type 0
HasAscent c = (x : Ascent) × IsAt c x

-- an ascent that has loaded nothing yet for its parent
abbrev pub IsFresh : Standing → Type 0
IsFresh c = (x : Ascent) × IsAt c (staged x Fresh)

-- an ascent whose first try lost
abbrev pub HasLostOnce : Standing → Type 0
HasLostOnce c = (x : Ascent) × (first : ℕ) × IsAt c (staged x (Lost first))

-- an ascent with no try in hand: it has loaded nothing yet, or lost its first try
abbrev pub AwaitsParent : Standing → Type 0
AwaitsParent c = (x : Ascent) × IsAt c x × (try_of x.stage ≡ None)

-- an ascent that has loaded the parent for a try
abbrev pub HasTry : Standing → Type 0
HasTry c = (x : Ascent) × IsAt c x × ((y : Try) × (try_of x.stage ≡ Some y))

-- all words of the try were loaded
abbrev pub IsFull : Stage → Type 0
IsFull stage =
    (parent : ℕ) × (left : ℕ) × (right : ℕ)
    × (try_of stage ≡ Some (record { parent = parent; left = Some left; right = Some right }))

-- an ascent that has loaded the parent and both its children for a try
abbrev pub HasFullTry : Standing → Type 0
HasFullTry c = (x : Ascent) × IsAt c x × IsFull x.stage

-- what a call leaves

-- some word was loaded, and the stage is the next one with it
abbrev pub HasLoaded : (Stage → ℕ → Stage) → Standing → Standing → Type 0
HasLoaded next old new =
    (found : ℕ) × (new.view ≡ after_stage (λ stage. next stage found) old.view)

-- the word isn't the one that the try in hand loaded of its parent
abbrev pub IsOther : ℕ → View → Type 0
IsOther found (Session levels track None) = ⊥
IsOther found (Session levels track (Some x)) = IfSome (try_of x.stage) (λ y. found ≢ y.parent)
IsOther found (Keeper levels given joined) = ⊥
IsOther found Spent = ⊥

-- another word was found at the parent, and the view is that after a lost exchange
abbrev pub HasLost : Standing → Standing → Type 0
HasLost old new =
    (found : ℕ) × (new.view ≡ after_loss found old.view) × IsOther found old.view

-- the session has one post more, and its ascent begins at its leaf
abbrev pub HasPosted : ℕ → ℕ → Standing → Standing → Type 0
HasPosted tree value old new =
    (track : Track) × (old.view ≡ Session old.plan.levels track None)
    × (new.view ≡ Session old.plan.levels (called track (Post tree value))
    (started old.plan.levels tree (leaf_of old.plan.levels track.number)
    (suc (posts_in tree track))))

-- the session has one read more
abbrev pub HasRead : ℕ → ℕ → ℕ → Standing → Standing → Type 0
HasRead tree stamp value old new =
    (track : Track) × (old.view ≡ Session old.plan.levels track None)
    × (new.view ≡ Session old.plan.levels (called track (Read tree stamp value)) None)

-- no read of this root that the session made before has a later stamp
abbrev pub IsLatestRead : ℕ → ℕ → Standing → Type 0
IsLatestRead tree stamp old =
    (track : Track) × (old.view ≡ Session old.plan.levels track None)
    × ((k s v : ℕ) → get_elem? track.calls k ≡ some (Read tree s v) → s ≤ stamp)

-- the seat of a new table's keeper, which gave no number and made no step
abbrev pub IsNewKeeper : Forested → Keeping → Type 0
IsNewKeeper words keeper =
    IsKeeperOf words keeper × (keeper.given ≡ 0) × (keeper.joined ≡ []) × (keeper.steps ≡ 0)

-- the keeper gave one number more; its steps are said apart
abbrev pub GivesOne : Keeping → Keeping → Type 0
GivesOne old new = new ≡ record old { given = old.given + 1; steps = new.steps }

-- the climb of the session that got it, which has done nothing and made no step
abbrev pub IsDealt : Keeping → Standing → Type 0
IsDealt keeper new =
    (new.table ≡ keeper.table) × (new.plan ≡ keeper.plan)
    × (new.view ≡ Session new.plan.levels (new_track keeper.given) None) × (new.spare ≡ 0)
    × (new.steps ≡ 0)

-- the keeper has what a session between two posts did; its steps are said apart
abbrev pub TakesBack : Keeping → Standing → Keeping → Type 0
TakesBack old done new =
    (track : Track) × (done.view ≡ Session done.plan.levels track None)
    × (new ≡ record old { joined = old.joined ++ track ∷ []; steps = new.steps })

-- the calls and the installs of a session between two posts
abbrev pub AreListsOf : Standing → List Call → List Install → Type 0
AreListsOf done calls trail =
    (track : Track) × (done.view ≡ Session done.plan.levels track None) × (calls ≡ track.calls)
    × (trail ≡ track.trail)

-- what a climb knows of itself

-- an ascent on its way stands at a node of a tree, below the root
pub record IsStanding (plan : Plan) (x : Ascent) : Type 0 where
  pub tree : x.tree < plan.trees
  pub low : 2 ≤ x.node
  pub high : x.node < 2 * 2 ^ plan.levels

-- the words of a try, within the bounds of a word
pub record IsBounded (under : ℕ → ℕ → Type 0) (height : ℕ) (y : Try) : Type 0 where
  pub parent : stamp_in y.parent ≤ QUOTA * SESSIONS
  pub left : IfSome y.left (λ word. under (2 ^ height) (value_in word))
  pub right : IfSome y.right (λ word. under (2 ^ height) (value_in word))

-- an ascent on its way
pub record IsOnWay (under : ℕ → ℕ → Type 0) (plan : Plan) (number : ℕ) (x : Ascent)
    : Type 0 where
  pub number_in : number < plan.sessions
  pub tree : x.tree < plan.trees
  pub height : x.height < plan.levels
  pub node : x.node ≡ ancestor (leaf_of plan.levels number) x.height
  pub bounded : IfSome (try_of x.stage) (IsBounded under x.height)

-- what the fields of a climb are to its view
pub record IsSound (under : ℕ → ℕ → Type 0) (plan : Plan) (number : ℕ) (calls : List Call)
    (trail : List Install) (ascent : Option Ascent) (view : View) : Type 0 where
  pub planned : IsPlan plan
  pub number_in : number < plan.sessions
  pub own : view
      ≡ Session plan.levels (record { number = number; calls = calls; trail = trail }) ascent
  pub on_way : IfSome ascent (IsOnWay under plan number)

-- how many installs an ascent may still win
abbrev pub levels_left : ℕ → Option Ascent → ℕ
levels_left levels None = 0
levels_left levels (Some x) = levels - x.height

-- room for the calls that are spare, with the installs that they and the ascent in hand may win
pub record HasRoom (levels spare made call_room won install_room : ℕ) (ascent : Option Ascent)
    : Type 0 where
  pub calls : made + spare ≤ call_room
  pub installs : won + levels * spare + levels_left levels ascent ≤ install_room

-- a session counts its posts in each tree
abbrev pub AreCounted : Plan → List Call → List ℕ → Type 0
AreCounted plan calls counts =
    (length counts ≡ plan.trees)
    × ((tree : ℕ) → tree < plan.trees → slice_index counts tree ≡ length (posted tree calls))
