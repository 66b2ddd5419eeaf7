-- What a pass is, and what its calls leave.
use Rattle.std.specs.Prelude.{◌≡◌, ℕ, zero, suc, ◌-◌, ◌≤◌, List, [], ◌∷◌, ◌++◌, length}
use mathlib.Core.Option.{some}
use lib.ListN.{get_elem?}
use Rattle.atomic_table.specs.Seated.{TableId}
use Rattle.risk_board.specs.declared.hand.Call.TheVariants.{Post, Read}
use Rattle.node_rule.specs.declared.view.View.{View}
use Rattle.node_rule.specs.declared.view.View.TheVariants.{Keeper, Session, Spent}
use Rattle.node_rule.specs.declared.view.Track.{Track}
use Rattle.node_rule.specs.declared.view.Install.{Install}
use Rattle.node_rule.specs.declared.view.Plan.{Plan}
use Rattle.node_rule.specs.Views.{called, new_track}
use Rattle.node_rule.specs.Standing.{Forested, Standing, Keeping}

-- the table of the pass's forest and its plan, what the session did, for how many calls there is
-- room, and how many steps it made on the table's words
pub record PassValue : Type 0 where
  pub table : TableId
  pub plan : Plan
  pub track : Track
  pub spare : ℕ
  pub steps : ℕ

-- what the session of a view did
abbrev pub track_of : View → Track
track_of (Keeper levels given joined) = new_track 0
track_of (Session levels track ascent) = track
track_of Spent = new_track 0

-- the pass of this climb
abbrev pub pass_of : Standing → PassValue
pass_of c = record {
  table = c.table;
  plan = c.plan;
  track = track_of c.view;
  spare = c.spare;
  steps = c.steps;
}

-- the keeper has given so many numbers, and no session is back
abbrev pub IsDealtUpTo : ℕ → Keeping → Type 0
IsDealtUpTo given keeper = (keeper.given ≡ given) × (keeper.joined ≡ [])

-- the keeper has given all numbers
abbrev pub IsAllGiven : Keeping → Type 0
IsAllGiven keeper = IsDealtUpTo keeper.plan.sessions keeper

-- the pass is of this forest
abbrev pub IsPassOf : Forested → PassValue → Type 0
IsPassOf forest pass = (pass.table ≡ forest.table) × (pass.plan ≡ forest.plan)

-- a pass of the same forest and number
abbrev pub IsSamePass : PassValue → PassValue → Type 0
IsSamePass old new =
    (new.table ≡ old.table) × (new.plan ≡ old.plan) × (new.track.number ≡ old.track.number)

-- a pass that has made no call and no step
abbrev pub new_pass : Forested → ℕ → PassValue
new_pass forest number = record {
  table = forest.table;
  plan = forest.plan;
  track = new_track number;
  spare = 0;
  steps = 0;
}

-- the first passes, by number
abbrev pub new_passes : Forested → ℕ → List PassValue
new_passes forest zero = []
new_passes forest (suc n) = new_passes forest n ++ new_pass forest n ∷ []

-- all but the room is as before
abbrev pub KeepsPass : PassValue → PassValue → Type 0
KeepsPass old new = new ≡ record old { spare = new.spare }

-- the track with more installs
abbrev pub with_installs : List Install → Track → Track
with_installs more track = record track { trail = track.trail ++ more }

-- the session has done this, by one call of those for which there was room; its steps are said
-- apart
abbrev pub HasDone : Track → PassValue → PassValue → Type 0
HasDone track old new =
    new ≡ record old { track = track; spare = old.spare - 1; steps = new.steps }

-- one post more, which won at most one exchange a level
abbrev pub HasPostAdded : ℕ → ℕ → PassValue → PassValue → Type 0
HasPostAdded tree value old new =
    (more : List Install) × (length more ≤ old.plan.levels)
    × HasDone (with_installs more (called old.track (Post tree value))) old new

-- one read more
abbrev pub HasReadAdded : ℕ → ℕ → ℕ → PassValue → PassValue → Type 0
HasReadAdded tree stamp value old new = HasDone (called old.track (Read tree stamp value)) old new

-- no earlier read of this root by the pass has a later stamp
abbrev pub IsLatestIn : ℕ → ℕ → PassValue → Type 0
IsLatestIn tree stamp pass =
    (k s v : ℕ) → get_elem? pass.track.calls k ≡ some (Read tree s v) → s ≤ stamp
