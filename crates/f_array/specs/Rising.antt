-- An ascent from its leaf to the root.
use Rattle.std.specs.Prelude.{◌≡◌, ℕ, ◌≤◌, List, length, Option, Some, None}
use Rattle.node_rule.specs.declared.view.View.TheVariants.{Session}
use Rattle.node_rule.specs.declared.view.Stage.TheVariants.{Fresh}
use Rattle.node_rule.specs.declared.view.Track.{Track}
use Rattle.node_rule.specs.declared.view.Install.{Install}
use Rattle.node_rule.specs.declared.view.Ascent.{Ascent}
use Rattle.node_rule.specs.Standing.{Standing, KeepsSeat}
use Rattle.node_rule.specs.Views.{staged}
use Rattle.f_array.specs.Passes.{with_installs}

-- with nothing loaded for its parent, so many levels above its leaf; or no ascent
abbrev pub IsFreshAt : ℕ → Option Ascent → Type 0
IsFreshAt height None = Unit {0}
IsFreshAt height (Some x) = (x ≡ staged x Fresh) × (x.height ≡ height)

-- an ascent that has just begun, or none where the leaf is the root
abbrev pub IsBegun : Standing → Type 0
IsBegun c =
    (track : Track) × (ascent : Option Ascent) × (c.view ≡ Session c.plan.levels track ascent)
    × IsFreshAt 0 ascent

-- after so many levels
pub record IsUp (old : Standing) (height : ℕ) (new : Standing) : Type 0 where
  pub kept : KeepsSeat old new
  pub reached : height ≤ old.plan.levels
  pub track : Track
  pub before : Option Ascent
  pub was : old.view ≡ Session old.plan.levels track before
  pub more : List Install
  pub few : length more ≤ height
  pub ascent : Option Ascent
  pub now : new.view ≡ Session old.plan.levels (with_installs more track) ascent
  pub fresh : IsFreshAt height ascent

-- the ascent is at the root, with at most one install more for each level
abbrev pub HasRisen : Standing → Standing → Type 0
HasRisen old new =
    KeepsSeat old new
    × ((track : Track) × (ascent : Option Ascent) × (more : List Install)
    × (old.view ≡ Session old.plan.levels track ascent) × (length more ≤ old.plan.levels)
    × (new.view ≡ Session old.plan.levels (with_installs more track) None))
