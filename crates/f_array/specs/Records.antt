-- What a closed forest gives.
use Rattle.std.specs.Prelude.{◌≡◌, ℕ, List, map, length}
use mathlib.Core.Option.{some}
use lib.ListN.{get_elem?}
use Rattle.stamp_word.specs.declared.shape.Shape.{Shape}
use Rattle.risk_board.specs.declared.hand.Call.{Call}
use Rattle.node_rule.specs.declared.view.View.{View}
use Rattle.node_rule.specs.declared.view.View.TheVariants.{Keeper}
use Rattle.node_rule.specs.declared.view.Install.{Install}
use Rattle.node_rule.specs.declared.view.Plan.{Plan}
use Rattle.node_rule.specs.Standing.{Forested, Keeping}
use Rattle.f_array.specs.Passes.{PassValue, IsPassOf}

-- the calls of a pass, and the installs that it won
pub record Did : Type 0 where
  pub calls : List Call
  pub trail : List Install

-- what a pass did
abbrev pub did_of : PassValue → Did
did_of pass = record { calls = pass.track.calls; trail = pass.track.trail }

-- the passes are all those of the forest, in order of number
pub record AreAllOf (forest : Forested) (passes : List PassValue) : Type 0 where
  pub all : length passes ≡ forest.plan.sessions
  pub each : (number : ℕ) (pass : PassValue) → get_elem? passes number ≡ some pass
      → IsPassOf forest pass × (pass.track.number ≡ number)

-- the shape of the plan's trees
abbrev pub IsShapeOf : Plan → Shape → Type 0
IsShapeOf plan shape = (shape.levels ≡ plan.levels) × (shape.trees ≡ plan.trees)

-- the keeper, which gave so many numbers, has back the sessions of these passes
abbrev pub HasTakenBack : ℕ → List PassValue → Keeping → Type 0
HasTakenBack given passes keeper =
    (keeper.given ≡ given) × (keeper.joined ≡ map (λ pass. pass.track) passes)

-- the keeper's view once it has all sessions of these passes back
abbrev pub final_view : Plan → List PassValue → View
final_view plan passes = Keeper plan.levels plan.sessions (map (λ pass. pass.track) passes)
