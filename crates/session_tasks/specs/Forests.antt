-- A forest for so many sessions, and its passes.
use Rattle.std.specs.Prelude.{◌≡◌, ℕ, []}
use Rattle.stamp_word.specs.Places.{IsLeast}
use Rattle.node_rule.specs.Standing.{Forested, plan_of}
use Rattle.f_array.specs.Passes.{PassValue, IsPassOf}

-- a forest of so many trees for so many sessions, of the least levels with a leaf for each
pub record IsForestFor (trees sessions quota : ℕ) (forest : Forested) : Type 0 where
  pub levels : ℕ
  pub least : IsLeast sessions levels
  pub plan : forest.plan ≡ plan_of levels trees sessions quota

-- a pass of the forest that made no call
pub record IsFresh (forest : Forested) (pass : PassValue) : Type 0 where
  pub of : IsPassOf forest pass
  pub idle : pass.track.calls ≡ []
