-- What an ascent tells of its own view.
use Rattle.std.specs.Prelude.{ℕ, ◌<◌, ◌≤◌, Option, Some, None}
use Rattle.node_rule.specs.declared.view.View.{View}
use Rattle.node_rule.specs.declared.view.View.TheVariants.{Keeper, Session, Spent}
use Rattle.node_rule.specs.declared.view.Ascent.{Ascent}
use Rattle.node_rule.specs.declared.view.Plan.{Plan}
use Rattle.node_rule.specs.Sums.{posts_in}

-- a session's number
abbrev pub number_in : View → ℕ
number_in (Keeper levels given joined) = 0
number_in (Session levels track ascent) = track.number
number_in Spent = 0

-- how many posts a session made in the tree
abbrev pub posts_by : ℕ → View → ℕ
posts_by tree (Keeper levels given joined) = 0
posts_by tree (Session levels track ascent) = posts_in tree track
posts_by tree Spent = 0

-- the node of an ascent on its way; with none, the root
abbrev pub node_in : Option Ascent → ℕ
node_in None = 1
node_in (Some x) = x.node

-- an ascent on its way stands at a node below the root
abbrev pub IsBelowRoot : Plan → Ascent → Type 0
IsBelowRoot plan x = (2 ≤ x.node) × (x.height < plan.levels)
