-- What one try, and a whole refresh, do to an ascent.
use Rattle.std.specs.Prelude.{◌≡◌, ℕ, ◌⊎◌, Some}
use Rattle.node_rule.specs.declared.view.View.TheVariants.{Session}
use Rattle.node_rule.specs.declared.view.Track.{Track}
use Rattle.node_rule.specs.declared.view.Install.{Install}
use Rattle.node_rule.specs.declared.view.Ascent.{Ascent}
use Rattle.node_rule.specs.Views.{installed, risen}
use Rattle.node_rule.specs.Steps.{ascent_lost, after_stage, left_stage, right_stage}
use Rattle.node_rule.specs.Standing.{Standing}

-- some words were loaded as the children, and the stage is the one with both
abbrev pub HasLoadedBoth : Standing → Standing → Type 0
HasLoadedBoth old new =
    (left right : ℕ)
    × (new.view ≡ after_stage (λ stage. right_stage (left_stage stage left) right) old.view)

-- one install more, and the ascent is at the parent
abbrev pub Wins : Standing → Standing → Type 0
Wins old new =
    (track : Track) × (x : Ascent) × (i : Install) × (stamp : ℕ)
    × (old.view ≡ Session old.plan.levels track (Some x))
    × (new.view ≡ Session old.plan.levels (installed track i) (risen x stamp))

-- no install more; after the first try the ascent may try again, after the second it is at the
-- parent
abbrev pub Loses : Standing → Standing → Type 0
Loses old new =
    (track : Track) × (x : Ascent) × (found : ℕ)
    × (old.view ≡ Session old.plan.levels track (Some x))
    × (new.view ≡ Session old.plan.levels track (ascent_lost x found x.stage))

-- the ascent is at the parent, with at most one install more
abbrev pub Rises : Standing → Standing → Type 0
Rises old new =
    (track : Track) × (x : Ascent) × (after : Track) × (stamp : ℕ)
    × (old.view ≡ Session old.plan.levels track (Some x))
    × (new.view ≡ Session old.plan.levels after (risen x stamp))
    × ((after ≡ track) ⊎ ((i : Install) × (after ≡ installed track i)))
