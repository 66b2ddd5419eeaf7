-- How sessions stand, as they are kept.
use Rattle.std.proofs.Common.{◌≡◌, ℕ, List, set, get_or, sym, ap, ◌∙◌}
use Rattle.std.proofs.Math.ListN.{get_or-map}
use Rattle.std.proofs.lemmas.List.{map-set}
use Rattle.admit_core.specs.Admitted.{standing_at}
use Rattle.admit_core.specs.Admitted.{Standing as OwnStanding}
use Rattle.tree_check.specs.declared.standing.Standing.{Standing}
use Rattle.tree_check.specs.Staying.{standing_value, standing_values}

-- a session that stands nowhere
abbrev pub none : Standing
none = record { posted = 0; admitted = 0 }

-- a session's standing is the one that is kept in its place
kept_at : (old : List Standing) (session : ℕ)
    → standing_at session (standing_values old) ≡ standing_value (get_or old session none)
kept_at old session = get_or-map standing_value old session none

-- one standing was changed
pub changed_at : (f : OwnStanding → OwnStanding) (old : List Standing) (session : ℕ)
    (now : Standing) → standing_value now ≡ f (standing_value (get_or old session none))
    → standing_values (set old session now)
    ≡ set (standing_values old) session (f (standing_at session (standing_values old)))
changed_at f old session now changed =
    map-set standing_value old session now
    ∙ ap (set (standing_values old) session) (changed ∙ ap f (sym (kept_at old session)))
