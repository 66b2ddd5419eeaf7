-- Posting lower values, where a post is left.
use Rattle.std.specs.Prelude.{ℕ, List, [], ◌∷◌, Bool, true, false, ◌==◌, ◌&&◌, nat_le}
use Rattle.std.specs.Prelude.{if◌then◌else◌}
use Rattle.limit_table.specs.Trees.{LimitsValue}
use Rattle.risk_journal.specs.declared.acts.Act.{Act}
use Rattle.risk_journal.specs.ActLists.{posts_in, last_post}
use Rattle.admit_core.specs.Legs.{Leg}
use Rattle.admit_core.specs.Tapes.{with_post}

-- whether every value that differs was posted, and the acts by then
pub record Lowered : Type 0 where
  pub done : Bool
  pub acts : List Act

-- a new value is posted in a tree where it differs from the old one and so many posts leave one
abbrev pub posted_lower : ℕ → ℕ → ℕ → ℕ → List Act → Lowered
posted_lower quota tree old new acts =
    if new == old then record { done = true; acts = acts }
    else (if nat_le quota (posts_in tree acts) then record { done = false; acts = acts }
    else record { done = true; acts = with_post tree new acts })

-- the same where the old value is the one last posted
abbrev pub lowered_to : ℕ → ℕ → ℕ → List Act → Lowered
lowered_to quota tree value acts = posted_lower quota tree (last_post tree acts) value acts

-- the value of one leg is posted where it differs and a post is left
abbrev pub lowered_in : LimitsValue → Leg → List Act → Lowered
lowered_in limits leg acts = posted_lower limits.quota leg.tree leg.old leg.new acts

-- the same in each of these trees, in order
abbrev pub lowering : LimitsValue → List Leg → List Act → Lowered
lowering limits [] acts = record { done = true; acts = acts }
lowering limits (leg ∷ legs) acts =
    let one = lowered_in limits leg acts in
    let others = lowering limits legs one.acts in
    record { done = one.done && others.done; acts = others.acts }
