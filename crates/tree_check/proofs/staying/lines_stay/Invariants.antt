-- What is admitted stays within the limit up to this place, and how the sessions stand there.
use Rattle.std.proofs.Common.{◌≡◌, map, drop}
use Rattle.std.specs.List.{AllByRecursion}
use Rattle.tree_check.specs.Reads.{moments_by}
use Rattle.tree_check.specs.Staying.{stays_from, standing_values, IsLow}
use Rattle.tree_check.proofs.staying.lines_stay.Given as goal

abbrev pub invariant-loop-place : goal.invariant-loop-place
invariant-loop-place l =
    (stays_from l.limit (standing_values l.standings)
    (moments_by (drop l.place l.lines) (drop l.place (map (λ own. own.items) l.places)))
    ≡ stays_from l.limit (standing_values l.initial.standings)
    (moments_by l.lines (map (λ own. own.items) l.places)))
    × AllByRecursion IsLow l.standings
