-- the sessions so far have posted nothing
use Rattle.std.proofs.Common.{◌≡◌, replicate}
use Rattle.std.specs.List.{AllByRecursion}
use Rattle.admit_core.specs.Admitted.{nothing}
use Rattle.tree_check.specs.Staying.{standing_values, IsLow}
use Rattle.tree_check.proofs.standing.new_standings.Given as goal

abbrev pub invariant-loop : goal.invariant-loop
invariant-loop l = (standing_values l.all.items ≡ replicate l.counter nothing)
    × AllByRecursion IsLow l.all.items
