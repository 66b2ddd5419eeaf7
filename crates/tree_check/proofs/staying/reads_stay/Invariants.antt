-- the reads so far
use Rattle.std.specs.List.{AllByRecursion}
use Rattle.tree_check.specs.Staying.{standing_values, IsLow}
use Rattle.tree_check.proofs.Stays.{IsReadTo}
use Rattle.tree_check.proofs.staying.reads_stay.Given as goal

abbrev pub invariant-loop-read : goal.invariant-loop-read
invariant-loop-read l =
    IsReadTo l.limit (standing_values l.initial.standings) (standing_values l.standings) l.reads
    l.read-index
    × AllByRecursion IsLow l.standings
