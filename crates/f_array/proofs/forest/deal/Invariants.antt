use Rattle.std.proofs.Common.{◌≡◌}
use Rattle.node_rule.specs.Standing.{IsKeeperOf}
use Rattle.f_array.specs.Passes.{new_passes, IsDealtUpTo}
use Rattle.f_array.proofs.forest.deal.Given as goal

abbrev pub invariant-loop : goal.invariant-loop
invariant-loop g l =
    IsKeeperOf l.words l.keeper
    × IsDealtUpTo l.counter l.keeper
    × (l.passes.items ≡ new_passes l.words l.counter)
