use Rattle.std.proofs.Common.{◌≡◌, ◌+◌, ◌*◌, ◌≤◌}
use Rattle.node_rule.specs.Standing.{IsOf}
use Rattle.f_array.specs.Rising.{IsUp}
use Rattle.f_array.proofs.rise_up.rise_up.Given as goal

abbrev pub invariant-loop : goal.invariant-loop
invariant-loop g l =
    IsOf l.words l.climb
    × IsUp l.fn.climb l.counter l.climb
    × (l.fn.steps ≤ l.steps)
    × (l.steps ≤ l.fn.steps + 8 * l.counter)
    × (l.fn.climb.steps ≤ l.climb.steps)
    × (l.climb.steps ≤ l.fn.climb.steps + 8 * l.counter)
    × (l.end ≡ l.fn.climb.plan.levels + 1)
