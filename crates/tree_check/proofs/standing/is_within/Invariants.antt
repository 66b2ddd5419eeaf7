-- the sum so far
use Rattle.std.proofs.Common.{◌≡◌, ◌*◌, ◌≤◌, take}
use Rattle.fold_law.specs.declared.limits.TheConstants.{LEAF}
use Rattle.tree_check.specs.Staying.{admitted_by, standing_values}
use Rattle.tree_check.proofs.standing.is_within.Given as goal

abbrev pub invariant-loop-own : goal.invariant-loop-own
invariant-loop-own l =
    (l.sum ≡ admitted_by (standing_values (take l.own-index l.standings)))
    × (l.sum ≤ l.own-index * LEAF)
