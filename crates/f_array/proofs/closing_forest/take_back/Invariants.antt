use Rattle.std.proofs.Common.{◌≡◌, List, ◌++◌, map}
use Rattle.std.specs.Vec.Iter.{into_iter_items}
use Rattle.node_rule.specs.Standing.{IsKeeperOf}
use Rattle.f_array.specs.Passes.{PassValue}
use Rattle.f_array.specs.Records.{did_of, HasTakenBack}
use Rattle.f_array.proofs.closing_forest.take_back.Given as goal

abbrev pub invariant-loop-pass : goal.invariant-loop-pass
invariant-loop-pass g l =
    (goal.iterator-loop-pass g).can_next l.pass-iterator
    × (goal.iterator-loop-pass g).is_finite l.pass-iterator
    × IsKeeperOf l.words l.keeper
    × (l.keeper.plan ≡ l.fn.keeper.plan)
    × ((taken : List PassValue)
    × (taken ++ into_iter_items l.pass-iterator ≡ l.fn.passes.items)
    × HasTakenBack l.fn.keeper.plan.sessions taken l.keeper
    × (l.did.items ≡ map did_of taken))
