-- the answers so far
use Rattle.std.proofs.Common.{◌≡◌}
use Rattle.std.specs.List.{list_all, AllByRecursion}
use Rattle.tree_check.specs.Agreeing.{IsAnswered, yes_of}
use Rattle.tree_check.proofs.agreeing.all_agree.Given as goal

abbrev pub invariant-loop-one : goal.invariant-loop-one
invariant-loop-one l =
    AllByRecursion IsAnswered l.yielded × (l.all ≡ list_all yes_of l.yielded)
