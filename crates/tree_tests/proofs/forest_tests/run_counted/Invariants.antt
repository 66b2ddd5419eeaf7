use Rattle.f_array.specs.Passes.{IsSamePass}
use Rattle.tree_tests.proofs.forest_tests.run_counted.Given as goal

abbrev pub invariant-loop : goal.invariant-loop
invariant-loop g l = IsSamePass l.fn.pass l.pass
