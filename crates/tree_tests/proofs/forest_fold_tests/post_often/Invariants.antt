use Rattle.f_array.specs.Passes.{IsSamePass}
use Rattle.tree_tests.proofs.forest_fold_tests.post_often.Given as goal

abbrev pub invariant-loop-round : goal.invariant-loop-round
invariant-loop-round l = IsSamePass l.fn.pass l.pass
