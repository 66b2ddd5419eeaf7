use Rattle.f_array.specs.Passes.{IsSamePass}
use Rattle.tree_tests.proofs.replay_tests.each_tree.Given as goal

abbrev pub invariant-loop-tree : goal.invariant-loop-tree
invariant-loop-tree g l = IsSamePass l.fn.pass l.pass
