use Rattle.f_array.specs.Passes.{IsSamePass}
use Rattle.tree_tests.proofs.replay_tests.work_counted.Given as goal

abbrev pub invariant-loop-round : goal.invariant-loop-round
invariant-loop-round g l = IsSamePass l.fn.pass l.pass
