use Rattle.std.proofs.Common.{◌≡◌}
use Rattle.tree_tests.proofs.replay_tests.reads_agree.Given as goal

abbrev pub invariant-loop-call : goal.invariant-loop-call
invariant-loop-call l = record {
  lines : l.walk.lines ≡ l.history.lines.items;
  place : l.walk.place ≡ l.last;
}
