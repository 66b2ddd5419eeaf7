-- more sessions than leaves under any fewer levels
use Rattle.std.proofs.Common.{ℕ, ◌^◌, ◌<◌}
use Rattle.stamp_word.proofs.shape.levels_for.Given as goal

abbrev pub invariant-loop-levels : goal.invariant-loop-levels
invariant-loop-levels l = record {
  fewer : (k : ℕ) → k < l.levels → 2 ^ k < l.sessions;
}
