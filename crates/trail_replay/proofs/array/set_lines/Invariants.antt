-- the components after the lines so far
use Rattle.std.proofs.Common.{◌≡◌, take}
use Rattle.trail_replay.specs.Arrays.{after_lines}
use Rattle.trail_replay.proofs.array.set_lines.Given as goal

abbrev pub invariant-loop-line : goal.invariant-loop-line
invariant-loop-line l = l.leaves ≡ after_lines l.initial.leaves (take l.line-index l.lines)
