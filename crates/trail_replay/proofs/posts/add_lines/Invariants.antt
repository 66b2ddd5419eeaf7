-- the lines of the values so far
use Rattle.std.proofs.Common.{◌≡◌, ◌+◌, ◌++◌, take}
use Rattle.risk_board.specs.History.{own_lines}
use Rattle.trail_replay.proofs.posts.add_lines.Given as goal

abbrev pub invariant-loop-value : goal.invariant-loop-value
invariant-loop-value l = record {
  number : l.index ≡ l.before + l.value-index;
  added : l.lines.items
      ≡ l.initial.lines.items
      ++ own_lines l.session (l.before + 1) (take l.value-index l.values);
}
