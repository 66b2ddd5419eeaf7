-- the array behind the lines so far
use Rattle.std.proofs.Common.{◌≡◌, take, length}
use Rattle.risk_board.specs.History.{array_after}
use Rattle.gate_program.proofs.totals.array_of.Given as goal

abbrev pub invariant-loop-line : goal.invariant-loop-line
invariant-loop-line l = record {
  so_far : l.array.items ≡ array_after 0 l.components (take l.line-index l.lines);
  many : length l.array.items ≡ l.components;
}
