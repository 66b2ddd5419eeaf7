-- the bytes of the files so far
use Rattle.std.proofs.Common.{◌≡◌, ◌≤◌, ◌*◌, length, map, take}
use Rattle.std.specs.Prelude.{sum_by}
use Rattle.gate_program.proofs.make.bytes_of.Given as goal

abbrev pub invariant-loop-own : goal.invariant-loop-own
invariant-loop-own l = record {
  so_far : l.bytes ≡ sum_by length (map (λ own. own.items) (take l.own-index l.files));
  low : l.bytes ≤ l.own-index * 20000000;
}
