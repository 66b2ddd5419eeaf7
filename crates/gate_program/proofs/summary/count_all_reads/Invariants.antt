-- the reads of the sessions so far
use Rattle.std.proofs.Common.{◌≡◌, ◌≤◌, ◌*◌, ◌^◌, map, take}
use Rattle.gate_program.specs.Telling.{reads_of}
use Rattle.gate_program.proofs.summary.count_all_reads.Given as goal

abbrev pub invariant-loop-own : goal.invariant-loop-own
invariant-loop-own l = record {
  so_far : l.reads ≡ reads_of (map (λ own. own.items) (take l.own-index l.acts));
  low : l.reads ≤ l.own-index * 2 ^ 32;
}
