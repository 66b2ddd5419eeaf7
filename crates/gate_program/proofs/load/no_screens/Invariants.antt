-- the sets so far
use Rattle.std.proofs.Common.{◌≡◌, map, length, replicate, []}
use Rattle.gate_program.proofs.load.no_screens.Given as goal

abbrev pub invariant-loop : goal.invariant-loop
invariant-loop g l = record {
  sets : map (λ set. set.items) l.sets.items ≡ replicate l.counter [];
  many : length l.sets.items ≡ l.counter;
}
