-- as many sets as rounds
use Rattle.std.proofs.Common.{◌≡◌, length}
use Rattle.gate_program.proofs.rows.no_screens.Given as goal

abbrev pub invariant-loop : goal.invariant-loop
invariant-loop g l = length l.sets.items ≡ l.counter
