-- as many sets as rounds
use Rattle.std.proofs.Common.{◌≡◌, length}
use Rattle.check_command.proofs.tests.no_screens.Given as goal

abbrev pub invariant-loop : goal.invariant-loop
invariant-loop g l = length l.sets.items ≡ l.counter
