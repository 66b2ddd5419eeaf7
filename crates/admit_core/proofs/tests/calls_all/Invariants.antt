-- the hands are over the trees of the limits
use Rattle.admit_core.specs.Hands.{IsOver}
use Rattle.admit_core.proofs.tests.calls_all.Given as goal

abbrev pub invariant-loop-row : goal.invariant-loop-row
invariant-loop-row g l = IsOver l.fn.limits l.hands
