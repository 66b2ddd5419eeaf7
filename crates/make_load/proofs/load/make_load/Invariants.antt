-- the load so far
use Rattle.make_load.proofs.NextSession.{IsLoadSoFar}
use Rattle.make_load.proofs.load.make_load.Given as goal

abbrev pub invariant-loop-session : goal.invariant-loop-session
invariant-loop-session l = IsLoadSoFar l.number l.sessions l.orders l.session l.load
