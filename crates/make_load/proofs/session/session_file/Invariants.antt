-- the file so far
use Rattle.make_load.proofs.NextOrder.{IsSoFar}
use Rattle.make_load.proofs.session.session_file.Given as goal

abbrev pub invariant-loop-order : goal.invariant-loop-order
invariant-loop-order l =
    IsSoFar l.number l.orders l.session l.order l.state l.numbers l.pen.bytes.items
