-- the fields so far
use Rattle.make_load.proofs.Messages.{HasTo}
use Rattle.make_load.proofs.orders.write_message.Given as goal

abbrev pub invariant-loop-part : goal.invariant-loop-part
invariant-loop-part l = HasTo l.kind l.parts l.part-index l.writer
