-- The fields so far leave room for one more.
use Rattle.make_load.proofs.Messages.{has_room}
use Rattle.make_load.proofs.orders.write_message.Goals as goal

pub put_part-requires-clause-room : goal.put_part-requires-clause-room
put_part-requires-clause-room c =
    has_room c.args.kind c.args.parts.now c.loop-part.part-index c.loop-part.writer
    c.requires.parts c.requires.few c.loop-part.invariant
