-- One field more.
use Rattle.std.proofs.Common.{arith}
use Rattle.fix_orders.proofs.ShortFields.{is_begun, part_at, next_part, next_fits, all_parts}
use Rattle.fix_orders.proofs.put.put_all.Goals as goal

pub put-requires-clause-begun : goal.put-requires-clause-begun
put-requires-clause-begun c =
    is_begun _ _ (c.loop-part.invariant c.requires.room.0 c.requires.room.1)

pub put-requires-clause-field : goal.put-requires-clause-field
put-requires-clause-field c =
    part_at c.args.parts.now c.loop-part.part-index _ c.requires.parts (omega arith)

pub put-requires-clause-room : goal.put-requires-clause-room
put-requires-clause-room c =
    next_fits c.args.parts.now c.loop-part.part-index _ _ _ c.requires.room (omega arith)
    c.loop-part.invariant

pub loop-part-preserved : goal.loop-part-preserved
loop-part-preserved c = λ fields has.
    next_part c.args.parts.now c.loop-part.part-index _ fields _ _ (omega arith)
    (c.loop-part.invariant fields has) c.put.ensures

pub returns : goal.returns
returns c = λ fields has.
    all_parts c.args.parts.now c.loop-part.part-index fields _ (omega arith)
    (c.loop-part.invariant fields has)
