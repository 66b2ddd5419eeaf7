-- One order more.
use Rattle.std.proofs.Common.{arith}
use Rattle.make_load.proofs.NextOrder.{order_next}
use Rattle.make_load.proofs.session.session_file.Goals as goal

pub loop-order-preserved : goal.loop-order-preserved
loop-order-preserved c =
    order_next c.args.number c.args.orders c.args.session c.loop-order.order c.loop-order.state
    c.loop-order.numbers c.in_ok-numbers.numbers c.loop-order.pen.bytes.items
    c.add_order.new.pen.bytes.items c.draws_from-draws.result c.draws_from-draws.ensures
    (omega arith) c.loop-order.invariant c.in_ok-numbers.ensures.lines
    c.in_ok-numbers.ensures.counted
