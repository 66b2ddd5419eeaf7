-- Each field is a part.
use Rattle.std.proofs.Common.{arith}
use Rattle.make_load.proofs.PatternParts.{small_is_spelled, new_order_each, new_order_is}
use Rattle.make_load.proofs.patterns.new_order.Goals as goal

pub returns-clause-fields : goal.returns-clause-fields
returns-clause-fields c = new_order_is c.args.session c.args.order c.args.number c.args.draws.now

pub returns-clause-parts : goal.returns-clause-parts
returns-clause-parts c =
    new_order_each c.args.session c.args.order c.args.number c.args.draws.now c.requires.session
    (omega arith) (omega arith) (small_is_spelled c.args.draws.now c.requires.small)
