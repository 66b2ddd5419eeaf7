-- Each field is a part.
use Rattle.std.proofs.Common.{arith}
use Rattle.make_load.proofs.PatternParts.{small_is_spelled, cancel_each, cancel_is}
use Rattle.make_load.proofs.patterns.cancel.Goals as goal

pub returns-clause-fields : goal.returns-clause-fields
returns-clause-fields c = cancel_is c.args.session c.args.order c.args.number c.args.draws.now

pub returns-clause-parts : goal.returns-clause-parts
returns-clause-parts c =
    cancel_each c.args.session c.args.order c.args.number c.args.draws.now c.requires.session
    (omega arith) (omega arith) (small_is_spelled c.args.draws.now c.requires.small)
