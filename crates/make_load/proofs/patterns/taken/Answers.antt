-- Each field is a part.
use Rattle.std.proofs.Common.{arith}
use Rattle.make_load.proofs.PatternParts.{small_is_spelled, taken_each, taken_is}
use Rattle.make_load.proofs.patterns.taken.Goals as goal

pub returns-clause-fields : goal.returns-clause-fields
returns-clause-fields c = taken_is c.args.session c.args.order c.args.number c.args.draws.now

pub returns-clause-parts : goal.returns-clause-parts
returns-clause-parts c =
    taken_each c.args.session c.args.order c.args.number c.args.draws.now c.requires.session
    (omega arith) (omega arith) (small_is_spelled c.args.draws.now c.requires.small)
