-- Three reads, one after another.
use Rattle.std.proofs.Common.{lit≤}
use Rattle.admit_core.proofs.After.{later}
use Rattle.admit_core.proofs.admission.read_all.Goals as goal

pub returns-clause-after : goal.returns-clause-after
returns-clause-after g c =
    let sum = g.met.H.Hand.origin_next in
    let halt = g.met.M.Hand.origin_next in
    later _ _ sum halt 3 (later _ _ sum halt 2 c.read-firm.ensures.after
    c.read-account.ensures.after (lit≤ tt)) c.read-symbol.ensures.after (lit≤ tt)
