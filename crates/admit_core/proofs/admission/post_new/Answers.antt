-- Three posts, one after another.
use Rattle.std.proofs.Common.{lit≤}
use Rattle.admit_core.proofs.After.{later}
use Rattle.admit_core.proofs.admission.post_new.Goals as goal

pub returns-clause-after : goal.returns-clause-after
returns-clause-after g c =
    let sum = g.met.H.Hand.origin_next in
    let halt = g.met.M.Hand.origin_next in
    later _ _ sum halt 3 (later _ _ sum halt 2 c.post.ensures.after c.post-2.ensures.after (lit≤ tt))
    c.post-3.ensures.after (lit≤ tt)
