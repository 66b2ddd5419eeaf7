-- The halt hand posts once, and the act tells it.
use Rattle.std.proofs.Common.{◌<◌, arith, vec_len, vec_capacity}
use Rattle.admit_core.proofs.Steps.{untripped_left, tripped}
use Rattle.admit_core.proofs.hands.trip.Goals as goal

pub post-requires-clause-left : goal.post-requires-clause-left
post-requires-clause-left g c =
    let none = rw (← c.hands.view_is) at c.requires.untripped in
    untripped_left _ _ _ _ _ _ c.hands.invariant.0 none

pub invariant_of-hands : goal.invariant_of-hands
invariant_of-hands g c =
    let room = rw (← c.hands.view_is) at c.requires.room in
    let slot : vec_len c.push_reserved.new.self < vec_capacity c.push_reserved.new.self =
    omega (arith, room, c.push_reserved.ensures.len, c.push_reserved.ensures.capacity) in
    rw (c.post.ensures.added, c.push_reserved.ensures.items)
    (tripped _ _ _ _ _ _ c.hands.invariant.0 1 1, slot)
