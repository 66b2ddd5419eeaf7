-- An act that is no call keeps the acts in step.
use Rattle.std.proofs.Common.{◌<◌, arith, vec_len, vec_capacity}
use Rattle.cross_guard.proofs.ToldSteps.{told}
use Rattle.cross_guard.proofs.told.ToldHand.tell.Goals as goal

pub invariant_of-self : goal.invariant_of-self
invariant_of-self g c =
    let room = rw (← c.self.view_is) at c.requires.room in
    let slot : vec_len c.push_reserved.new.self < vec_capacity c.push_reserved.new.self =
    omega (arith, room, c.push_reserved.ensures.len, c.push_reserved.ensures.capacity) in
    rw c.push_reserved.ensures.items
    (told _ _ _ _ c.self.invariant.0 c.args.act c.requires.no_call, slot)
