-- The hand makes the post, and the act tells it.
use Rattle.std.proofs.Common.{◌<◌, arith, refl, vec_len, vec_capacity}
use Rattle.cross_guard.proofs.ToldSteps.{left_is_left, made_is, posted}
use Rattle.cross_guard.proofs.told.ToldHand.post.Goals as goal

pub overflow_add-index : goal.overflow_add-index
overflow_add-index g c =
    let left = rw (← c.self.view_is) at c.requires.left in
    let is = left_is_left _ _ _ _ c.self.invariant.0 c.args.tree left in
    omega (arith, is, c.left.ensures, c.self.invariant.0.quota_is)

pub post-requires-clause-left : goal.post-requires-clause-left
post-requires-clause-left g c =
    let left = rw (← c.self.view_is) at c.requires.left in
    left_is_left _ _ _ _ c.self.invariant.0 c.args.tree left

pub invariant_of-self : goal.invariant_of-self
invariant_of-self g c =
    let room = rw (← c.self.view_is) at c.requires.room in
    let slot : vec_len c.push_reserved.new.self < vec_capacity c.push_reserved.new.self =
    omega (arith, room, c.push_reserved.ensures.len, c.push_reserved.ensures.capacity) in
    let inside = rw (← c.self.view_is) at c.requires.tree in
    rw (c.post.ensures.added, c.push_reserved.ensures.items)
    (posted _ _ _ _ c.self.invariant.0 c.args.tree _ c.args.value inside c.requires.capped, slot)

pub returns-clause-acts : goal.returns-clause-acts
returns-clause-acts g c =
    let left = rw (← c.self.view_is) at c.requires.left in
    rw (
      ← c.self.view_is,
      c.push_reserved.ensures.items,
      made_is _ _ _ _ c.self.invariant.0 c.args.tree (omega (arith, left)) c.left.result
          c.left.ensures,
    ) refl
