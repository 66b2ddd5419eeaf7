-- The hand makes the post, and the act tells it.
use Rattle.std.proofs.Common.{◌<◌, arith, refl, vec_len, vec_capacity}
use Rattle.admit_core.proofs.Steps.{left_is_left, index_is, posted}
use Rattle.admit_core.proofs.hands.Hands.post.Goals as goal

pub overflow_add-index : goal.overflow_add-index
overflow_add-index g c =
    let inside = rw (← c.self.view_is) at c.requires.tree in
    let left = rw (← c.self.view_is) at c.requires.left in
    let is = left_is_left _ _ _ _ _ _ c.self.invariant.0 c.args.tree inside left in
    omega (arith, is, c.left.ensures)

pub post-requires-clause-left : goal.post-requires-clause-left
post-requires-clause-left g c =
    let inside = rw (← c.self.view_is) at c.requires.tree in
    let left = rw (← c.self.view_is) at c.requires.left in
    left_is_left _ _ _ _ _ _ c.self.invariant.0 c.args.tree inside left

pub invariant_of-self : goal.invariant_of-self
invariant_of-self g c =
    let room = rw (← c.self.view_is) at c.requires.room in
    let slot : vec_len c.push_reserved.new.self < vec_capacity c.push_reserved.new.self =
    omega (arith, room, c.push_reserved.ensures.len, c.push_reserved.ensures.capacity) in
    let inside = rw (← c.self.view_is) at c.requires.tree in
    rw (c.post.ensures.added, c.push_reserved.ensures.items)
    (posted _ _ _ _ _ _ c.self.invariant.0 c.args.tree _ c.args.value inside c.requires.capped, slot)

pub returns-clause-acts : goal.returns-clause-acts
returns-clause-acts g c =
    let inside = rw (← c.self.view_is) at c.requires.tree in
    let left = rw (← c.self.view_is) at c.requires.left in
    rw (
      ← c.self.view_is,
      c.push_reserved.ensures.items,
      index_is _ _ _ _ _ _ c.self.invariant.0 c.args.tree inside left c.left.result c.left.ensures,
    ) refl
