-- One of the hands makes the read, and the act tells it.
use Rattle.std.proofs.Common.{◌<◌, arith, vec_len, vec_capacity}
use Rattle.admit_core.proofs.Steps.{read_sum, read_halt}
use Rattle.admit_core.proofs.hands.Hands.read.Goals as goal
use Rattle.admit_core.proofs.hands.Hands.read.Goals.{then-tree-self, else-tree-self}

pub invariant_of-self : goal.invariant_of-self
invariant_of-self g c = elim c.if-tree-self.branch [
  | then-tree-self w ↦
      let room = rw (← c.self.view_is) at c.requires.room in
      let len = rw w.self-inside-is at c.push_reserved.ensures.len in
      let capacity = rw w.self-inside-is at c.push_reserved.ensures.capacity in
      let slot : vec_len c.push_reserved.new.self < vec_capacity c.push_reserved.new.self =
      omega (arith, room, len, capacity) in
      rw (c.push_reserved.ensures.items, w.self-inside-is, w.seen-is, w.read-seen.ensures.added)
      (read_halt _ _ _ _ _ _ c.self.invariant.0 c.args.tree _ 0 _ w.if-tree-self.true, slot)
  | else-tree-self w ↦
      let room = rw (← c.self.view_is) at c.requires.room in
      let len = rw w.self-inside-is at c.push_reserved.ensures.len in
      let capacity = rw w.self-inside-is at c.push_reserved.ensures.capacity in
      let slot : vec_len c.push_reserved.new.self < vec_capacity c.push_reserved.new.self =
      omega (arith, room, len, capacity) in
      let most = rw (← c.self.view_is) at c.requires.tree in
      let inside : c.args.tree < c.self.inside.halt_tree = omega (arith, most, w.if-tree-self.false) in
      rw (
        c.push_reserved.ensures.items,
        w.self-inside-is,
        w.seen-is,
        w.read-seen-else-tree-self.ensures.added,
      )
      (read_sum _ _ _ _ _ _ c.self.invariant.0 c.args.tree _ 0 _ inside, slot)
]
