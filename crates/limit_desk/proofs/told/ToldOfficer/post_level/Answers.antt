-- The hand on the halt tree makes the post, and the act tells it.
use Rattle.std.proofs.Common.{◌<◌, arith, refl, vec_len, vec_capacity}
use Rattle.limit_desk.proofs.OfficerSteps.{level_index, level_left, level_posted}
use Rattle.limit_desk.proofs.told.ToldOfficer.post_level.Goals as goal

pub post-requires-clause-left : goal.post-requires-clause-left
post-requires-clause-left g c =
    let few = rw (← c.self.view_is) at c.requires.left in
    level_left _ _ _ _ c.self.invariant.0 few

pub invariant_of-self : goal.invariant_of-self
invariant_of-self g c =
    let room = rw (← c.self.view_is) at c.requires.room in
    let slot : vec_len c.push_reserved.new.self < vec_capacity c.push_reserved.new.self =
    omega (arith, room, c.push_reserved.ensures.len, c.push_reserved.ensures.capacity) in
    rw (c.post.ensures.added, c.push_reserved.ensures.items)
    (level_posted _ _ _ _ c.self.invariant.0 _ c.args.level, slot)

pub returns-clause-acts : goal.returns-clause-acts
returns-clause-acts g c =
    let few = rw (← c.self.view_is) at c.requires.left in
    rw (
      ← c.self.view_is,
      c.push_reserved.ensures.items,
      level_index _ _ _ _ c.self.invariant.0 few c.left.result c.left.ensures,
    ) refl
