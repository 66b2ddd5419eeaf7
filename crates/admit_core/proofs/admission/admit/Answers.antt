-- Where two posts are left in each tree, the values may be posted, and the old ones after the reads.
use Rattle.std.proofs.Common.{sym, ◌∙◌, lit≤, refl}
use Rattle.admit_core.specs.Admission.{roots_read}
use Rattle.admit_core.proofs.After.{later}
use Rattle.admit_core.proofs.LegPosts.{trees_in_range, can_post_new, can_post_old}
use Rattle.admit_core.proofs.admission.admit.Goals as goal

pub has_few_left-requires : goal.has_few_left-requires
has_few_left-requires g c = trees_in_range c.args.hands.now c.args.ask.now c.requires.legs

pub post_new-requires-clause-posts : goal.post_new-requires-clause-posts
post_new-requires-clause-posts g c =
    can_post_new c.args.hands.now c.args.ask.now c.requires.legs c.requires.apart
    (sym c.has_few_left.ensures ∙ c.if-has_few_left.false)

pub read_all-roots-requires-clause-trees : goal.read_all-roots-requires-clause-trees
read_all-roots-requires-clause-trees g c =
    rw (c.read_halt-halt.ensures.after.halt_tree_is, c.post_new.ensures.after.halt_tree_is)
    (trees_in_range c.args.hands.now c.args.ask.now c.requires.legs)

pub post_back-requires-clause-posts : goal.post_back-requires-clause-posts
post_back-requires-clause-posts g c =
    can_post_old c.args.hands.now c.args.ask.now c.requires.legs c.requires.apart
    (sym c.has_few_left.ensures ∙ c.if-has_few_left.false) c.read_all-roots.new.hands
    (roots_read c.read_halt-halt.result c.read_all-roots.result)
    (c.read_all-roots.ensures.after.halt_tree_is ∙ c.read_halt-halt.ensures.after.halt_tree_is
    ∙ c.post_new.ensures.after.halt_tree_is)
    (c.read_all-roots.ensures.after.quota_is ∙ c.read_halt-halt.ensures.after.quota_is
    ∙ c.post_new.ensures.after.quota_is)
    (rw (
      c.read_all-roots.ensures.acts,
      c.read_halt-halt.ensures.acts,
      c.post_new.ensures.acts,
      c.post_new.ensures.after.halt_tree_is,
    ) refl)

pub returns-then-ne-clause-after : goal.returns-then-ne-clause-after
returns-then-ne-clause-after g c =
    let sum = g.met.H.Hand.origin_next in
    let halt = g.met.M.Hand.origin_next in
    later _ _ sum halt 10 (later _ _ sum halt 7 (later _ _ sum halt 4 c.post_new.ensures.after
    c.read_halt-halt.ensures.after (lit≤ tt)) c.read_all-roots.ensures.after (lit≤ tt))
    c.post_back.ensures.after (lit≤ tt)

pub returns-else-ne-clause-after : goal.returns-else-ne-clause-after
returns-else-ne-clause-after g c =
    let sum = g.met.H.Hand.origin_next in
    let halt = g.met.M.Hand.origin_next in
    later _ _ sum halt 10 (later _ _ sum halt 4 c.post_new.ensures.after
    c.read_halt-halt.ensures.after (lit≤ tt)) c.read_all-roots.ensures.after (lit≤ tt)
