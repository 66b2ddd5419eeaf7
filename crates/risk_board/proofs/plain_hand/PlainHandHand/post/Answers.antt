use Rattle.std.proofs.Common.{◌<◌, ◌≤◌, [], ap, sym, subst, arith, slice_index_or}
use Rattle.risk_board.specs.Calls.{post_count}
use Rattle.risk_board.specs.Plain.{PlainHandValue}
use Rattle.risk_board.proofs.Found.{has_tree, tree_tells, is_session}
use Rattle.risk_board.proofs.HandCalls.{has_post, hand_has_call, others_stay}
use Rattle.risk_board.proofs.HandLines.{lines_posted}
use Rattle.risk_board.proofs.Held.{held_with_post}
use Rattle.risk_board.proofs.TreeCalls.{has_component, has_count, count_is_within}
use Rattle.risk_board.proofs.plain_hand.PlainHandHand.post.Goals as goal

-- the session has a component in the tree
pub post-requires-clause-component : goal.post-requires-clause-component
post-requires-clause-component g c =
    let hand = c.self.inside in let sound = c.self.invariant.sound in
    let below = has_tree hand.kept hand.session hand.spare c.args.self.now c.args.tree
    c.self.view_is c.requires.tree in
    let tells = tree_tells hand.kept sound c.args.tree c.index_mut.result.now below
    c.index_mut.ensures.value in
    has_component tells hand.session
    (is_session hand.kept hand.session c.self.invariant.in_range)

-- and a count
pub post-requires-clause-session : goal.post-requires-clause-session
post-requires-clause-session g c =
    let hand = c.self.inside in let sound = c.self.invariant.sound in
    let below = has_tree hand.kept hand.session hand.spare c.args.self.now c.args.tree
    c.self.view_is c.requires.tree in
    let tells = tree_tells hand.kept sound c.args.tree c.index_mut.result.now below
    c.index_mut.ensures.value in
    has_count tells hand.session
    (is_session hand.kept hand.session c.self.invariant.in_range)

-- which is within the quota
pub post-requires-clause-few : goal.post-requires-clause-few
post-requires-clause-few g c =
    let hand = c.self.inside in let sound = c.self.invariant.sound in
    let below = has_tree hand.kept hand.session hand.spare c.args.self.now c.args.tree
    c.self.view_is c.requires.tree in
    let tells = tree_tells hand.kept sound c.args.tree c.index_mut.result.now below
    c.index_mut.ensures.value in
    let within = count_is_within tells hand.session 0
    (is_session hand.kept hand.session c.self.invariant.in_range) in
    omega (arith, within, sound.few)

-- what is held stays sound, with room for one call fewer
pub invariant_of-self : goal.invariant_of-self
invariant_of-self g c =
    let hand = c.self.inside in
    let below = has_tree hand.kept hand.session hand.spare c.args.self.now c.args.tree
    c.self.view_is c.requires.tree in
    let spare : 1 ≤ hand.spare =
    omega (arith, ap (λ (h : PlainHandValue). h.spare) c.self.view_is, c.requires.spare) in
    let Left : PlainHandValue → Type 0 = λ h.
    post_count c.args.tree (slice_index_or h.board.calls h.session []) < h.board.quota in
    held_with_post hand.kept c.self.invariant c.args.tree c.index_mut.result.now below
    c.index_mut.ensures.value c.index_mut-own.result.now c.index_mut-own.ensures.value
    c.post.new.self c.push_reserved.new.self c.args.value
    c.post.ensures.posted c.post.ensures.taken c.post.ensures.room
    c.push_reserved.ensures.items c.push_reserved.ensures.len c.push_reserved.ensures.capacity spare
    (g.met.F.Fold.laws.leaf_under c.args.value c.requires.capped)
    (subst Left (sym c.self.view_is) c.requires.left)

-- the hand's calls have the post
pub returns-clause-added : goal.returns-clause-added
returns-clause-added g c =
    let hand = c.self.inside in
    let has = has_post hand.kept hand.session c.index_mut-own.result.now c.self.invariant.in_range
    c.index_mut-own.ensures.value c.args.tree c.post.new.self c.push_reserved.new.self c.args.value
    c.push_reserved.ensures.items in
    hand_has_call has (is_session hand.kept hand.session c.self.invariant.in_range)
    hand.spare g.F.Fold.CAP c.args.self.now c.self.view_is

-- and no other session's have changed
pub returns-clause-origin : goal.returns-clause-origin
returns-clause-origin g c =
    let hand = c.self.inside in
    let has = has_post hand.kept hand.session c.index_mut-own.result.now c.self.invariant.in_range
    c.index_mut-own.ensures.value c.args.tree c.post.new.self c.push_reserved.new.self c.args.value
    c.push_reserved.ensures.items in
    others_stay has (is_session hand.kept hand.session c.self.invariant.in_range)
    hand.spare c.args.self.now c.self.view_is

-- the post's line comes last in its tree
pub returns-clause-lines : goal.returns-clause-lines
returns-clause-lines g c =
    let hand = c.self.inside in
    let below = has_tree hand.kept hand.session hand.spare c.args.self.now c.args.tree
    c.self.view_is c.requires.tree in
    lines_posted hand.kept c.self.invariant c.args.tree c.index_mut.result.now below
    c.index_mut.ensures.value c.args.self.now c.self.view_is
    c.post.new.self c.args.value c.post.ensures.posted
