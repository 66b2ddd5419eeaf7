use Rattle.std.proofs.Common.{◌≤◌, ap, sym, ◌∙◌, arith, length}
use Rattle.risk_board.specs.Plain.{PlainHandValue}
use Rattle.risk_board.proofs.Found.{has_tree, tree_tells, is_session}
use Rattle.risk_board.proofs.HandCalls.{has_read, hand_has_call, others_stay}
use Rattle.risk_board.proofs.HandLines.{lines_are}
use Rattle.risk_board.proofs.Held.{held_with_read}
use Rattle.risk_board.proofs.TreeCalls.{lines_fit, components_fit}
use Rattle.risk_board.proofs.plain_hand.PlainHandHand.read.Goals as goal

-- the tree's lines are fewer than its posts can be
pub root-seen-requires-clause-few : goal.root-seen-requires-clause-few
root-seen-requires-clause-few g c =
    let hand = c.self.inside in let sound = c.self.invariant.sound in
    let below = has_tree hand.kept hand.session hand.spare c.args.self.now c.args.tree
    c.self.view_is c.requires.tree in
    let tells = tree_tells hand.kept sound c.args.tree c.index.result.now below c.index.ensures in
    lines_fit tells sound.sessions sound.few

-- there are no more components than the most sessions
pub root-seen-requires-clause-components : goal.root-seen-requires-clause-components
root-seen-requires-clause-components g c =
    let hand = c.self.inside in let sound = c.self.invariant.sound in
    let below = has_tree hand.kept hand.session hand.spare c.args.self.now c.args.tree
    c.self.view_is c.requires.tree in
    let tells = tree_tells hand.kept sound c.args.tree c.index.result.now below c.index.ensures in
    components_fit tells sound.sessions

-- each component is a leaf value or the unit
pub root-seen-requires-clause-leaves : goal.root-seen-requires-clause-leaves
root-seen-requires-clause-leaves g c =
    let hand = c.self.inside in
    let below = has_tree hand.kept hand.session hand.spare c.args.self.now c.args.tree
    c.self.view_is c.requires.tree in
    let tells = tree_tells hand.kept c.self.invariant.sound c.args.tree c.index.result.now below
    c.index.ensures in
    tells.leaves

-- what is held stays sound, with room for one call fewer
pub invariant_of-self : goal.invariant_of-self
invariant_of-self g c =
    let hand = c.self.inside in
    let below = has_tree hand.kept hand.session hand.spare c.args.self.now c.args.tree
    c.self.view_is c.requires.tree in
    let spare : 1 ≤ hand.spare =
    omega (arith, ap (λ (h : PlainHandValue). h.spare) c.self.view_is, c.requires.spare) in
    held_with_read hand.kept c.self.invariant c.args.tree c.index.result.now below
    c.index.ensures c.index_mut-own.result.now c.index_mut-own.ensures.value
    c.push_reserved.new.self c.root-seen.result.stamp c.root-seen.result.value
    c.root-seen.ensures.stamp c.root-seen.ensures.value
    c.push_reserved.ensures.items c.push_reserved.ensures.len c.push_reserved.ensures.capacity spare

-- the hand's calls have the read
pub returns-clause-added : goal.returns-clause-added
returns-clause-added g c =
    let hand = c.self.inside in
    let has = has_read hand.kept hand.session c.index_mut-own.result.now c.self.invariant.in_range
    c.index_mut-own.ensures.value c.args.tree c.push_reserved.new.self c.root-seen.result.stamp
    c.root-seen.result.value c.push_reserved.ensures.items in
    hand_has_call has (is_session hand.kept hand.session c.self.invariant.in_range)
    hand.spare g.F.Fold.CAP c.args.self.now c.self.view_is

-- and no other session's have changed
pub returns-clause-origin : goal.returns-clause-origin
returns-clause-origin g c =
    let hand = c.self.inside in
    let has = has_read hand.kept hand.session c.index_mut-own.result.now c.self.invariant.in_range
    c.index_mut-own.ensures.value c.args.tree c.push_reserved.new.self c.root-seen.result.stamp
    c.root-seen.result.value c.push_reserved.ensures.items in
    others_stay has (is_session hand.kept hand.session c.self.invariant.in_range)
    hand.spare c.args.self.now c.self.view_is

-- the stamp counts the lines
pub returns-clause-stamp : goal.returns-clause-stamp
returns-clause-stamp g c =
    let hand = c.self.inside in
    let below = has_tree hand.kept hand.session hand.spare c.args.self.now c.args.tree
    c.self.view_is c.requires.tree in
    c.root-seen.ensures.stamp
    ∙ ap length (sym (lines_are hand.kept c.self.invariant c.args.tree c.index.result.now below
    c.index.ensures c.args.self.now c.self.view_is))

-- which stay
pub returns-clause-lines : goal.returns-clause-lines
returns-clause-lines g c = ap (λ (h : PlainHandValue). h.board.lines) c.self.view_is
