use Rattle.std.proofs.Common.{◌≡◌, ℕ, ◌-◌, [], ap, subst, ◌∙◌, arith, slice_index_or}
use Rattle.risk_board.specs.Calls.{post_count}
use Rattle.risk_board.specs.Plain.{PlainHandValue}
use Rattle.risk_board.proofs.Found.{has_tree, tree_tells, is_session}
use Rattle.risk_board.proofs.TreeCalls.{has_count, count_is, count_is_within}
use Rattle.risk_board.proofs.plain_hand.PlainHandHand.left.Goals as goal

-- the session has a count in the tree
pub index-requires-2 : goal.index-requires-2
index-requires-2 g c =
    let hand = c.self.inside in
    let below = has_tree hand.kept hand.session hand.spare c.args.self.now c.args.tree
    c.self.view_is c.requires in
    let sound = c.self.invariant.sound in
    let tells = tree_tells hand.kept sound c.args.tree c.index.result.now below c.index.ensures in
    let counted = has_count tells hand.session
    (is_session hand.kept hand.session c.self.invariant.in_range) in
    omega arith

-- it is within the quota
pub overflow_sub-result : goal.overflow_sub-result
overflow_sub-result g c =
    let hand = c.self.inside in
    let below = has_tree hand.kept hand.session hand.spare c.args.self.now c.args.tree
    c.self.view_is c.requires in
    let sound = c.self.invariant.sound in
    let tells = tree_tells hand.kept sound c.args.tree c.index.result.now below c.index.ensures in
    let within = count_is_within tells hand.session c.index-2.result.now
    (is_session hand.kept hand.session c.self.invariant.in_range) in
    rw c.index-2.ensures within

-- it is that of the calls
pub returns : goal.returns
returns g c =
    let hand = c.self.inside in
    let below = has_tree hand.kept hand.session hand.spare c.args.self.now c.args.tree
    c.self.view_is c.requires in
    let sound = c.self.invariant.sound in
    let tells = tree_tells hand.kept sound c.args.tree c.index.result.now below c.index.ensures in
    let count = count_is tells hand.session c.index-2.result.now
    (is_session hand.kept hand.session c.self.invariant.in_range) in
    let Left : PlainHandValue → Type 0 = λ h. hand.kept.quota - c.index-2.result.now
    ≡ h.board.quota - post_count c.args.tree (slice_index_or h.board.calls h.session []) in
    subst Left c.self.view_is (ap (λ (n : ℕ). hand.kept.quota - n) (c.index-2.ensures ∙ count))
