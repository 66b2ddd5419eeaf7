use Rattle.std.proofs.Common.{◌+◌, ◌≤◌, ◌<◌, ap, sym, subst, arith, length, length-set}
use Rattle.risk_board.specs.Calls.{post_count}
use Rattle.journal_check.specs.Script.{ScriptValue}
use Rattle.journal_check.specs.ScriptKept.{script_of}
use Rattle.journal_check.proofs.ScriptCalls.{scripted-post}
use Rattle.journal_check.proofs.script.ScriptHandHand.post.Goals as goal

pub invariant_of-self : goal.invariant_of-self
invariant_of-self c =
    let hand = c.self.inside in
    let before = script_of hand.session hand.quota hand.cap hand.spare hand.posts.items
    hand.calls.items hand.reads.items in
    let below : c.args.tree < length hand.posts.items =
    omega (arith, ap (λ (v : ScriptValue). v.hand.trees) c.self.view_is, c.requires.tree) in
    let one : 1 ≤ hand.spare =
    omega (arith, ap (λ (v : ScriptValue). v.hand.spare) c.self.view_is, c.requires.spare) in
    let low : c.args.value ≤ hand.cap =
    omega (arith, ap (λ (v : ScriptValue). v.hand.cap) c.self.view_is, c.requires.capped) in
    let Left : ScriptValue → Type 0 = λ v. post_count c.args.tree v.hand.calls < v.hand.quota in
    let kept = scripted-post before hand.posts.items hand.next _ _ c.args.tree c.args.value
    c.index_mut.result.now c.self.invariant below c.index_mut.ensures.value
    (subst Left (sym c.self.view_is) c.requires.left) one low in
    rw (
      c.push_reserved.ensures.items,
      c.push_reserved.ensures.len,
      c.push_reserved.ensures.capacity,
      length-set hand.posts.items c.args.tree (c.index_mut.result.now + 1),
    ) kept
