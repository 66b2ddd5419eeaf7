use Rattle.std.proofs.Common.{◌≡◌, ◌≤◌, ap, sym, subst, arith}
use Rattle.journal_check.specs.Script.{ScriptValue, script_answer}
use Rattle.journal_check.specs.ScriptKept.{script_of}
use Rattle.journal_check.proofs.ScriptCalls.{scripted-read}
use Rattle.journal_check.proofs.script.ScriptHandHand.read.Goals as goal

pub invariant_of-self : goal.invariant_of-self
invariant_of-self c =
    let hand = c.self.inside in
    let before = script_of hand.session hand.quota hand.cap hand.spare hand.posts.items
    hand.calls.items hand.reads.items in
    let one : 1 ≤ hand.spare =
    omega (arith, ap (λ (v : ScriptValue). v.hand.spare) c.self.view_is, c.requires.spare) in
    let Is : ScriptValue → Type 0 = λ v. c.answer-seen.result ≡ script_answer v.script v.hand.calls in
    let kept = scripted-read before hand.posts.items hand.next _ _ c.args.tree c.answer-seen.result
    c.self.invariant one (subst Is (sym c.self.view_is) c.answer-seen.ensures) in
    rw (
      c.push_reserved.ensures.items,
      c.push_reserved.ensures.len,
      c.push_reserved.ensures.capacity,
    ) kept
