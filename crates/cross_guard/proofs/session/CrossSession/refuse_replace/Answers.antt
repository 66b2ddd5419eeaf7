-- The replace was told as refused, and the client got a reject of it, or a front of that.
use Rattle.std.proofs.Common.{List, refl, subst}
use Rattle.std.specs.Prelude.{ℕ}
use Rattle.std.specs.Io.KnownBytes.{Appends}
use Rattle.fix_orders.specs.Writing.{cancel_reject_fields}
use Rattle.cross_guard.specs.Session.{replace_refusal}
use Rattle.cross_guard.proofs.Answered.{refuses_by, replace_refusal_is}
use Rattle.cross_guard.proofs.session.CrossSession.refuse_replace.Goals as goal

pub give_written-requires : goal.give_written-requires
give_written-requires g c = record { written = rw c.write_reject_cancel.ensures refl }

pub returns-clause-refuses : goal.returns-clause-refuses
returns-clause-refuses g c =
    let request = c.args.replace.now in
    let stamp = c.tell_refusal-stamp.result in
    let given = c.give_written.ensures.given in
    let tells = rw (← c.self.view_is) at c.tell_refusal-stamp.ensures.tells in
    refuses_by replace_refusal c.args.sound.now c.args.why _ _ c.args.self.now _ _ given.whole tells
    (λ fields has.
    let P : List ℕ → Type 0 = λ m. Appends (g.C.Sink.held c.self.inside.client) given.whole m in
    subst P (replace_refusal_is fields request _ 2 2 c.text_of.result.now stamp c.args.why
    (c.requires.read.each fields has) c.tell_refusal-stamp.ensures.stamp refl refl
    c.text_of.ensures.text)
    (given.says (cancel_reject_fields request.id request.orig stamp 2 2 c.text_of.result.now)
    c.write_reject_cancel.ensures))
    (record { front = given.front; rose = c.give_written.ensures.cause.rose }) refl
