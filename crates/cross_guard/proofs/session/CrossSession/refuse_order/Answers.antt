-- The order was told as refused, and the client got a report of it, or a front of that.
use Rattle.std.proofs.Common.{List, refl, subst}
use Rattle.std.specs.Prelude.{ℕ}
use Rattle.std.specs.Io.KnownBytes.{Appends}
use Rattle.fix_orders.specs.Writing.{order_reject_fields}
use Rattle.cross_guard.specs.Session.{order_refusal}
use Rattle.cross_guard.proofs.Answered.{order_refusal_is, refuses_by}
use Rattle.cross_guard.proofs.session.CrossSession.refuse_order.Goals as goal

pub write_reject_order-requires-clause-accepted : goal.write_reject_order-requires-clause-accepted
write_reject_order-requires-clause-accepted g c =
    let own = c.requires.read in
    rw (c.bytes.ensures.bytes, c.frame.ensures.frame) (record {
      listed = own.is_sound.0;
      stands = own.is_sound.1;
      read = own.each own.is_sound.0 own.is_sound.1;
    })

pub give_written-requires : goal.give_written-requires
give_written-requires g c =
    let own = c.requires.read.is_sound in
    record {
      written = rw (c.write_reject_order.ensures own.0
          (rw (c.bytes.ensures.bytes, c.frame.ensures.frame) own.1)) refl;
    }

pub returns-clause-refuses : goal.returns-clause-refuses
returns-clause-refuses g c =
    let order = c.args.order.now in
    let stamp = c.tell_refusal-stamp.result in
    let given = c.give_written.ensures.given in
    let tells = rw (← c.self.view_is) at c.tell_refusal-stamp.ensures.tells in
    refuses_by order_refusal c.args.sound.now c.args.why _ _ c.args.self.now _ _ given.whole tells
    (λ fields has.
    let P : List ℕ → Type 0 = λ m. Appends (g.C.Sink.held c.self.inside.client) given.whole m in
    let put = c.write_reject_order.ensures fields
    (rw (c.bytes.ensures.bytes, c.frame.ensures.frame) has) in
    subst P (order_refusal_is fields order _ 0 c.text_of.result.now stamp c.args.why
    (c.requires.read.each fields has) c.tell_refusal-stamp.ensures.stamp refl c.text_of.ensures.text)
    (given.says (order_reject_fields fields order.id stamp 0 c.text_of.result.now) put))
    (record { front = given.front; rose = c.give_written.ensures.cause.rose }) refl
