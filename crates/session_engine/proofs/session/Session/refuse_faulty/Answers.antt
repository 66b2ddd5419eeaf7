-- A request with a field fault was taken.
use Rattle.std.proofs.Common.{◌+◌, map, refl, ◌∙◌, ap, inr, unwrap_or}
use Rattle.fix_orders.specs.declared.envelope.Envelope.{Envelope}
use Rattle.fix_orders.specs.Writing.{session_reject_fields}
use Rattle.order_desk.specs.Desks.{DeskValue}
use Rattle.session_engine.specs.Answers.{stamp_of}
use Rattle.session_engine.proofs.FaultyFrames.{takes_rejected}
use Rattle.session_engine.proofs.RejectTexts.{reject_is}
use Rattle.session_engine.proofs.session.Session.refuse_faulty.Goals as goal

pub returns-clause-taken : goal.returns-clause-taken
returns-clause-taken g c =
    rw (← c.self.view_is) (record {
      venue = g.V.Sink.held c.self.inside.venue;
      client = c.give_written.ensures.given.whole;
      taken = λ fields has session own.
          let inside = c.self.inside in
          let read = c.requires.fails fields has in
          let envelope = c.read_envelope-envelope.ensures fields
          (rw (c.bytes.ensures.bytes, c.frame.ensures.frame) has) in
          let kind = c.type_text-kind.ensures fields
          (rw (c.bytes-2.ensures.bytes, c.frame-2.ensures.frame) has) in
          let receiver = c.unwrap_or-self-inside.result in
          let text = reject_is fields receiver (inside.counts.client + 1) c.read_envelope-envelope.result
          c.time_of.result c.unwrap_or-seq.result c.type_text-kind.result.now c.args.fault.now envelope
          c.time_of.ensures c.unwrap_or-seq.ensures kind in
          let reject = session_reject_fields (stamp_of receiver (inside.counts.client + 1) c.time_of.result)
          c.unwrap_or-seq.result c.type_text-kind.result.now c.args.fault.now in
          takes_rejected inside.desk.limits fields c.args.fault.now session _ _ read.1 read.0 own (record {
            acts = c.tell.ensures.acts ∙ rw c.from.ensures refl;
            book = ap (λ (d : DeskValue _ _ _). d.book.value) c.tell.ensures.same;
            screens = ap (λ (d : DeskValue _ _ _). map g.K.Screen.meaning d.screens) c.tell.ensures.same;
            counts = refl;
            client_id = c.unwrap_or-self-inside.ensures
                ∙ ap (λ (e : Envelope). unwrap_or e.sender inside.client_id) envelope;
            venue = refl;
            client = rw text
                at (c.give_written.ensures.given.says reject c.write_reject_session.ensures);
          });
      gives = inr (
        record {
          front = c.give_written.ensures.given.front;
          rose = c.give_written.ensures.cause.rose;
          next = λ failed. refl;
        },
        refl,
      );
    })
