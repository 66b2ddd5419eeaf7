-- A report with a field fault was taken.
use Rattle.std.proofs.Common.{◌+◌, map, refl, ◌∙◌, ap, inl}
use Rattle.fix_orders.specs.Writing.{session_reject_fields}
use Rattle.order_desk.specs.Desks.{DeskValue}
use Rattle.session_engine.specs.Answers.{stamp_of}
use Rattle.session_engine.proofs.FaultyFrames.{takes_returned}
use Rattle.session_engine.proofs.RejectTexts.{reject_is}
use Rattle.session_engine.proofs.session.Session.return_faulty.Goals as goal

pub returns-clause-taken : goal.returns-clause-taken
returns-clause-taken g c =
    rw (← c.self.view_is) (record {
      venue = c.give_written.ensures.given.whole;
      client = g.C.Sink.held c.self.inside.client;
      taken = λ fields has session own.
          let inside = c.self.inside in
          let read = c.requires.fails fields has in
          let envelope = c.read_envelope-envelope.ensures fields
          (rw (c.bytes.ensures.bytes, c.frame.ensures.frame) has) in
          let kind = c.type_text-kind.ensures fields
          (rw (c.bytes-2.ensures.bytes, c.frame-2.ensures.frame) has) in
          let receiver = c.venue_id.result in
          let text = reject_is fields receiver (inside.counts.venue + 1) c.read_envelope-envelope.result
          c.time_of.result c.unwrap_or-seq.result c.type_text-kind.result.now c.args.fault.now envelope
          c.time_of.ensures c.unwrap_or-seq.ensures kind in
          let reject = session_reject_fields (stamp_of receiver (inside.counts.venue + 1) c.time_of.result)
          c.unwrap_or-seq.result c.type_text-kind.result.now c.args.fault.now in
          takes_returned inside.desk.limits fields c.args.fault.now session _ _ read.1 read.0 own (record {
            acts = c.tell.ensures.acts ∙ rw (c.code.ensures, c.from.ensures) refl;
            book = ap (λ (d : DeskValue _ _ _). d.book.value) c.tell.ensures.same;
            screens = ap (λ (d : DeskValue _ _ _). map g.K.Screen.meaning d.screens) c.tell.ensures.same;
            counts = refl;
            client_id = refl;
            venue = rw (text, c.venue_id.ensures)
                at (c.give_written.ensures.given.says reject c.write_reject_session.ensures);
            client = refl;
          });
      gives = inl (
        record {
          front = c.give_written.ensures.given.front;
          rose = c.give_written.ensures.cause.rose;
          next = λ failed. refl;
        },
        refl,
      );
    })
