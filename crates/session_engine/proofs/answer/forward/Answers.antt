-- The forward that was written is that of the fields.
use Rattle.std.proofs.Common.{◌≡◌, ℕ, List, subst, ap}
use Rattle.std.specs.Io.KnownBytes.{Appends}
use Rattle.fix_fields.specs.Messages.{message_text}
use Rattle.fix_orders.specs.Writing.{forward_fields}
use Rattle.session_engine.specs.Answers.{stamp_of, forward_text}
use Rattle.session_engine.proofs.answer.forward.Goals as goal

pub returns-clause-given : goal.returns-clause-given
returns-clause-given g c =
    let stamp = c.args.stamp.now in
    let given = c.give_written.ensures.given in
    record {
      whole = given.whole;
      front = given.front;
      says = λ fields has.
          let same : message_text (forward_fields stamp fields)
          ≡ forward_text stamp.target stamp.seq fields =
          ap (λ time. message_text (forward_fields (stamp_of stamp.target stamp.seq time) fields))
          (c.requires.time fields has) in
          let P : List ℕ → Type 0 = λ m. Appends (g.S.Sink.held c.args.sink.now) given.whole m in
          subst P same (given.says (forward_fields stamp fields)
          (c.write_forward.ensures fields (rw (c.bytes.ensures.bytes, c.frame.ensures.frame) has)));
    }
