-- What was read of the frame was done.
use Rattle.std.proofs.Common.{ap, sym, ◌∙◌, inl}
use Rattle.std.specs.Prelude.{Ok}
use Rattle.fix_orders.specs.declared.message.Message.{Message}
use Rattle.cross_guard.proofs.Contents.{content_admin, content_faulty, content_other}
use Rattle.cross_guard.proofs.Taken.{quiet_taken}
use Rattle.cross_guard.proofs.session.CrossSession.take_sound.Goals as goal

pub take_new-requires-clause-read : goal.take_new-requires-clause-read
take_new-requires-clause-read g c = record {
  is_sound = c.bytes.ensures.sound;
  each = λ fields has.
      sym (c.read_message.ensures fields (rw (c.bytes.ensures.bytes, c.frame.ensures.frame) has))
      ∙ c.in-Ok-New.is ∙ ap (λ (m : Message). Ok m) c.in-Ok-New.field-0-is;
}

pub take_cancel-requires-clause-read : goal.take_cancel-requires-clause-read
take_cancel-requires-clause-read g c = record {
  is_sound = c.bytes.ensures.sound;
  each = λ fields has.
      sym (c.read_message.ensures fields (rw (c.bytes.ensures.bytes, c.frame.ensures.frame) has))
      ∙ c.in-Ok-Cancel.is ∙ ap (λ (m : Message). Ok m) c.in-Ok-Cancel.field-0-is;
}

pub take_replace-requires-clause-read : goal.take_replace-requires-clause-read
take_replace-requires-clause-read g c = record {
  is_sound = c.bytes.ensures.sound;
  each = λ fields has.
      sym (c.read_message.ensures fields (rw (c.bytes.ensures.bytes, c.frame.ensures.frame) has))
      ∙ c.in-Ok-Replace.is ∙ ap (λ (m : Message). Ok m) c.in-Ok-Replace.field-0-is;
}

pub take_report-requires-clause-read : goal.take_report-requires-clause-read
take_report-requires-clause-read g c = record {
  is_sound = c.bytes.ensures.sound;
  each = λ fields has.
      sym (c.read_message.ensures fields (rw (c.bytes.ensures.bytes, c.frame.ensures.frame) has))
      ∙ c.in-Ok-Report.is ∙ ap (λ (m : Message). Ok m) c.in-Ok-Report.field-0-is;
}

pub take_cancel_reject-requires-clause-read : goal.take_cancel_reject-requires-clause-read
take_cancel_reject-requires-clause-read g c = record {
  is_sound = c.bytes.ensures.sound;
  each = λ fields has.
      sym (c.read_message.ensures fields (rw (c.bytes.ensures.bytes, c.frame.ensures.frame) has))
      ∙ c.in-Ok-CancelReject.is ∙ ap (λ (m : Message). Ok m) c.in-Ok-CancelReject.field-0-is;
}

pub returns-in-Ok-Admin-clause-taken : goal.returns-in-Ok-Admin-clause-taken
returns-in-Ok-Admin-clause-taken g c =
    let passes = rw c.sound_text-text.ensures at c.pass_on.ensures.passes in
    inl (quiet_taken c.args.sound.now _ _ _ _ (λ o. o) passes
    (λ fields has session. content_admin _ _ session fields
    (sym (c.read_message.ensures fields (rw (c.bytes.ensures.bytes, c.frame.ensures.frame) has))
    ∙ c.in-Ok-Admin.is ∙ ap (λ (m : Message). Ok m) c.in-Ok-Admin.field-0-is)))

pub returns-in-Ok-Other-clause-taken : goal.returns-in-Ok-Other-clause-taken
returns-in-Ok-Other-clause-taken g c =
    let passes = rw c.sound_text-text.ensures at c.pass_on-in-Ok-Other.ensures.passes in
    inl (quiet_taken c.args.sound.now _ _ _ _ (λ o. o) passes
    (λ fields has session. content_other _ _ session fields
    (sym (c.read_message.ensures fields (rw (c.bytes.ensures.bytes, c.frame.ensures.frame) has))
    ∙ c.in-Ok-Other.is ∙ ap (λ (m : Message). Ok m) c.in-Ok-Other.field-0-is)))

pub returns-in-Err-clause-taken : goal.returns-in-Err-clause-taken
returns-in-Err-clause-taken g c =
    let passes = rw c.sound_text-text.ensures at c.pass_on-in-Err.ensures.passes in
    inl (quiet_taken c.args.sound.now _ _ _ _ (λ o. o) passes
    (λ fields has session. content_faulty _ _ session fields _
    (sym (c.read_message.ensures fields (rw (c.bytes.ensures.bytes, c.frame.ensures.frame) has))
    ∙ c.in-Err.is)))
