-- What was read of the frame leads to the next session.
use Rattle.std.proofs.Common.{◌≡◌, refl, sym, ◌∙◌, ap, Ok}
use Rattle.fix_orders.specs.declared.message.Message.{Message}
use Rattle.fix_orders.specs.declared.message.Message.TheVariants as message
use Rattle.fix_orders.specs.Reading.{read_of}
use Rattle.session_engine.specs.Running.{kept_of}
use Rattle.session_engine.specs.Taken.{Kept}
use Rattle.session_engine.proofs.MessageFacts.{was_read}
use Rattle.session_engine.proofs.PassedFrames.{takes_admin, takes_other}
use Rattle.session_engine.proofs.Giving.{takes_all}
use Rattle.session_engine.proofs.session.Session.take_sound.Goals as goal

pub take_faulty-requires-clause-read : goal.take_faulty-requires-clause-read
take_faulty-requires-clause-read g c = λ fields has.
    sym (c.read_message.ensures fields (rw (c.bytes.ensures.bytes, c.frame.ensures.frame) has))
    ∙ c.in-Err.is

pub take_new-requires-clause-read : goal.take_new-requires-clause-read
take_new-requires-clause-read g c = record {
  is_sound = c.bytes.ensures.sound;
  each = λ fields has.
      sym (c.read_message.ensures fields (rw (c.bytes.ensures.bytes, c.frame.ensures.frame) has))
      ∙ c.in-Ok-New.is ∙ ap (λ (m : Message). Ok m) c.in-Ok-New.field-0-is;
}

pub take_cancel-requires-clause-read : goal.take_cancel-requires-clause-read
take_cancel-requires-clause-read g c = record {
  is_sound = c.bytes.ensures.sound;
  each = λ fields has.
      sym (c.read_message.ensures fields (rw (c.bytes.ensures.bytes, c.frame.ensures.frame) has))
      ∙ c.in-Ok-Cancel.is ∙ ap (λ (m : Message). Ok m) c.in-Ok-Cancel.field-0-is;
}

pub take_replace-requires-clause-read : goal.take_replace-requires-clause-read
take_replace-requires-clause-read g c = record {
  is_sound = c.bytes.ensures.sound;
  each = λ fields has.
      sym (c.read_message.ensures fields (rw (c.bytes.ensures.bytes, c.frame.ensures.frame) has))
      ∙ c.in-Ok-Replace.is ∙ ap (λ (m : Message). Ok m) c.in-Ok-Replace.field-0-is;
}

pub take_report-requires-clause-read : goal.take_report-requires-clause-read
take_report-requires-clause-read g c = record {
  is_sound = c.bytes.ensures.sound;
  each = λ fields has.
      sym (c.read_message.ensures fields (rw (c.bytes.ensures.bytes, c.frame.ensures.frame) has))
      ∙ c.in-Ok-Report.is ∙ ap (λ (m : Message). Ok m) c.in-Ok-Report.field-0-is;
}

pub take_cancel_reject-requires-clause-read : goal.take_cancel_reject-requires-clause-read
take_cancel_reject-requires-clause-read g c = record {
  is_sound = c.bytes.ensures.sound;
  each = λ fields has.
      sym (c.read_message.ensures fields (rw (c.bytes.ensures.bytes, c.frame.ensures.frame) has))
      ∙ c.in-Ok-CancelReject.is ∙ ap (λ (m : Message). Ok m) c.in-Ok-CancelReject.field-0-is;
}

pub returns-in-Ok-Admin-clause-taken : goal.returns-in-Ok-Admin-clause-taken
returns-in-Ok-Admin-clause-taken g c =
    rw (← c.self.view_is) (takes_all g.K.Screen.meaning _ _ _ _ _ (λ fields has session own.
    let read : read_of fields ≡ Ok message.Admin = sym (c.read_message.ensures fields
    (rw (c.bytes.ensures.bytes, c.frame.ensures.frame) has)) ∙ c.in-Ok-Admin.is
    ∙ ap (λ (m : Message). Ok m) c.in-Ok-Admin.field-0-is in
    takes_admin c.self.inside.desk.limits fields session _ _
    (was_read fields message.Admin read).asks_are read own refl) refl (λ failed. cc))

pub returns-in-Ok-Other-clause-taken : goal.returns-in-Ok-Other-clause-taken
returns-in-Ok-Other-clause-taken g c = takes_all g.K.Screen.meaning _ _ _ _ _ (λ fields has session own.
    let read : read_of fields ≡ Ok message.Other = sym (c.read_message.ensures fields
    (rw (c.bytes.ensures.bytes, c.frame.ensures.frame) has)) ∙ c.in-Ok-Other.is
    ∙ ap (λ (m : Message). Ok m) c.in-Ok-Other.field-0-is in
    takes_other c.args.self.now.desk.limits fields session
    (kept_of g.K.Screen.meaning c.args.self.now) (kept_of g.K.Screen.meaning c.note_frame.new.self)
    (was_read fields message.Other read).asks_are read own c.note_frame.ensures.noted)
    (ap (λ (k : Kept). k.venue) c.note_frame.ensures.noted)
    (λ failed. cc)
