-- A request was decided on, told and answered.
use Rattle.std.proofs.Common.{map, refl, ap, ◌∙◌}
use Rattle.fix_orders.specs.declared.message.Message.TheVariants as message
use Rattle.fix_orders.specs.declared.message.Stamp.{Stamp}
use Rattle.order_desk.specs.Desks.{DeskValue}
use Rattle.fix_orders.specs.Writing.{cancel_reject_fields}
use Rattle.session_engine.proofs.Answered.{answer_time, passes, sent_taken, refused_taken}
use Rattle.session_engine.proofs.MessageFacts.{id_read, orig_read}
use Rattle.session_engine.proofs.RefusalTexts.{request_refused}
use Rattle.session_engine.proofs.RequestFrames.{cancel_asked, cancel_decides}
use Rattle.session_engine.proofs.session.Session.take_cancel.Goals as goal

pub forward-requires-clause-passed : goal.forward-requires-clause-passed
forward-requires-clause-passed g c =
    passes c.args.sound.now (message.Cancel c.args.cancel.now) c.requires.read refl

pub forward-requires-clause-time : goal.forward-requires-clause-time
forward-requires-clause-time g c = λ fields has.
    ap (λ (s : Stamp). s.time) c.tell_answer-stamp.ensures.stamp
    ∙ answer_time c.decide_cancel-refusal.result _ _ _
    ∙ ((cancel_asked c.args.cancel.now).facts fields (c.requires.read.each fields has)).time

-- sent, it went on to the venue
pub returns-in-None-clause-taken : goal.returns-in-None-clause-taken
returns-in-None-clause-taken g c =
    sent_taken g.K.Screen.meaning _ _ (cancel_asked c.args.cancel.now) c.args.sound.now
    c.args.self.now _ c.decide_cancel-refusal.new.desk c.decide_cancel-refusal.result c.tell_answer-stamp.new.self
    _ c.self.view_is c.self-2.view_is c.requires.read
    (ap (λ (d : DeskValue _ _ _). d.limits) c.decide_cancel-refusal.ensures.same)
    (cancel_decides c.args.cancel.now c.self.inside.desk c.decide_cancel-refusal.new.desk c.decide_cancel-refusal.result
    c.decide_cancel-refusal.ensures.same c.decide_cancel-refusal.ensures.decides)
    (ap (λ (d : DeskValue _ _ _). map g.K.Screen.meaning d.screens) c.decide_cancel-refusal.ensures.same) c.tell_answer-stamp.ensures.told _
    c.tell_answer-stamp.result c.in-None.is c.tell_answer-stamp.ensures.stamp
    c.forward.ensures.given c.forward.ensures.cause

pub returns-in-Some-clause-taken : goal.returns-in-Some-clause-taken
returns-in-Some-clause-taken g c =
    refused_taken g.K.Screen.meaning _ _ (cancel_asked c.args.cancel.now) c.args.sound.now
    c.args.self.now _ c.decide_cancel-refusal.new.desk c.decide_cancel-refusal.result c.tell_answer-stamp.new.self
    _ c.self.view_is c.self-2.view_is c.requires.read
    (ap (λ (d : DeskValue _ _ _). d.limits) c.decide_cancel-refusal.ensures.same)
    (cancel_decides c.args.cancel.now c.self.inside.desk c.decide_cancel-refusal.new.desk c.decide_cancel-refusal.result
    c.decide_cancel-refusal.ensures.same c.decide_cancel-refusal.ensures.decides)
    (ap (λ (d : DeskValue _ _ _). map g.K.Screen.meaning d.screens) c.decide_cancel-refusal.ensures.same) c.tell_answer-stamp.ensures.told _
    c.give_written.ensures.given.whole c.tell_answer-stamp.result c.in-Some.why c.in-Some.is
    c.tell_answer-stamp.ensures.stamp c.give_written.ensures.given.front
    (λ fields has time_is.
    let whole = message.Cancel c.args.cancel.now in
    let own = c.requires.read.each fields has in
    request_refused _ _ fields c.tell_answer-stamp.result time_is 1 _ _
    c.request_reason_of.result c.bytes.result.now c.in-Some.why
    (id_read fields whole own) (orig_read fields whole own)
    c.request_reason_of.ensures (c.bytes.ensures ∙ c.text_of-text.ensures.text)
    (c.give_written.ensures.given.says (cancel_reject_fields c.args.cancel.now.id
    c.args.cancel.now.orig c.tell_answer-stamp.result 1 c.request_reason_of.result
    c.bytes.result.now) c.write_reject_cancel.ensures))
    c.give_written.ensures.cause
