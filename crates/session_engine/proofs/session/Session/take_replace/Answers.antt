-- A request was decided on, told and answered.
use Rattle.std.proofs.Common.{map, refl, sym, ap, ◌∙◌, subst}
use Rattle.fix_orders.specs.declared.message.Message.TheVariants as message
use Rattle.fix_orders.specs.declared.message.Stamp.{Stamp}
use Rattle.order_desk.specs.Backing.{Covers}
use Rattle.order_desk.proofs.HaltKept.{replace_keeps}
use Rattle.fix_orders.specs.Writing.{cancel_reject_fields}
use Rattle.session_engine.proofs.Answered.{answer_time, passes, sent_taken, refused_taken}
use Rattle.session_engine.proofs.Answered.{continues_answered}
use Rattle.session_engine.proofs.MessageFacts.{id_read, orig_read}
use Rattle.session_engine.proofs.RefusalTexts.{request_refused}
use Rattle.session_engine.proofs.RequestFrames.{replace_asked, decided_trips}
use Rattle.session_engine.proofs.session.Session.take_replace.Goals as goal

-- what was decided tripped nothing
pub tell_answer-stamp-requires-clause-trips : goal.tell_answer-stamp-requires-clause-trips
tell_answer-stamp-requires-clause-trips g c =
    let ready = rw (← c.self.view_is) at c.requires.ready in
    rw c.decide_replace-refusal.ensures.later.limits_are
    (decided_trips c.self.inside.desk.limits _ _ _ _ _ _ _
    (λ before is. replace_keeps c.self.inside.desk.limits c.args.replace.now
    (map g.K.Screen.meaning c.self.inside.desk.screens) c.self.inside.desk.book.value before
    (subst (λ acts. Covers c.self.inside.desk.limits acts c.self.inside.desk.book.value) (sym is)
    c.is_covered.ensures.covers))
    c.decide_replace-refusal.ensures.decides ready.trips)

pub forward-requires-clause-passed : goal.forward-requires-clause-passed
forward-requires-clause-passed g c =
    passes c.args.sound.now (message.Replace c.args.replace.now) c.requires.read refl

pub forward-requires-clause-time : goal.forward-requires-clause-time
forward-requires-clause-time g c = λ fields has.
    ap (λ (s : Stamp). s.time) c.tell_answer-stamp.ensures.stamp
    ∙ answer_time c.decide_replace-refusal.result _ _ _
    ∙ ((replace_asked c.args.replace.now).facts fields (c.requires.read.each fields has)).time

-- sent, it went on to the venue
pub returns-in-None-clause-taken : goal.returns-in-None-clause-taken
returns-in-None-clause-taken g c =
    sent_taken g.K.Screen.meaning _ _ (replace_asked c.args.replace.now) c.args.sound.now
    c.args.self.now _ c.decide_replace-refusal.new.desk c.decide_replace-refusal.result c.tell_answer-stamp.new.self
    _ c.self.view_is c.self-2.view_is c.requires.read
    c.decide_replace-refusal.ensures.later.limits_are c.decide_replace-refusal.ensures.decides
    c.decide_replace-refusal.ensures.screens c.tell_answer-stamp.ensures.told _
    c.tell_answer-stamp.result c.in-None.is c.tell_answer-stamp.ensures.stamp
    c.forward.ensures.given c.forward.ensures.cause

-- refused, the client was told so
pub returns-in-Some-clause-continues : goal.returns-in-Some-clause-continues
returns-in-Some-clause-continues g c =
    continues_answered g.H.Hand.SameOrigin g.M.Hand.SameOrigin g.met.H.Hand.origin_next
    g.met.M.Hand.origin_next c.args.self.now _ c.decide_replace-refusal.new.desk c.tell_answer-stamp.new.self _ _
    c.self.view_is c.self-2.view_is c.decide_replace-refusal.ensures.later c.tell_answer-stamp.ensures.continues
    (record { name_is = c.give_written.ensures.name; faults_are = c.give_written.ensures.cause.later })

pub returns-in-Some-clause-taken : goal.returns-in-Some-clause-taken
returns-in-Some-clause-taken g c =
    refused_taken g.K.Screen.meaning _ _ (replace_asked c.args.replace.now) c.args.sound.now
    c.args.self.now _ c.decide_replace-refusal.new.desk c.decide_replace-refusal.result c.tell_answer-stamp.new.self
    _ c.self.view_is c.self-2.view_is c.requires.read
    c.decide_replace-refusal.ensures.later.limits_are c.decide_replace-refusal.ensures.decides
    c.decide_replace-refusal.ensures.screens c.tell_answer-stamp.ensures.told _
    c.give_written.ensures.given.whole c.tell_answer-stamp.result c.in-Some.why c.in-Some.is
    c.tell_answer-stamp.ensures.stamp c.give_written.ensures.given.front
    (λ fields has time_is.
    let whole = message.Replace c.args.replace.now in
    let own = c.requires.read.each fields has in
    request_refused _ _ fields c.tell_answer-stamp.result time_is 2 _ _
    c.request_reason_of.result c.bytes.result.now c.in-Some.why
    (id_read fields whole own) (orig_read fields whole own)
    c.request_reason_of.ensures (c.bytes.ensures ∙ c.text_of-text.ensures.text)
    (c.give_written.ensures.given.says (cancel_reject_fields c.args.replace.now.id
    c.args.replace.now.orig c.tell_answer-stamp.result 2 c.request_reason_of.result
    c.bytes.result.now) c.write_reject_cancel.ensures))
    c.give_written.ensures.cause
