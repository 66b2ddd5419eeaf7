-- A report was settled, told and passed on.
use Rattle.std.proofs.Common.{refl, ap, ◌∙◌, subst}
use Rattle.std.specs.Io.KnownBytes.{Appends}
use Rattle.fix_orders.specs.declared.message.Message.TheVariants as message
use Rattle.fix_orders.specs.declared.message.Stamp.{Stamp}
use Rattle.session_engine.specs.Answers.{forward_text}
use Rattle.session_engine.proofs.Answered.{passes, report_taken}
use Rattle.session_engine.proofs.ReportFrames.{reject_told}
use Rattle.session_engine.proofs.session.Session.take_cancel_reject.Goals as goal

pub forward-requires-clause-passed : goal.forward-requires-clause-passed
forward-requires-clause-passed g c =
    passes c.args.sound.now (message.CancelReject c.args.reject.now) c.requires.read refl

pub forward-requires-clause-time : goal.forward-requires-clause-time
forward-requires-clause-time g c = λ fields has.
    ap (λ (s : Stamp). s.time) c.tell_effect-stamp.ensures.stamp
    ∙ ((reject_told c.args.reject.now).facts fields (c.requires.read.each fields has)).time

pub returns-clause-taken : goal.returns-clause-taken
returns-clause-taken g c =
    report_taken g.K.Screen.meaning _ _ (reject_told c.args.reject.now) c.args.sound.now c.args.self.now _
    c.settle-effect.new.desk c.settle-effect.result c.tell_effect-stamp.new.self _
    c.self.view_is c.self-2.view_is c.requires.read c.settle-effect.ensures.screens
    c.settle-effect.ensures.settled c.tell_effect-stamp.ensures.acts
    c.tell_effect-stamp.ensures.others _ c.forward.ensures.given.whole c.forward.ensures.given.front
    (λ fields has. subst (λ (s : Stamp). Appends (g.C.Sink.held c.self-2.inside.client)
    c.forward.ensures.given.whole (forward_text s.target s.seq fields))
    c.tell_effect-stamp.ensures.stamp (c.forward.ensures.given.says fields has))
    c.forward.ensures.cause
