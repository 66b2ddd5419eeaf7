-- A frame that is sound or isn't leads to the next session.
use Rattle.std.proofs.Common.{◌≡◌, ◌∙◌, arith, inl, refl, subst}
use Rattle.std.specs.Prelude.{Result, Ok, Err, IfErr, None}
use Rattle.std.specs.Result.{IsErrAnd}
use Rattle.frame_run.specs.Frames.{FrameIn, text_in}
use Rattle.gate_ports.specs.declared.ports.PortFault.{PortFault}
use Rattle.gate_ports.specs.declared.ports.PortFault.TheVariants as fault
use Rattle.cross_guard.specs.Crossing.{TakesFrom, TakesSound, frame_acts}
use Rattle.cross_guard.specs.Lasting.{continues_most}
use Rattle.cross_guard.specs.Session.{after_frame}
use Rattle.cross_guard.proofs.Readied.{ready, steps_sound, steps_unsound, stopped_before}
use Rattle.cross_guard.proofs.Readied.{stops_or_none, takes_or_none}
use Rattle.cross_guard.proofs.Taken.{unsound_taken}
use Rattle.cross_guard.proofs.take.CrossSessionTakesFrames.take_frame.Goals as goal

-- a refusal that is handed on is the same
handed_on : (r : Result (Unit {0}) PortFault) (why : PortFault) → IsErrAnd r (λ e. e ≡ why)
    → why ≡ fault.Memory → IfErr r (λ e. e ≡ fault.Memory)
handed_on (Ok done) why on is = tt
handed_on (Err e) why on is = on ∙ is

pub frame_text-requires : goal.frame_text-requires
frame_text-requires g c =
    let stands = c.requires.stands in (stands.1.0, stands.0, stands.1.1)

pub pass_on-requires : goal.pass_on-requires
pass_on-requires g c =
    let under = c.requires.ready in
    (ready g.H.Hand.SameOrigin under.input under.start c.args.self.now under.frames under.took
    c.reserve.new.self under.few c.reserve.ensures.continues c.reserve.ensures.kept
    (c.in_ok-reserve.ensures.room refl)).frames

pub take_sound-requires : goal.take_sound-requires
take_sound-requires g c =
    let under = c.requires.ready in
    record {
      ready = ready g.H.Hand.SameOrigin under.input under.start c.args.self.now under.frames
          under.took c.reserve.new.self under.few c.reserve.ensures.continues
          c.reserve.ensures.kept (c.in_ok-reserve.ensures.room refl);
    }

pub returns-in_default-clause-took : goal.returns-in_default-clause-took
returns-in_default-clause-took g c = λ ok.
    let bytes = c.args.bytes.now in
    let frame = c.args.frame.now in
    let reserved = c.reserve.new.self in
    let now = c.pass_on.new.self in
    takes_or_none g.H.Hand.SameOrigin g.met.H.Hand.origin_next bytes frame c.args.self.now reserved now
    c.reserve.ensures.continues c.reserve.ensures.kept
    (continues_most g.H.Hand.SameOrigin reserved now 0 frame_acts c.pass_on.ensures.continues
    (omega arith))
    (TakesFrom (after_frame reserved.limits (text_in bytes frame) None))
    (steps_unsound bytes frame reserved.limits c.in_default.ensures.none) c.pass_on.result _
    (inl (unsound_taken reserved.limits (text_in bytes frame) reserved now _ _
    (rw c.frame_text.ensures at c.pass_on.ensures.passes))) ok

pub returns-in_default-clause-stopped : goal.returns-in_default-clause-stopped
returns-in_default-clause-stopped g c =
    let bytes = c.args.bytes.now in
    let frame = c.args.frame.now in
    let reserved = c.reserve.new.self in
    let now = c.pass_on.new.self in
    stops_or_none g.H.Hand.SameOrigin g.met.H.Hand.origin_next bytes frame c.args.self.now reserved now
    c.reserve.ensures.continues c.reserve.ensures.kept
    (continues_most g.H.Hand.SameOrigin reserved now 0 frame_acts c.pass_on.ensures.continues
    (omega arith))
    (TakesFrom (after_frame reserved.limits (text_in bytes frame) None))
    (steps_unsound bytes frame reserved.limits c.in_default.ensures.none) c.pass_on.result
    (inl (unsound_taken reserved.limits (text_in bytes frame) reserved now _ _
    (rw c.frame_text.ensures at c.pass_on.ensures.passes)))

pub returns-clause-took : goal.returns-clause-took
returns-clause-took g c = λ ok.
    let bytes = c.args.bytes.now in
    let frame = c.args.frame.now in
    let reserved = c.reserve.new.self in
    takes_or_none g.H.Hand.SameOrigin g.met.H.Hand.origin_next bytes frame c.args.self.now reserved
    c.take_sound.new.self c.reserve.ensures.continues c.reserve.ensures.kept
    c.take_sound.ensures.continues (TakesSound reserved.limits c.in-Some.sound)
    (λ input next is a b step. steps_sound bytes frame reserved.limits (c.in-Some.ensures.sound refl)
    input next is a b
    (subst (λ (f : FrameIn). TakesSound reserved.limits f a b) c.in-Some.ensures.some step))
    c.take_sound.result _ c.take_sound.ensures.taken ok

pub returns-clause-stopped : goal.returns-clause-stopped
returns-clause-stopped g c =
    let bytes = c.args.bytes.now in
    let frame = c.args.frame.now in
    let reserved = c.reserve.new.self in
    stops_or_none g.H.Hand.SameOrigin g.met.H.Hand.origin_next bytes frame c.args.self.now reserved
    c.take_sound.new.self c.reserve.ensures.continues c.reserve.ensures.kept
    c.take_sound.ensures.continues (TakesSound reserved.limits c.in-Some.sound)
    (λ input next is a b step. steps_sound bytes frame reserved.limits (c.in-Some.ensures.sound refl)
    input next is a b
    (subst (λ (f : FrameIn). TakesSound reserved.limits f a b) c.in-Some.ensures.some step))
    c.take_sound.result c.take_sound.ensures.taken

-- no room was left for it
pub returns-in_err-reserve-clause-stopped : goal.returns-in_err-reserve-clause-stopped
returns-in_err-reserve-clause-stopped g c =
    stopped_before g.H.Hand.SameOrigin c.args.bytes.now c.args.frame.now c.args.self.now
    c.reserve.new.self 0 c.from_residual.result
    (handed_on c.from_residual.result c.in_err-reserve.field-0.0 c.from_residual.ensures.1
    c.in_err-reserve.ensures.refused) c.in_err-reserve.ensures.continues c.in_err-reserve.ensures.kept
