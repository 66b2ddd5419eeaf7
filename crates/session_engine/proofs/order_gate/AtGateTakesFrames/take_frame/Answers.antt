-- A frame that is sound or isn't leads to the next session.
use Rattle.std.proofs.Common.{◌≡◌, ap, ◌∙◌, refl, Result, Ok, Err, IfErr}
use Rattle.std.specs.Result.{IsErrAnd}
use Rattle.frame_run.specs.Frames.{FrameIn}
use Rattle.gate_ports.specs.declared.ports.PortFault.{PortFault}
use Rattle.gate_ports.specs.declared.ports.PortFault.TheVariants as fault
use Rattle.session_engine.proofs.TakenFrames.{ready_reserved, ready_taken, took_unsound}
use Rattle.session_engine.proofs.TakenFrames.{took_sound, took_kept, stopped_sound, stopped_result}
use Rattle.session_engine.proofs.TakenFrames.{stopped_before}
use Rattle.session_engine.proofs.Giving.{taken_whole}
use Rattle.session_engine.proofs.order_gate.AtGateTakesFrames.take_frame.Goals as goal

-- a refusal that is handed on is the same
handed_on : (r : Result (Unit {0}) PortFault) (why : PortFault) → IsErrAnd r (λ e. e ≡ why)
    → why ≡ fault.Memory → IfErr r (λ e. e ≡ fault.Memory)
handed_on (Ok done) why on is = tt
handed_on (Err e) why on is = on ∙ is

pub note_frame-requires : goal.note_frame-requires
note_frame-requires g c =
    let under = c.requires.ready in
    let took = rw (← c.self.view_is) at under.took in
    record {
      ready = ready_reserved g.K.Screen.meaning under.start c.self.inside.session
          c.reserve.new.self under.frames took under.few
          c.reserve.ensures.continues.desk_is.limits_are c.reserve.ensures.kept
          (c.in_ok-reserve.ensures.room refl);
    }

pub returns-in_default-clause-took : goal.returns-in_default-clause-took
returns-in_default-clause-took g c = λ taken input start frames next frame took.
    let whole : FrameIn = record { bytes = c.args.bytes.now; frame = c.args.frame.now } in
    let own = rw (← c.self.view_is) at took in
    took_unsound g.K.Screen.meaning whole start c.reserve.new.self c.note_frame.new.self frames next
    c.note_frame.ensures.continues c.note_frame.ensures.noted c.in_default.ensures.none frame.stands
    (took_kept g.K.Screen.meaning start c.self.inside.session c.reserve.new.self frames
    c.reserve.ensures.continues c.reserve.ensures.kept own)

pub take_sound-requires : goal.take_sound-requires
take_sound-requires g c =
    let under = c.requires.ready in
    let took = rw (← c.self.view_is) at under.took in
    let stands = c.requires.stands in
    let some = c.in-Some.ensures.some in
    record {
      ready = ready_taken g.K.Screen.meaning c.in-Some.sound c.reserve.new.self
          c.take_up.new.self stands.0
          (ready_reserved g.K.Screen.meaning under.start c.self.inside.session c.reserve.new.self
          under.frames took under.few c.reserve.ensures.continues.desk_is.limits_are
          c.reserve.ensures.kept (c.in_ok-reserve.ensures.room refl))
          c.take_up.ensures.same c.take_up.ensures.counted
          (rw some (c.in-Some.ensures.sound refl)) (rw some stands.1);
    }

pub returns-clause-took : goal.returns-clause-took
returns-clause-took g c = λ taken input start frames next frame took.
    let own = rw (← c.self.view_is) at took in
    let some = c.in-Some.ensures.some in
    took_sound g.K.Screen.meaning c.in-Some.sound c.reserve.new.self c.take_up.new.self
    c.take_up.ensures.same c.take_up.ensures.counted c.take_up.ensures.screens next
    (rw some (c.in-Some.ensures.sound refl)) (rw some frame.stands) start
    c.take_sound.new.self frames c.take_sound.ensures.continues
    (taken_whole g.K.Screen.meaning c.in-Some.sound _ _ c.take_up.new.self c.take_sound.new.self
    c.take_sound.ensures.taken taken)
    (took_kept g.K.Screen.meaning start c.self.inside.session c.reserve.new.self frames
    c.reserve.ensures.continues c.reserve.ensures.kept own)

-- refused, it was taken but for the end of its message
pub returns-clause-stopped : goal.returns-clause-stopped
returns-clause-stopped g c =
    rw (← c.self.view_is) (stopped_result g.K.Screen.meaning c.args.bytes.now c.args.frame.now
    c.self.inside.session c.take_sound.new.self c.take_sound.result
    (λ why is input start frames next frame took.
    let some = c.in-Some.ensures.some in
    stopped_sound g.K.Screen.meaning c.in-Some.sound c.reserve.new.self c.take_up.new.self
    c.take_up.ensures.same c.take_up.ensures.counted c.take_up.ensures.screens next
    (rw some (c.in-Some.ensures.sound refl)) (rw some frame.stands) start
    c.take_sound.new.self frames why _ _
    (λ (failed : why ≡ fault.Failed). is ∙ ap (λ (e : PortFault). Err e) failed)
    c.take_sound.ensures.continues c.take_sound.ensures.taken
    (took_kept g.K.Screen.meaning start c.self.inside.session c.reserve.new.self frames
    c.reserve.ensures.continues c.reserve.ensures.kept took)))

-- no room was left for it
pub returns-in_err-reserve-clause-stopped : goal.returns-in_err-reserve-clause-stopped
returns-in_err-reserve-clause-stopped g c =
    rw (← c.self.view_is) (stopped_before g.K.Screen.meaning c.args.bytes.now c.args.frame.now
    c.self.inside.session c.reserve.new.self c.from_residual.result
    (handed_on c.from_residual.result c.in_err-reserve.field-0.0 c.from_residual.ensures.1
    c.in_err-reserve.ensures.refused)
    (λ start frames took.
    took_kept g.K.Screen.meaning start c.self.inside.session c.reserve.new.self frames
    c.in_err-reserve.ensures.continues c.in_err-reserve.ensures.kept took))
