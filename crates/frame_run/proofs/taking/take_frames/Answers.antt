-- Frame by frame, and where the run stops.
use Rattle.std.proofs.Common.{◌≡◌, ◌+◌, ◌∙◌, arith, ap, subst, refl}
use Rattle.std.specs.Result.{is_ok}
use Rattle.frame_run.specs.Ends.{EndsBy}
use Rattle.frame_run.proofs.Endings.{no_read_fault, said_by_input, whole_is_open}
use Rattle.frame_run.proofs.Endings.{broken_is_behind, refused_not_broken}
use Rattle.frame_run.proofs.Streaming.{streams_none, streams_on, comes_to, takes_come}
use Rattle.frame_run.proofs.Streaming.{fetches_come, fetches_short, under_way, frame_ends_within}
use Rattle.frame_run.proofs.Streaming.{stops_at, stops_reading, stops_by_input}
use Rattle.fix_fields.specs.FrameBuffers.{BufferValue}
use Rattle.fix_fields.specs.Windows.{moved}
use Rattle.frame_run.proofs.taking.take_frames.Goals as goal

-- before the first frame
pub loop-ahead-init : goal.loop-ahead-init
loop-ahead-init g c = record {
  streams = streams_none g.T.TakesFrames.Took c.args.taker.now (g.S.Source.left c.args.source.now)
      c.args.buffer.now c.requires.empty.0 c.requires.empty.1 c.requires.fresh;
  count = 0;
  few = omega arith;
  after = g.met.T.TakesFrames.after_none c.args.taker.now;
  source_later = omega arith;
  source_name = refl;
}

pub take_frame-requires-clause-ready : goal.take_frame-requires-clause-ready
take_frame-requires-clause-ready g c =
    under_way _ _ _ _ _ _ _ _ _ _ c.loop-ahead.invariant.streams c.in-Ok.ensures.ok
    c.in-Frame.frame c.in-Frame.is

-- a fetch failed
pub returns-in_default-clause-fetched : goal.returns-in_default-clause-fetched
returns-in_default-clause-fetched g c =
    fetches_short _ _ _ _ _
    (stops_reading _ _ _ _ _ _ _ _ c.loop-ahead.invariant.streams (c.in_default.ensures.fails refl))

pub returns-in_default-clause-stopped : goal.returns-in_default-clause-stopped
returns-in_default-clause-stopped g c =
    stops_reading _ _ _ _ _ _ _ _ c.loop-ahead.invariant.streams (c.in_default.ensures.fails refl)

-- what stands next is no frame
pub returns-in_default-next : goal.returns-in_default-next
returns-in_default-next g c =
    let look = c.in-Ok.ensures.ok in
    let ahead = c.in-Ok.ahead in
    let own = c.loop-ahead.invariant in
    let come = comes_to _ _ _ _ _ _ _ _ _ ahead own.streams look in
    let end_is : EndsBy ahead.goes_on (moved c.look_ahead.new.buffer.base ahead.next)
    c.end_after.result =
    subst (λ b. EndsBy ahead.goes_on (moved b ahead.next) c.end_after.result) c.base.ensures
    c.end_after.ensures in
    record {
      follows = λ by_input.
          takes_come _ _ _ _ _ _ _ _ _ ahead c.end_after.result look come end_is;
      stopped = stops_by_input _ g.T.TakesFrames.Stopped _ _ _ _ c.end_after.result
          (said_by_input ahead.goes_on _ c.end_after.result end_is);
      after = (own.count, omega (arith, own.few, own.streams.few), own.after);
      fetched = fetches_come _ _ _ _ _ _ _ _ _ ahead own.streams look c.end_after.result
          (λ place is. broken_is_behind ahead.goes_on _ ahead.next _ place end_is is);
      read_fault = λ is. absurd (no_read_fault _ _ _ end_is is);
      whole = λ is.
          let w = whole_is_open ahead.goes_on _ ahead.next _ end_is is in
          (look.whole w.0 w.1).0;
      source_later = omega (arith, own.source_later, c.in-Ok.ensures.cause.later);
      source_name = c.in-Ok.ensures.name ∙ own.source_name;
    }

-- one frame more
pub loop-ahead-preserved : goal.loop-ahead-preserved
loop-ahead-preserved g c =
    let own = c.loop-ahead.invariant in
    let look = c.in-Ok.ensures.ok in
    let frame = c.in-Frame.frame in
    let base : c.pass.new.self.base ≡ c.look_ahead.new.buffer.base + frame.end =
    ap (λ (b : BufferValue). b.base) c.pass.ensures in
    let some = frame_ends_within c.look_ahead.new.buffer.held frame c.in-Ok.ahead.next
    c.in-Frame.is look.finds in
    record {
      streams = streams_on _ _ _ _ _ _ _ _ _ c.in-Ok.ahead own.streams look _ frame
          c.bytes.result.now _ c.in-Frame.is c.bytes.ensures.held
          (c.take_frame.ensures.took (ap is_ok c.in_default-take_frame.is)) c.pass.ensures;
      count = own.count + 1;
      few = omega (arith, own.few, base, some.some, look.later);
      after = g.met.T.TakesFrames.after_next _ _ _ own.count 1 own.after c.take_frame.ensures.after;
      source_later = omega (arith, own.source_later, c.in-Ok.ensures.cause.later);
      source_name = c.in-Ok.ensures.name ∙ own.source_name;
    }

-- a frame was refused
pub returns-in-Err-clause-fetched : goal.returns-in-Err-clause-fetched
returns-in-Err-clause-fetched g c =
    fetches_come _ _ _ _ _ _ _ _ _ c.in-Ok.ahead c.loop-ahead.invariant.streams c.in-Ok.ensures.ok
    c.end_by.result
    (λ place is.
    absurd (refused_not_broken c.in-Err.fault c.end_by.result place c.end_by.ensures is))

pub returns-in-Err-clause-stopped : goal.returns-in-Err-clause-stopped
returns-in-Err-clause-stopped g c = rw c.end_by.ensures
    (stops_at _ _ _ _ _ _ _ _ _ c.in-Ok.ahead c.loop-ahead.invariant.streams c.in-Ok.ensures.ok
    g.T.TakesFrames.Stopped c.in-Err.fault c.in-Frame.frame c.bytes.result.now _ c.in-Frame.is
    c.bytes.ensures.held c.in-Err.ensures.stopped)

pub returns-in-Err-clause-after : goal.returns-in-Err-clause-after
returns-in-Err-clause-after g c =
    let own = c.loop-ahead.invariant in
    let look = c.in-Ok.ensures.ok in
    let within = frame_ends_within c.look_ahead.new.buffer.held c.in-Frame.frame c.in-Ok.ahead.next
    c.in-Frame.is look.finds in (
      own.count + 1,
      omega (arith, own.few, look.later, look.few, within.some, within.inside),
      g.met.T.TakesFrames.after_next _ _ _ own.count 1 own.after c.take_frame.ensures.after,
    )
