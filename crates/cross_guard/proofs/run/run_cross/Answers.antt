-- The hand, the source and the sinks at the end.
use Rattle.std.proofs.Common.{◌≡◌, [], ◌∷◌, length, refl, sym, ap, ◌∙◌, arith, inl}
use Rattle.std.proofs.lemmas.List.{length-append}
use Rattle.frame_run.proofs.Streaming.{fetches_none}
use Rattle.risk_journal.specs.declared.acts.Act.TheVariants.{Ended}
use Rattle.cross_guard.specs.Crossing.{Crossing}
use Rattle.cross_guard.specs.Lasting.{AreSinksDone, same_sink}
use Rattle.cross_guard.proofs.Stopping.{first_calls, first_ends, first_few, first_room}
use Rattle.cross_guard.proofs.Stopping.{follows_by, follows_first, sink_failed}
use Rattle.cross_guard.proofs.TookFrames.{took_none}
use Rattle.cross_guard.proofs.run.run_cross.Goals as goal

pub take_input-end-requires : goal.take_input-end-requires
take_input-end-requires g c = record {
  fresh = λ input. took_none input c.open-session.result (rw c.open-session.ensures (record {
    acts = c.in-Ok.ensures.ok.acts_are;
    over = c.in-Ok.ensures.ok.over;
    orders = refl;
    frames = refl;
    refused = refl;
  }));
}

pub returns-clause-follows : goal.returns-clause-follows
returns-clause-follows g c = λ place.
    let now = c.take_input-end.new.taker in
    let from_open = follows_by c.open-session.result now (g.S.Source.left c.args.source)
    (g.S.Source.left c.take_input-end.new.source) c.take_input-end.result
    c.take_input-end.ensures.follows c.take_input-end.ensures.stopped place in
    let from_start = rw c.open-session.ensures at from_open in
    rw (
      c.close.ensures.acts,
      c.close.ensures.end,
      c.close.ensures.source,
      c.close.ensures.pass,
      c.close.ensures.client,
    ) from_start

-- where memory was wanting at the beginning, no frame was taken
pub returns-in-Err-clause-follows : goal.returns-in-Err-clause-follows
returns-in-Err-clause-follows g c = λ place.
    rw c.without_frames.ensures
    (follows_first _ (g.S.Source.left c.args.source) c.in-Err.ended.acts.items _ _ _
    c.in-Err.ensures.ended place)

pub returns-clause-origin : goal.returns-clause-origin
returns-clause-origin g c =
    let from_open = c.take_input-end.ensures.after.2.told_is.hand_is in
    let from_told = rw c.open-session.ensures at from_open in
    let from_hand = rw c.in-Ok.ensures.ok.hand_is at from_told in
    rw c.close.ensures.hand from_hand

pub returns-clause-sinks : goal.returns-clause-sinks
returns-clause-sinks g c =
    let after = c.take_input-end.ensures.after.2 in
    let start = c.open-session.result in
    let now = c.take_input-end.new.taker in
    let from_open : AreSinksDone start.pass now.pass start.client now.client c.take_input-end.result =
    record {
      pass_later = after.pass_is;
      client_later = after.client_is;
      failed = sink_failed start now (g.S.Source.left c.args.source)
          (g.S.Source.left c.take_input-end.new.source) c.take_input-end.result
          c.take_input-end.ensures.stopped;
    } in
    let from_start = rw c.open-session.ensures at from_open in
    rw (c.close.ensures.end, c.close.ensures.pass, c.close.ensures.client) from_start

pub returns-clause-ends : goal.returns-clause-ends
returns-clause-ends g c = rw c.close.ensures.end (inl (_, c.close.ensures.acts))

pub returns-clause-no_room : goal.returns-clause-no_room
returns-clause-no_room g c = λ none.
    let acts = c.take_input-end.new.taker.told.acts in
    absurd (omega (
      arith,
      ap length (sym c.close.ensures.acts ∙ none),
      length-append acts (Ended c.take_input-end.result ∷ []),
    ))

pub returns-clause-few : goal.returns-clause-few
returns-clause-few g c =
    let after = c.take_input-end.ensures.after in
    let acts = c.take_input-end.new.taker.told.acts in
    let first : length c.open-session.result.told.acts ≡ 0 =
    ap (λ (r : Crossing _). length r.told.acts) c.open-session.ensures
    ∙ ap length c.in-Ok.ensures.ok.acts_are in
    omega (
      arith,
      after.1,
      after.2.told_is.few,
      first,
      ap length c.close.ensures.acts,
      length-append acts (Ended c.take_input-end.result ∷ []),
    )

pub returns-in-Err-clause-origin : goal.returns-in-Err-clause-origin
returns-in-Err-clause-origin g c =
    rw (c.without_frames.ensures, c.in-Err.ensures.back) (g.met.H.Hand.origin_same c.args.hand)

pub returns-in-Err-clause-calls : goal.returns-in-Err-clause-calls
returns-in-Err-clause-calls g c =
    rw (c.without_frames.ensures, c.in-Err.ensures.back)
    (c.requires.idle ∙ sym (first_calls c.in-Err.ended.acts.items _ c.in-Err.ensures.ended))

pub returns-in-Err-clause-source : goal.returns-in-Err-clause-source
returns-in-Err-clause-source g c = rw c.without_frames.ensures (record {
  fetched = fetches_none (g.S.Source.left c.args.source);
  later = omega arith;
  name_is = refl;
  failed = λ is. absurd cc;
  whole = λ is. absurd cc;
})

pub returns-in-Err-clause-sinks : goal.returns-in-Err-clause-sinks
returns-in-Err-clause-sinks g c = rw c.without_frames.ensures (record {
  pass_later = same_sink _;
  client_later = same_sink _;
  failed = λ is. absurd cc;
})

pub returns-in-Err-clause-ends : goal.returns-in-Err-clause-ends
returns-in-Err-clause-ends g c =
    rw c.without_frames.ensures (first_ends c.in-Err.ended.acts.items _ c.in-Err.ensures.ended)

pub returns-in-Err-clause-no_room : goal.returns-in-Err-clause-no_room
returns-in-Err-clause-no_room g c =
    rw c.without_frames.ensures (first_room c.in-Err.ended.acts.items _ c.in-Err.ensures.ended)

pub returns-in-Err-clause-few : goal.returns-in-Err-clause-few
returns-in-Err-clause-few g c =
    rw c.without_frames.ensures
    (omega (arith, first_few c.in-Err.ended.acts.items _ c.in-Err.ensures.ended))
