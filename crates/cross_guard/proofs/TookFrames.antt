-- A session goes on from frame to frame, and follows its input.
use Rattle.std.proofs.Common.{◌≡◌, ℕ, ◌+◌, ◌≤◌, List, [], ◌∷◌, ◌++◌, take, refl, sym, ap, ◌∙◌, arith}
use Rattle.std.proofs.Common.{subst}
use Rattle.std.specs.Prelude.{Option, Some, None}
use Rattle.std.specs.List.{concat}
use Rattle.std.proofs.lemmas.List.{append_assoc, append-nil, length-append, map-append}
use Rattle.fix_fields.specs.Frames.{FrameValue}
use Rattle.limit_table.specs.Trees.{LimitsValue}
use Rattle.risk_journal.specs.declared.acts.Act.{Act}
use Rattle.risk_journal.specs.declared.acts.Act.TheVariants.{Ended}
use Rattle.risk_journal.specs.declared.acts.End.{End}
use Rattle.risk_journal.specs.ActLists.{SeenAt, placed_by, reads_of}
use Rattle.admit_core.proofs.ActLemmas.{reads_of-append}
use Rattle.frame_run.specs.Ends.{input_most}
use Rattle.frame_run.specs.Frames.{text_of}
use Rattle.cross_guard.specs.Giving.{text_in}
use Rattle.frame_run.specs.Taking.{TakesSource}
use Rattle.cross_guard.proofs.Appending.{appends_next, appends_none, concat-with}
use Rattle.cross_guard.specs.Covering.{Covers}
use Rattle.cross_guard.specs.Crossing.{Crossing, IsOpened, TakesFrom, TookBy, TookFrames, kept_of}
use Rattle.cross_guard.specs.Crossing.{with_reads}
use Rattle.cross_guard.specs.Follows.{DoesFrames, FollowsSource, session_of, session_with}
use Rattle.cross_guard.specs.Lasting.{session_by}
use Rattle.cross_guard.specs.Session.{CrossSession, opening, after_frame, after_frames}
use Rattle.cross_guard.specs.Told.{IsOver, Placing, with_places}
use Rattle.cross_guard.proofs.Covered.{covers_first, covers_after}

-- one frame more
pub after_frames-snoc : (limits : LimitsValue) (input : List ℕ) (session : CrossSession)
    (frames : List FrameValue) (frame : FrameValue)
    → after_frames limits input session (frames ++ frame ∷ [])
    ≡ after_frame limits (text_of input frame) frame.fields (after_frames limits input session frames)
after_frames-snoc limits input session [] frame = refl
after_frames-snoc limits input session (x ∷ frames) frame =
    after_frames-snoc limits input (after_frame limits (text_of input x) x.fields session) frames frame

-- after any frames, what the orders rest as is admitted
covers_over : (limits : LimitsValue) (input : List ℕ) (session : CrossSession)
    (frames : List FrameValue) → Covers session → Covers (after_frames limits input session frames)
covers_over limits input session [] covers = covers
covers_over limits input session (frame ∷ frames) covers =
    covers_over limits input (after_frame limits (text_of input frame) frame.fields session) frames
    (covers_after limits (text_of input frame) frame.fields session covers)

pub covers_frames : (limits : LimitsValue) (reads : List SeenAt) (input : List ℕ)
    (frames : List FrameValue) → Covers (session_with limits reads input frames)
covers_frames limits reads input frames =
    covers_over limits input (opening reads) frames (covers_first reads)

-- before the first frame
pub took_none : {H : Type 0} (input : List ℕ) (start : Crossing H) → IsOpened start
    → TookFrames input start [] start
took_none input start opened = λ place. record {
  session = opening [];
  reached = λ more. refl;
  limits_are = refl;
  over = opened.over;
  stands = record {
    acts_are = sym (ap (with_places place) opened.acts);
    orders_are = sym opened.orders;
    frames_are = sym opened.frames;
    client_are = sym opened.refused;
    passed_are = refl;
  };
  counted = refl;
  pass_grows = appends_none start.pass.held;
  client_grows = appends_none start.client.held;
  pass_later = omega arith;
  client_later = omega arith;
}

module _ {H : Type 0} (place : Placing) (input : List ℕ) (start now : Crossing H)
    (frames : List FrameValue) (took : TookBy place input start frames now) where
  -- the frame of the input leads on
  unfoldable pub took_by : (next : Crossing H) (frame : FrameValue) → next.limits ≡ now.limits
      → IsOver next.limits next.told → now.pass.faults ≤ next.pass.faults
      → now.client.faults ≤ next.client.faults
      → TakesFrom (after_frame now.limits (text_of input frame) frame.fields) (kept_of now)
      (kept_of next) → TookBy place input start (frames ++ frame ∷ []) next
  took_by next frame limits_are over pass_later client_later takes =
      let session = took.session in
      let limits = start.limits in
      let text = text_of input frame in
      let one = takes place session took.stands in
      let then = one.0 in
      let step = one.1 in
      let counted : then.frames ≡ session.frames + 1 =
      sym (ap (λ (s : CrossSession). s.frames) (step.stepped [])) in
      let reads : (more : List SeenAt) → opening (reads_of then.acts ++ more)
      ≡ opening (reads_of session.acts ++ (step.seen ++ more)) =
      λ more. ap opening (ap (λ rs. rs ++ more) step.reads_are
      ∙ append_assoc (reads_of session.acts) step.seen more) in
      let before : (more : List SeenAt)
      → after_frames limits input (opening (reads_of then.acts ++ more)) frames
      ≡ with_reads (step.seen ++ more) session =
      λ more. ap (λ s. after_frames limits input s frames) (reads more)
      ∙ took.reached (step.seen ++ more) in
      record {
        session = then;
        reached = λ more.
            after_frames-snoc limits input (opening (reads_of then.acts ++ more)) frames frame
            ∙ ap (after_frame limits text frame.fields) (before more)
            ∙ ap (λ (l : LimitsValue).
            after_frame l text frame.fields (with_reads (step.seen ++ more) session))
            (sym took.limits_are)
            ∙ step.stepped more;
        limits_are = limits_are ∙ took.limits_are;
        over = over;
        stands = step.stands;
        counted = omega (arith, counted, took.counted, length-append frames (frame ∷ []));
        pass_grows = appends_next start.pass.held now.pass.held next.pass.held
            (concat session.passed) (text_in step.to_pass) (concat then.passed) took.pass_grows
            step.pass_grows (ap concat step.passed_is ∙ concat-with step.to_pass session.passed);
        client_grows = appends_next start.client.held now.client.held next.client.held
            (concat session.client) (text_in step.to_client) (concat then.client) took.client_grows
            step.client_grows (ap concat step.client_is ∙ concat-with step.to_client session.client);
        pass_later = omega (arith, took.pass_later, pass_later);
        client_later = omega (arith, took.client_later, client_later);
      }

  -- the acts, with the end behind them
  ended_placed : (end : End) → with_places place (now.told.acts ++ Ended end ∷ [])
      ≡ with_places place now.told.acts ++ Ended end ∷ []
  ended_placed end = map-append (placed_by place) now.told.acts (Ended end ∷ [])

  -- the session of these acts
  session_ended : (end : End)
      → session_of start.limits (with_places place now.told.acts ++ Ended end ∷ []) input frames
      ≡ with_reads [] took.session
  session_ended end =
      ap (λ rs. session_with start.limits rs input frames)
      (reads_of-append (with_places place now.told.acts) (Ended end ∷ [])
      ∙ append-nil (reads_of (with_places place now.told.acts)))
      ∙ session_by place input start now frames took

  -- what it did, over these frames of its input
  pub does_frames : (end : End) → DoesFrames start.limits input frames
      (with_places place (now.told.acts ++ Ended end ∷ [])) end (concat took.session.passed)
      (concat took.session.client)
  does_frames end =
      let by = session_ended end in
      let acts = with_places place now.told.acts ++ Ended end ∷ [] in
      let D : List Act → Type 0 = λ a. DoesFrames start.limits input frames a end
      (concat took.session.passed) (concat took.session.client) in
      subst D (sym (ended_placed end)) (record {
        acts_are = ap (λ a. a ++ Ended end ∷ [])
            (sym (ap (λ (s : CrossSession). s.acts) by ∙ took.stands.acts_are));
        pass_is = sym (ap (λ (s : CrossSession). concat s.passed) by);
        client_is = sym (ap (λ (s : CrossSession). concat s.client) by);
        covered = λ count. covers_frames start.limits (reads_of acts) input (take count frames);
      })

-- one frame more, whatever the places of reads are
pub took_next : {H : Type 0} (input : List ℕ) (start now : Crossing H) (frames : List FrameValue)
    → TookFrames input start frames now → (next : Crossing H) (frame : FrameValue)
    → next.limits ≡ now.limits → IsOver next.limits next.told → now.pass.faults ≤ next.pass.faults
    → now.client.faults ≤ next.client.faults
    → TakesFrom (after_frame now.limits (text_of input frame) frame.fields) (kept_of now)
    (kept_of next) → TookFrames input start (frames ++ frame ∷ []) next
took_next input start now frames took next frame limits_are over pass_later client_later takes =
    λ place. took_by place input start now frames (took place) next frame limits_are over pass_later
    client_later takes

-- it follows its input
pub follows_source : {H : Type 0} (start now : Crossing H) (left : Option (List ℕ)) (end : End)
    → TakesSource TookFrames start now left end → (place : Placing)
    → FollowsSource start.limits left (with_places place (now.told.acts ++ Ended end ∷ [])) end
    start.pass.held now.pass.held start.client.held now.client.held
follows_source start now None end taken place = tt
follows_source start now (Some bytes) end taken place =
    let input = take input_most bytes in
    let took = taken.took place in (
      concat took.session.passed,
      concat took.session.client,
      took.pass_grows,
      took.client_grows,
      record {
        frames = taken.frames;
        next = taken.next;
        split = taken.split;
        end_is = taken.end_is;
        does = does_frames place input start now taken.frames took end;
      },
    )
