-- A session that stopped early did what the session function says of its first frames.
use Rattle.std.proofs.Common.{◌≡◌, ℕ, ◌+◌, ◌≤◌, List, [], ◌∷◌, ◌++◌, length, take, refl, sym, ap, ◌∙◌, subst}
use Rattle.std.proofs.Common.{arith, inl, inr}
use Rattle.std.specs.Prelude.{Option, ◌⊎◌}
use Rattle.std.specs.List.{concat}
use Rattle.std.proofs.lemmas.List.{append-nil, length-append, map-append, take_at}
use Rattle.fix_fields.specs.Frames.{FrameValue}
use Rattle.gate_ports.specs.Faults.{Rose}
use Rattle.gate_ports.specs.declared.ports.PortFault.{PortFault}
use Rattle.gate_ports.specs.declared.ports.PortFault.TheVariants as fault
use Rattle.limit_table.specs.Trees.{LimitsValue}
use Rattle.risk_journal.specs.declared.acts.Act.{Act}
use Rattle.risk_journal.specs.declared.acts.Act.TheVariants.{Ended}
use Rattle.risk_journal.specs.declared.acts.End.{End}
use Rattle.risk_journal.specs.declared.acts.End.TheVariants as ending
use Rattle.risk_journal.specs.ActLists.{SeenAt, calls_of, placed_by, reads_of}
use Rattle.admit_core.proofs.ActLemmas.{reads_of-append}
use Rattle.frame_run.specs.Ends.{IsByInput, input_most}
use Rattle.frame_run.specs.Frames.{text_of}
use Rattle.cross_guard.specs.Ended.{EndsAs}
use Rattle.cross_guard.specs.Giving.{between_by, between_same}
use Rattle.frame_run.specs.Sinks.{SinkValue}
use Rattle.frame_run.specs.Taking.{SplitsTo, StopsBy, TakesSource}
use Rattle.cross_guard.proofs.Appending.{Got, appends_none, got_front, got_whole}
use Rattle.frame_run.proofs.Fetches.{consumes_none}
use Rattle.cross_guard.specs.Crossing.{Crossing, GivesOne, StoppedBy, StoppedFrames, Takes, TakesFrom}
use Rattle.cross_guard.specs.Crossing.{TookBy, TookFrames, kept_of, with_reads}
use Rattle.cross_guard.specs.Follows.{DoesNothing, FailsLast, Follows, HasGiven, StopsBehind}
use Rattle.cross_guard.specs.Follows.{StopsSource, session_with}
use Rattle.cross_guard.specs.Lasting.{session_by}
use Rattle.cross_guard.specs.Session.{CrossSession, after_frame}
use Rattle.cross_guard.specs.Told.{IsOver, Placing, with_places}
use Rattle.cross_guard.proofs.TookFrames.{covers_frames, does_frames, follows_source, took_by}

-- a count that rose from a later one rose
rose_later : (a b c : ℕ) → a ≤ b → Rose b c → Rose a c
rose_later a b c later rose = omega (arith, later, rose)

-- a frame more was taken, but for the end of its message
module _ {H : Type 0} (place : Placing) (input : List ℕ) (start now next : Crossing H)
    (frames : List FrameValue) (frame : FrameValue) (pass client : Option (List ℕ))
    (given failed : Type 0) (took : TookBy place input start frames now)
    (takes : TakesFrom (after_frame now.limits (text_of input frame) frame.fields) (kept_of now)
    (record (kept_of next) { pass = pass; client = client }))
    (limits_are : next.limits ≡ now.limits) (over : IsOver next.limits next.told)
    (frames_are : next.frames ≡ now.frames + 1) (pass_later : now.pass.faults ≤ next.pass.faults)
    (client_later : now.client.faults ≤ next.client.faults) where
  abbrev step : (then : CrossSession)
      × Takes place (after_frame now.limits (text_of input frame) frame.fields) took.session then
      (kept_of now) (record (kept_of next) { pass = pass; client = client })
  step = takes place took.session took.stands

  -- the session with all of its messages given
  abbrev ideal : Crossing H
  ideal = record next {
    pass = record (next.pass) { held = pass };
    client = record (next.client) { held = client };
  }

  abbrev took_ideal : TookBy place input start (frames ++ frame ∷ []) ideal
  took_ideal = took_by place input start now frames took ideal frame limits_are over pass_later
      client_later takes

  abbrev limits : LimitsValue
  limits = start.limits

  abbrev reads : List SeenAt
  reads = reads_of (with_places place next.told.acts)

  after_by : session_with limits reads input (frames ++ frame ∷ []) ≡ with_reads [] took_ideal.session
  after_by = session_by place input start ideal (frames ++ frame ∷ []) took_ideal

  before_by : session_with limits reads input (take (length frames) (frames ++ frame ∷ []))
      ≡ with_reads step.1.seen took.session
  unfolding took_by
  before_by =
      ap (session_with limits reads input) (take_at frames (frame ∷ []) (length frames) refl)
      ∙ ap (λ rs. session_with limits rs input frames)
      (ap reads_of (sym took_ideal.stands.acts_are) ∙ step.1.reads_are)
      ∙ took.reached step.1.seen

  -- in which stream the last message is
  abbrev IsLastOf : Type 0
  IsLastOf = (Rose now.pass.faults next.pass.faults × (next.refused ≡ now.refused))
      ⊎ (Rose now.client.faults next.client.faults × (next.refused ≡ now.refused + 1))

  -- what a stream got, as a part of the answer
  stopped_by : (why : PortFault)
      → (to_pass : Got start.pass.held next.pass.held took.session.passed took_ideal.session.passed)
      → (to_client : Got start.client.held next.client.held took.session.client
      took_ideal.session.client)
      → ((to_pass.text ≡ concat took_ideal.session.passed)
      ⊎ (to_client.text ≡ concat took_ideal.session.client))
      → (why ≡ fault.Failed → IsLastOf)
      → StoppedBy place why input start (frames ++ frame ∷ []) next
  stopped_by why to_pass to_client one fails = record {
    given = length frames;
    to_pass = to_pass.text;
    to_client = to_client.text;
    acts_are = sym (ap (λ (s : CrossSession). s.acts) after_by ∙ took_ideal.stands.acts_are);
    pass_got = to_pass.got;
    client_got = to_client.got;
    messages = record {
      all_but_one = omega (arith, length-append frames (frame ∷ []));
      pass_is = between_by _ _ _ _ to_pass.text
          (ap (λ (s : CrossSession). s.passed) before_by)
          (ap (λ (s : CrossSession). s.passed) after_by) to_pass.between;
      client_is = between_by _ _ _ _ to_client.text
          (ap (λ (s : CrossSession). s.client) before_by)
          (ap (λ (s : CrossSession). s.client) after_by) to_client.between;
      one = whole_by one;
    };
    failed = λ is. record {
      last = omega (arith, length-append frames (frame ∷ []));
      failed = at_last (fails is);
    };
  }
    where
      whole_by : ((to_pass.text ≡ concat took_ideal.session.passed)
          ⊎ (to_client.text ≡ concat took_ideal.session.client))
          → ((to_pass.text
          ≡ concat (session_with limits reads input (frames ++ frame ∷ [])).passed)
          ⊎ (to_client.text
          ≡ concat (session_with limits reads input (frames ++ frame ∷ [])).client))
      whole_by (inl is) = inl (is ∙ ap concat (sym (ap (λ (s : CrossSession). s.passed) after_by)))
      whole_by (inr is) = inr (is ∙ ap concat (sym (ap (λ (s : CrossSession). s.client) after_by)))

      at_last : IsLastOf → ((Rose start.pass.faults next.pass.faults
          × (length (session_with limits reads input (frames ++ frame ∷ [])).passed
          ≡ length (session_with limits reads input
          (take (length frames) (frames ++ frame ∷ []))).passed + 1))
          ⊎ (Rose start.client.faults next.client.faults
          × (length (session_with limits reads input (frames ++ frame ∷ [])).client
          ≡ length (session_with limits reads input
          (take (length frames) (frames ++ frame ∷ []))).client + 1)))
      at_last (inl (rose, same)) = inl (
        rose_later start.pass.faults now.pass.faults next.pass.faults took.pass_later rose,
        omega (
          arith,
          ap (λ (s : CrossSession). length s.passed) after_by,
          ap (λ (s : CrossSession). length s.passed) before_by,
          took_ideal.stands.passed_are,
          took_ideal.stands.client_are,
          took_ideal.stands.frames_are,
          took.stands.passed_are,
          took.stands.client_are,
          took.stands.frames_are,
          same,
          frames_are,
        ),
      )
      at_last (inr (rose, number)) = inr (
        rose_later start.client.faults now.client.faults next.client.faults took.client_later rose,
        omega (
          arith,
          ap (λ (s : CrossSession). length s.client) after_by,
          ap (λ (s : CrossSession). length s.client) before_by,
          took_ideal.stands.client_are,
          took.stands.client_are,
          number,
        ),
      )

  -- one of the streams got a front of the message
  stopped_one : (why : PortFault) → (why ≡ fault.Failed → failed)
      → GivesOne given failed now next pass client
      → StoppedBy place why input start (frames ++ frame ∷ []) next
  unfolding took_by
  stopped_one why fails (inl (gives, other, same)) =
      let to_pass = got_front given start.pass.held now.pass.held next.pass.held pass
      took.session.passed took_ideal.session.passed step.1.to_pass step.1.passed_is
      took.pass_grows step.1.pass_grows gives.front in
      let to_client = got_whole start.client.held next.client.held client took.session.client
      took_ideal.session.client step.1.to_client step.1.client_is took_ideal.client_grows other in
      stopped_by why to_pass to_client (inr refl) (λ is. inl (gives.rose (fails is), same))
  stopped_one why fails (inr (gives, other, number)) =
      let to_client = got_front given start.client.held now.client.held next.client.held client
      took.session.client took_ideal.session.client step.1.to_client step.1.client_is
      took.client_grows step.1.client_grows gives.front in
      let to_pass = got_whole start.pass.held next.pass.held pass took.session.passed
      took_ideal.session.passed step.1.to_pass step.1.passed_is took_ideal.pass_grows other in
      stopped_by why to_pass to_client (inl refl) (λ is. inr (gives.rose (fails is), number))

-- one of the streams got a front of the message of a frame more, whatever the places of reads are
pub stopped_next : {H : Type 0} (input : List ℕ) (start now next : Crossing H)
    (frames : List FrameValue) (frame : FrameValue) (pass client : Option (List ℕ))
    (given failed : Type 0) → TookFrames input start frames now
    → TakesFrom (after_frame now.limits (text_of input frame) frame.fields) (kept_of now)
    (record (kept_of next) { pass = pass; client = client }) → next.limits ≡ now.limits
    → IsOver next.limits next.told → next.frames ≡ now.frames + 1
    → now.pass.faults ≤ next.pass.faults → now.client.faults ≤ next.client.faults
    → (why : PortFault) → (why ≡ fault.Failed → failed) → GivesOne given failed now next pass client
    → StoppedFrames why input start (frames ++ frame ∷ []) next
stopped_next input start now next frames frame pass client given failed took takes limits_are over
    frames_are pass_later client_later why fails gives =
    λ place. stopped_one place input start now next frames frame pass client given failed (took place)
    takes limits_are over frames_are pass_later client_later why fails gives

module _ {H : Type 0} (start now : Crossing H) (left left_after : Option (List ℕ)) where
  -- the acts at the end, with these places
  abbrev at_end : Placing → End → List Act
  at_end place end = with_places place (now.told.acts ++ Ended end ∷ [])

  ended_placed : (place : Placing) (end : End)
      → at_end place end ≡ with_places place now.told.acts ++ Ended end ∷ []
  ended_placed place end = map-append (placed_by place) now.told.acts (Ended end ∷ [])

  reads_ended : (place : Placing) (end : End)
      → reads_of (at_end place end) ≡ reads_of (with_places place now.told.acts)
  reads_ended place end =
      ap reads_of (ended_placed place end)
      ∙ reads_of-append (with_places place now.told.acts) (Ended end ∷ [])
      ∙ append-nil (reads_of (with_places place now.told.acts))

  behind : (place : Placing) (why : PortFault) (end : End) (fetched : List ℕ)
      (frames : List FrameValue) → length fetched ≤ input_most → SplitsTo fetched 0 frames
      → (stopped : StoppedBy place why fetched start frames now)
      → (own : StopsBehind start.limits fetched (at_end place end) end stopped.to_pass
      stopped.to_client) × (own.frames ≡ frames) × (own.given ≡ stopped.given)
  behind place why end fetched frames few split stopped =
      let limits = start.limits in
      let same = sym (reads_ended place end) in (
        record {
          frames = frames;
          given = stopped.given;
          few = few;
          split = split;
          acts_are = ended_placed place end ∙ ap (λ a. a ++ Ended end ∷ []) (stopped.acts_are
              ∙ ap (λ rs. (session_with limits rs fetched frames).acts) same);
          messages = subst (λ rs. HasGiven limits rs fetched frames stopped.given stopped.to_pass
              stopped.to_client) same stopped.messages;
          covered = λ count. covers_frames limits (reads_of (at_end place end)) fetched
              (take count frames);
        },
        refl,
        refl,
      )

  -- a session that a fault ended stopped early
  follows_stopped : (place : Placing) (end : End)
      → StopsBy TookFrames StoppedFrames start now left left_after end
      → IsByInput end
      ⊎ StopsSource start.limits left left_after (at_end place end) end start.pass now.pass
      start.client now.client
  follows_stopped place ending.Whole stops = inl tt
  follows_stopped place (ending.Cut at) stops = inl tt
  follows_stopped place (ending.Broken at) stops = inl tt
  follows_stopped place (ending.TooLong at) stops = inl tt
  follows_stopped place ending.ReadFault stops =
      let took = stops.took place in
      inr (record {
        fetched = stops.fetched;
        to_pass = concat took.session.passed;
        to_client = concat took.session.client;
        taken = stops.taken;
        pass_got = took.pass_grows;
        client_got = took.client_grows;
        stops = record {
          frames = stops.frames;
          rest = stops.rest;
          few = stops.few;
          split = stops.split;
          may = stops.may;
          does = does_frames place stops.fetched start now stops.frames took ending.ReadFault;
        };
      })
  follows_stopped place ending.WriteFault stops =
      let limits = start.limits in
      let fetched = stops.fetches.fetched in
      let frames = stops.frames ++ stops.last ∷ [] in
      let stopped = stops.stopped place in
      let pass_failed = Rose start.pass.faults now.pass.faults in
      let client_failed = Rose start.client.faults now.client.faults in
      let own = behind place fault.Failed ending.WriteFault fetched frames stops.fetches.few
      stops.fetches.split stopped in
      inr (record {
        fetched = fetched;
        to_pass = stopped.to_pass;
        to_client = stopped.to_client;
        taken = stops.fetches.taken;
        pass_got = stopped.pass_got;
        client_got = stopped.client_got;
        stops = record {
          behind = own.0;
          failed = subst (λ given. FailsLast limits (reads_of (at_end place ending.WriteFault)) fetched
              own.0.frames given pass_failed client_failed) (sym own.2)
              (subst (λ f. FailsLast limits (reads_of (at_end place ending.WriteFault)) fetched f
              stopped.given pass_failed client_failed) (sym own.1)
              (subst (λ rs. FailsLast limits rs fetched frames stopped.given pass_failed
              client_failed) (sym (reads_ended place ending.WriteFault)) (stopped.failed refl)));
        };
      })
  follows_stopped place ending.Memory stops =
      let stopped = stops.stopped place in
      inr (record {
        fetched = stops.fetches.fetched;
        to_pass = stopped.to_pass;
        to_client = stopped.to_client;
        taken = stops.fetches.taken;
        pass_got = stopped.pass_got;
        client_got = stopped.client_got;
        stops = inr (behind place fault.Memory ending.Memory stops.fetches.fetched stops.frames
            stops.fetches.few stops.fetches.split stopped).0;
      })

  -- however it ended
  pub follows_by : (end : End) → (IsByInput end → TakesSource TookFrames start now left end)
      → StopsBy TookFrames StoppedFrames start now left left_after end
      → (place : Placing) → Follows start.limits left left_after (at_end place end) end start.pass
      now.pass start.client now.client
  follows_by end takes stops place = record {
    input = λ by_input. follows_source start now left end (takes by_input) place;
    early = follows_stopped place end stops;
  }

  -- where it ended by a failed write, a sink failed
  pub sink_failed : (end : End) → StopsBy TookFrames StoppedFrames start now left left_after end
      → end ≡ ending.WriteFault → Rose start.pass.faults now.pass.faults
      ⊎ Rose start.client.faults now.client.faults
  sink_failed ending.Whole stops is = absurd cc
  sink_failed (ending.Cut place) stops is = absurd cc
  sink_failed (ending.Broken place) stops is = absurd cc
  sink_failed (ending.TooLong place) stops is = absurd cc
  sink_failed ending.ReadFault stops is = absurd cc
  sink_failed ending.Memory stops is = absurd cc
  sink_failed ending.WriteFault stops is = which ((stops.stopped (λ tree stamp. 0)).failed refl).failed
    where
      which : {A B C D : Type 0} → ((A × B) ⊎ (C × D)) → A ⊎ C
      which (inl (first, second)) = inl first
      which (inr (first, second)) = inr first

-- what is told of a session that had no room to begin with
told_first : (acts : List Act) (NoRoom : Type 0)
    → (acts ≡ Ended ending.Memory ∷ []) ⊎ ((acts ≡ []) × NoRoom)
    → (acts ≡ Ended ending.Memory ∷ []) ⊎ (acts ≡ [])
told_first acts NoRoom (inl ended) = inl ended
told_first acts NoRoom (inr (none, _)) = inr none

-- the same with places
first_placed : (place : Placing) (acts : List Act)
    → (acts ≡ Ended ending.Memory ∷ []) ⊎ (acts ≡ [])
    → (with_places place acts ≡ Ended ending.Memory ∷ []) ⊎ (with_places place acts ≡ [])
first_placed place acts (inl ended) = inl (ap (with_places place) ended)
first_placed place acts (inr none) = inr (ap (with_places place) none)

-- a session that took no frame, for want of memory
first_follows : (limits : LimitsValue) (left : Option (List ℕ)) (acts : List Act)
    (pass client : SinkValue) → (acts ≡ Ended ending.Memory ∷ []) ⊎ (acts ≡ [])
    → Follows limits left left acts ending.Memory pass pass client client
first_follows limits left acts pass client is = record {
  input = λ by_input. absurd by_input;
  early = inr (record {
    fetched = [];
    to_pass = [];
    to_client = [];
    taken = consumes_none left;
    pass_got = appends_none pass.held;
    client_got = appends_none client.held;
    stops = by is;
  });
}
  where
    by : (acts ≡ Ended ending.Memory ∷ []) ⊎ (acts ≡ [])
        → DoesNothing acts [] [] ⊎ StopsBehind limits [] acts ending.Memory [] []
    by (inr none) = inl (record { acts_are = none; pass_is = refl; client_is = refl })
    by (inl ended) = inr (record {
      frames = [];
      given = 0;
      few = omega arith;
      split = tt;
      acts_are = ended;
      messages = record {
        all_but_one = omega arith;
        pass_is = between_same [] [] refl;
        client_is = between_same [] [] refl;
        one = inl refl;
      };
      covered = λ count. covers_frames limits (reads_of acts) [] (take count []);
    })

-- with whatever places of reads, of which there are none
pub follows_first : (limits : LimitsValue) (left : Option (List ℕ)) (acts : List Act)
    (NoRoom : Type 0) (pass client : SinkValue)
    → (acts ≡ Ended ending.Memory ∷ []) ⊎ ((acts ≡ []) × NoRoom) → (place : Placing)
    → Follows limits left left (with_places place acts) ending.Memory pass pass client client
follows_first limits left acts NoRoom pass client is place =
    first_follows limits left (with_places place acts) pass client
    (first_placed place acts (told_first acts NoRoom is))

-- such acts tell no call, say how the session ended, have no room where there is none, and are few
pub first_calls : (acts : List Act) (NoRoom : Type 0)
    → (acts ≡ Ended ending.Memory ∷ []) ⊎ ((acts ≡ []) × NoRoom) → calls_of acts ≡ []
first_calls acts NoRoom (inl ended) = ap calls_of ended
first_calls acts NoRoom (inr (none, room)) = ap calls_of none

pub first_ends : (acts : List Act) (NoRoom : Type 0)
    → (acts ≡ Ended ending.Memory ∷ []) ⊎ ((acts ≡ []) × NoRoom) → EndsAs acts ending.Memory
first_ends acts NoRoom (inl ended) = inl ([], ended)
first_ends acts NoRoom (inr (none, room)) = inr (none, refl)

pub first_room : (acts : List Act) (NoRoom : Type 0)
    → (acts ≡ Ended ending.Memory ∷ []) ⊎ ((acts ≡ []) × NoRoom) → acts ≡ [] → NoRoom
first_room acts NoRoom (inl ended) none = absurd (omega (arith, ap length (sym ended ∙ none)))
first_room acts NoRoom (inr (own, room)) none = room

pub first_few : (acts : List Act) (NoRoom : Type 0)
    → (acts ≡ Ended ending.Memory ∷ []) ⊎ ((acts ≡ []) × NoRoom) → length acts ≤ 1
first_few acts NoRoom (inl ended) = omega (arith, ap length ended)
first_few acts NoRoom (inr (none, room)) = omega (arith, ap length none)
