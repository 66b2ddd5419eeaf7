-- A session that stopped early did what the session function says of its first frames.
use Rattle.std.proofs.Common.{◌≡◌, ℕ, ◌+◌, ◌*◌, ◌≤◌, List, [], ◌∷◌, ◌++◌, length, map, take, drop}
use Rattle.std.proofs.Common.{refl, sym, ap, ◌∙◌, subst, arith, inl, inr, ⊎_elim}
use Rattle.std.specs.Prelude.{Option, Some, None, ◌⊎◌}
use Rattle.std.specs.List.{concat}
use Rattle.std.specs.Io.KnownBytes.{Appends}
use Rattle.std.proofs.lemmas.List.{append_assoc, append-nil, length-append, take_at}
use Rattle.std.proofs.lemmas.List.{take-append-drop, append_cancel_left}
use Rattle.fix_fields.specs.Frames.{FrameValue}
use Rattle.gate_ports.specs.Faults.{Rose}
use Rattle.gate_ports.specs.declared.ports.PortFault.{PortFault}
use Rattle.gate_ports.specs.declared.ports.PortFault.TheVariants as fault
use Rattle.admit_core.proofs.ActLemmas.{reads_of-append}
use Rattle.limit_table.specs.Trees.{LimitsValue}
use Rattle.risk_journal.specs.declared.acts.Act.{Act}
use Rattle.risk_journal.specs.declared.acts.Act.TheVariants.{Ended}
use Rattle.risk_journal.specs.declared.acts.End.{End}
use Rattle.risk_journal.specs.declared.acts.End.TheVariants as ending
use Rattle.risk_journal.specs.ActLists.{SeenAt, reads_of}
use Rattle.screen_kit.specs.Screens.{ScreenValue}
use Rattle.frame_run.specs.Sinks.{SinkValue}
use Rattle.frame_run.specs.Taking.{SplitsTo, StopsBy, TakesSource}
use Rattle.frame_run.proofs.Fetches.{consumes_none}
use Rattle.session_engine.specs.Follows.{Follows, IsByInput, IsBetween, StopsBehind, StopsSource}
use Rattle.session_engine.specs.Follows.{HasGiven}
use Rattle.session_engine.specs.Follows.{FailsLast, DoesNothing, input_most, session_of, session_with}
use Rattle.session_engine.specs.Done.{Ran}
use Rattle.session_engine.specs.Later.{rose_later, same_sink}
use Rattle.session_engine.specs.Reaches.{with_reads}
use Rattle.session_engine.specs.Running.{Running, Continues, kept_of, frame_acts, GivesNext}
use Rattle.session_engine.specs.Running.{TookFrames, StoppedFrames}
use Rattle.session_engine.specs.Session.{SessionValue, after_frame}
use Rattle.session_engine.specs.Taken.{GivesFront, TakesFrom, Takes, with_message, text_in}
use Rattle.session_engine.proofs.CoverLemmas.{covers_orders}
use Rattle.session_engine.proofs.RunLemmas.{appends_next, appends_none, concat-with, took_next}
use Rattle.session_engine.proofs.RunLemmas.{follows_source}
use Rattle.session_engine.specs.Stopped.{between_same, session_by}

-- a front of a piece is a front of whatever the piece is
front_text : (held whole held_after : Option (List ℕ)) (piece text : List ℕ) (count : ℕ)
    → Appends held whole piece → Appends held whole text
    → Appends held held_after (take count piece) → Appends held held_after (take count text)
front_text None whole held_after piece text count would says got = tt
front_text (Some xs) None held_after piece text count would says got = absurd would
front_text (Some xs) (Some ys) None piece text count would says got = absurd got
front_text (Some xs) (Some ys) (Some zs) piece text count would says got =
    let same : piece ≡ text = append_cancel_left xs piece text (sym would ∙ says) in
    got ∙ ap (λ l. xs ++ take count l) same

-- What a stream got of its messages.
record Got (held held_after : Option (List ℕ)) (before after : List (List ℕ)) : Type 0 where
  text : List ℕ
  got : Appends held held_after text
  between : IsBetween before after text

-- all of them but a part of the last
got_front : (given : Type 0) (start held held_after whole : Option (List ℕ))
    (before after : List (List ℕ)) (message : Option (List ℕ))
    → after ≡ with_message message before → Appends start held (concat before)
    → Appends held whole (text_in message) → GivesFront given held held_after whole
    → Got start held_after before after
got_front given start held held_after whole before after message is has says front =
    let text = text_in message in
    let count = front.count in
    let got = front_text held whole held_after front.piece text count front.would says front.got in
    record {
      text = concat before ++ take count text;
      got = appends_next start held held_after (concat before) (take count text)
          (concat before ++ take count text) has got refl;
      between = record {
        more = take count text;
        rest = drop count text;
        begins = refl;
        within = ap concat is ∙ concat-with message before
            ∙ ap (λ l. concat before ++ l) (sym (take-append-drop count text))
            ∙ sym (append_assoc (concat before) (take count text) (drop count text));
      };
    }

-- all of them
abbrev got_whole : (start held_after whole : Option (List ℕ)) (before after : List (List ℕ))
    (message : Option (List ℕ)) → after ≡ with_message message before
    → Appends start whole (concat after) → held_after ≡ whole → Got start held_after before after
got_whole start held_after whole before after message is has same = record {
  text = concat after;
  got = subst (λ h. Appends start h (concat after)) (sym same) has;
  between = record {
    more = text_in message;
    rest = [];
    begins = ap concat is ∙ concat-with message before;
    within = sym (append-nil (concat after));
  };
}

module _ {H M K : Type 0} (meaning : K → ScreenValue) where
  -- a frame more was taken, but for the end of its message
  module _ (start now up next : Running H M K) (frames : List FrameValue) (frame : FrameValue)
      (venue client : Option (List ℕ)) (given failed : Type 0)
      (took : TookFrames meaning start frames now)
      (takes : TakesFrom (after_frame now.desk.limits frame.fields) 1 (kept_of meaning now)
      (record (kept_of meaning next) { venue = venue; client = client }))
      (limits_are : next.desk.limits ≡ now.desk.limits)
      (up_venue : up.venue ≡ now.venue) (up_client : up.client ≡ now.client)
      (venue_count : up.counts.venue ≡ now.counts.venue)
      (client_count : up.counts.client ≡ now.counts.client)
      (venue_later : up.venue.faults ≤ next.venue.faults)
      (client_later : up.client.faults ≤ next.client.faults) where
    abbrev step : (then : SessionValue) × Takes (after_frame now.desk.limits frame.fields) 1 took.session
        then (kept_of meaning now)
        (record (kept_of meaning next) { venue = venue; client = client })
    step = takes took.session took.stands

    -- the session with all of its messages given
    abbrev ideal : Running H M K
    ideal = record next {
      venue = record (next.venue) { held = venue };
      client = record (next.client) { held = client };
    }

    abbrev took_ideal : TookFrames meaning start (frames ++ frame ∷ []) ideal
    took_ideal = took_next meaning start now frames took ideal frame limits_are
        (omega (arith, venue_later, ap (λ (s : SinkValue). s.faults) up_venue))
        (omega (arith, client_later, ap (λ (s : SinkValue). s.faults) up_client)) takes

    abbrev limits : LimitsValue
    limits = start.desk.limits

    abbrev screens : List ScreenValue
    screens = map meaning start.desk.screens

    abbrev reads : List SeenAt
    reads = reads_of next.desk.hands.acts

    after_by : session_with limits screens reads (frames ++ frame ∷ [])
        ≡ with_reads [] took_ideal.session
    after_by = session_by meaning start ideal (frames ++ frame ∷ []) took_ideal

    before_by : session_with limits screens reads (take (length frames) (frames ++ frame ∷ []))
        ≡ with_reads step.1.steps.seen took.session
    unfolding took_next
    before_by =
        ap (session_with limits screens reads) (take_at frames (frame ∷ []) (length frames) refl)
        ∙ ap (λ rs. session_with limits screens rs frames)
        (ap reads_of (sym took_ideal.stands.stands.acts_are) ∙ step.1.steps.reads_are)
        ∙ took.reached step.1.steps.seen

    -- what a stream got, as a part of the answer
    stopped_by : (why : PortFault)
        → (to_venue : Got start.venue.held next.venue.held took.session.venue
        took_ideal.session.venue)
        → (to_client : Got start.client.held next.client.held took.session.client
        took_ideal.session.client)
        → ((to_venue.text ≡ concat took_ideal.session.venue)
        ⊎ (to_client.text ≡ concat took_ideal.session.client))
        → (why ≡ fault.Failed → (Rose now.venue.faults next.venue.faults
        × (next.counts.venue ≡ now.counts.venue + 1))
        ⊎ (Rose now.client.faults next.client.faults
        × (next.counts.client ≡ now.counts.client + 1)))
        → StoppedFrames meaning why start (frames ++ frame ∷ []) next
    stopped_by why to_venue to_client one fails = record {
      given = length frames;
      to_venue = to_venue.text;
      to_client = to_client.text;
      acts_are = rw after_by (sym took_ideal.stands.stands.acts_are);
      venue_got = to_venue.got;
      client_got = to_client.got;
      messages = record {
        all_but_one = omega (arith, length-append frames (frame ∷ []));
        venue_is = rw (before_by, after_by) to_venue.between;
        client_is = rw (before_by, after_by) to_client.between;
        one = rw after_by one;
      };
      failed = λ is. record {
        last = omega (arith, length-append frames (frame ∷ []));
        failed = rw (before_by, after_by) (⊎_elim
            (λ (own : Rose now.venue.faults next.venue.faults
            × (next.counts.venue ≡ now.counts.venue + 1)). inl (
              rose_later start.venue.faults now.venue.faults next.venue.faults took.venue_later
                  own.0,
              sym took_ideal.stands.stands.venue ∙ own.1
                  ∙ ap (λ n. n + 1) took.stands.stands.venue,
            ))
            (λ (own : Rose now.client.faults next.client.faults
            × (next.counts.client ≡ now.counts.client + 1)). inr (
              rose_later start.client.faults now.client.faults next.client.faults
                  took.client_later own.0,
              sym took_ideal.stands.stands.client ∙ own.1
                  ∙ ap (λ n. n + 1) took.stands.stands.client,
            )) (fails is));
      };
    }

    -- one of the streams got a front of the message
    pub stopped_next : (why : PortFault) → (why ≡ fault.Failed → failed)
        → ((GivesNext given failed up.venue next.venue up.counts.venue next.counts.venue venue
        × (next.client.held ≡ client))
        ⊎ (GivesNext given failed up.client next.client up.counts.client next.counts.client client
        × (next.venue.held ≡ venue)))
        → StoppedFrames meaning why start (frames ++ frame ∷ []) next
    unfolding took_next
    stopped_next why fails (inl (gives, other)) =
        let F : SinkValue → Type 0 = λ s. GivesFront given s.held next.venue.held venue in
        let R : SinkValue → Type 0 = λ s. Rose s.faults next.venue.faults in
        let to_venue = got_front given start.venue.held now.venue.held next.venue.held venue
        took.session.venue took_ideal.session.venue step.1.to_venue step.1.venue_is
        took.venue_grows step.1.venue_grows (subst F up_venue gives.front) in
        let to_client = got_whole start.client.held next.client.held client took.session.client
        took_ideal.session.client step.1.to_client step.1.client_is took_ideal.client_grows other in
        stopped_by why to_venue to_client (inr refl)
        (λ is. inl (
          subst R up_venue (gives.rose (fails is)),
          gives.next (fails is) ∙ ap (λ n. n + 1) venue_count,
        ))
    stopped_next why fails (inr (gives, other)) =
        let F : SinkValue → Type 0 = λ s. GivesFront given s.held next.client.held client in
        let R : SinkValue → Type 0 = λ s. Rose s.faults next.client.faults in
        let to_client = got_front given start.client.held now.client.held next.client.held client
        took.session.client took_ideal.session.client step.1.to_client step.1.client_is
        took.client_grows step.1.client_grows (subst F up_client gives.front) in
        let to_venue = got_whole start.venue.held next.venue.held venue took.session.venue
        took_ideal.session.venue step.1.to_venue step.1.venue_is took_ideal.venue_grows other in
        stopped_by why to_venue to_client (inl refl)
        (λ is. inr (
          subst R up_client (gives.rose (fails is)),
          gives.next (fails is) ∙ ap (λ n. n + 1) client_count,
        ))

  module _ (start now : Running H M K) (left left_after : Option (List ℕ)) where
    reads_ended : (end : End) → reads_of (now.desk.hands.acts ++ Ended end ∷ [])
        ≡ reads_of now.desk.hands.acts
    reads_ended end = reads_of-append now.desk.hands.acts (Ended end ∷ [])
        ∙ append-nil (reads_of now.desk.hands.acts)

    abbrev behind : (why : PortFault) (end : End) (fetched : List ℕ) (frames : List FrameValue)
        → length fetched ≤ input_most → SplitsTo fetched 0 frames
        → (stopped : StoppedFrames meaning why start frames now)
        → StopsBehind start.desk.limits (map meaning start.desk.screens) fetched
        (now.desk.hands.acts ++ Ended end ∷ []) end stopped.to_venue stopped.to_client
    behind why end fetched frames few split stopped =
        let limits = start.desk.limits in
        let screens = map meaning start.desk.screens in
        let same = sym (reads_ended end) in
        record {
          frames = frames;
          given = stopped.given;
          few = few;
          split = split;
          acts_are = ap (λ a. a ++ Ended end ∷ []) (stopped.acts_are
              ∙ ap (λ rs. (session_with limits screens rs frames).acts) same);
          messages = subst (λ rs. HasGiven limits screens rs frames stopped.given
              stopped.to_venue stopped.to_client) same stopped.messages;
          covered = λ count. covers_orders limits screens
              (reads_of (now.desk.hands.acts ++ Ended end ∷ [])) (take count frames);
        }

    -- a session that a fault ended stopped early
    pub follows_stopped : (end : End)
        → StopsBy (λ input. TookFrames meaning) (λ why input. StoppedFrames meaning why) start now left left_after end
        → IsByInput end
        ⊎ StopsSource start.desk.limits (map meaning start.desk.screens) left left_after
        (now.desk.hands.acts ++ Ended end ∷ []) end start.venue now.venue start.client now.client
    follows_stopped ending.ReadFault stops =
        let limits = start.desk.limits in
        let screens = map meaning start.desk.screens in
        let session = stops.took.session in
        let acts = now.desk.hands.acts ++ Ended ending.ReadFault ∷ [] in
        let reached : session_of limits screens acts stops.frames ≡ with_reads [] session =
        ap (λ rs. session_with limits screens rs stops.frames) (reads_ended ending.ReadFault)
        ∙ session_by meaning start now stops.frames stops.took in
        inr (record {
          fetched = stops.fetched;
          to_venue = concat session.venue;
          to_client = concat session.client;
          taken = stops.taken;
          venue_got = stops.took.venue_grows;
          client_got = stops.took.client_grows;
          stops = record {
            frames = stops.frames;
            rest = stops.rest;
            few = stops.few;
            split = stops.split;
            may = stops.may;
            acts_are = rw reached (ap (λ a. a ++ Ended ending.ReadFault ∷ [])
                (sym stops.took.stands.stands.acts_are));
            venue_is = ap concat (sym (ap (λ (s : SessionValue). s.venue) reached));
            client_is = ap concat (sym (ap (λ (s : SessionValue). s.client) reached));
            covered = λ count. covers_orders limits screens (reads_of acts)
                (take count stops.frames);
          };
        })
    follows_stopped ending.WriteFault stops =
        let limits = start.desk.limits in
        let screens = map meaning start.desk.screens in
        let frames = stops.frames ++ stops.last ∷ [] in
        let stopped = stops.stopped in
        inr (record {
          fetched = stops.fetches.fetched;
          to_venue = stopped.to_venue;
          to_client = stopped.to_client;
          taken = stops.fetches.taken;
          venue_got = stopped.venue_got;
          client_got = stopped.client_got;
          stops = record {
            behind = behind fault.Failed ending.WriteFault stops.fetches.fetched frames
                stops.fetches.few stops.fetches.split stopped;
            failed = subst (λ rs. FailsLast limits screens rs frames stopped.given
                (Rose start.venue.faults now.venue.faults)
                (Rose start.client.faults now.client.faults)) (sym (reads_ended ending.WriteFault))
                (stopped.failed refl);
          };
        })
    follows_stopped ending.Memory stops =
        let stopped = stops.stopped in
        inr (record {
          fetched = stops.fetches.fetched;
          to_venue = stopped.to_venue;
          to_client = stopped.to_client;
          taken = stops.fetches.taken;
          venue_got = stopped.venue_got;
          client_got = stopped.client_got;
          stops = inr (behind fault.Memory ending.Memory stops.fetches.fetched stops.frames
              stops.fetches.few stops.fetches.split stopped);
        })
    follows_stopped _ stops = inl tt

    -- where it ended by a failed write, a sink failed
    sink_failed : (end : End)
        → StopsBy (λ input. TookFrames meaning) (λ why input. StoppedFrames meaning why) start now left left_after end
        → end ≡ ending.WriteFault → Rose start.venue.faults now.venue.faults
        ⊎ Rose start.client.faults now.client.faults
    sink_failed ending.WriteFault stops is = which (stops.stopped.failed refl).failed
      where
        which : {A B C D : Type 0} → ((A × B) ⊎ (C × D)) → A ⊎ C
        which (inl (first, second)) = inl first
        which (inr (first, second)) = inr first
    sink_failed _ stops is = absurd cc

    -- however it ended: the same sinks, after few frames
    pub ran_by : (SameSum : H → H → Type 0) (SameHalt : M → M → Type 0) (end : End)
        → start.desk.hands.acts ≡ []
        → ((count : ℕ) × (count ≤ input_most)
        × Continues SameSum SameHalt start now (frame_acts * count))
        → (IsByInput end → TakesSource (λ input. TookFrames meaning) start now left end)
        → StopsBy (λ input. TookFrames meaning) (λ why input. StoppedFrames meaning why) start now left left_after end
        → Ran start.desk.limits (map meaning start.desk.screens) left left_after
        (now.desk.hands.acts ++ Ended end ∷ []) end start.venue now.venue start.client now.client
    ran_by SameSum SameHalt end none (count, few, continues) takes stops = record {
      follows = record {
        input = λ by_input. follows_source meaning start now left end (takes by_input);
        early = follows_stopped end stops;
      };
      ends = inl (now.desk.hands.acts, refl);
      few = omega (
        arith,
        few,
        continues.desk_is.hands_are.few,
        ap length none,
        length-append now.desk.hands.acts (Ended end ∷ []),
      );
      venue_is = continues.venue_is;
      client_is = continues.client_is;
      write_fault = sink_failed end stops;
    }

-- what is told of a session that had no room to begin with
pub told_first : (acts : List Act) (NoRoom : Type 0)
    → (acts ≡ Ended ending.Memory ∷ []) ⊎ ((acts ≡ []) × NoRoom)
    → (acts ≡ Ended ending.Memory ∷ []) ⊎ (acts ≡ [])
told_first acts NoRoom (inl ended) = inl ended
told_first acts NoRoom (inr (none, _)) = inr none

-- a session that took no frame, for want of memory
follows_first : (limits : LimitsValue) (screens : List ScreenValue) (left : Option (List ℕ))
    (acts : List Act) (venue client : SinkValue)
    → (acts ≡ Ended ending.Memory ∷ []) ⊎ (acts ≡ [])
    → Follows limits screens left left acts ending.Memory venue venue client client
follows_first limits screens left acts venue client is = record {
  input = λ by_input. absurd by_input;
  early = inr (record {
    fetched = [];
    to_venue = [];
    to_client = [];
    taken = consumes_none left;
    venue_got = appends_none venue.held;
    client_got = appends_none client.held;
    stops = by is;
  });
}
  where
    by : (acts ≡ Ended ending.Memory ∷ []) ⊎ (acts ≡ [])
        → DoesNothing acts [] [] ⊎ StopsBehind limits screens [] acts ending.Memory [] []
    by (inr none) = inl (record { acts_are = none; venue_is = refl; client_is = refl })
    by (inl ended) = inr (record {
      frames = [];
      given = 0;
      few = omega arith;
      split = tt;
      acts_are = ended;
      messages = record {
        all_but_one = omega arith;
        venue_is = between_same [] [] refl;
        client_is = between_same [] [] refl;
        one = inl refl;
      };
      covered = λ count. covers_orders limits screens (reads_of acts) (take count []);
    })

pub ran_first : (limits : LimitsValue) (screens : List ScreenValue) (left : Option (List ℕ))
    (acts : List Act) (venue client : SinkValue)
    → (acts ≡ Ended ending.Memory ∷ []) ⊎ (acts ≡ [])
    → Ran limits screens left left acts ending.Memory venue venue client client
ran_first limits screens left acts venue client is = record {
  follows = follows_first limits screens left acts venue client is;
  ends = ⊎_elim (λ (ended : acts ≡ Ended ending.Memory ∷ []). inl ([], ended))
      (λ (none : acts ≡ []). inr (none, refl)) is;
  few = ⊎_elim (λ (ended : acts ≡ Ended ending.Memory ∷ []). omega (arith, ap length ended))
      (λ (none : acts ≡ []). omega (arith, ap length none)) is;
  venue_is = same_sink venue;
  client_is = same_sink client;
  write_fault = λ is. absurd cc;
}
