-- What a session did that a fault ended doesn't know the places of reads either.
use Rattle.std.proofs.Common.{◌≡◌, ℕ, List, map, take, sym, ap, ◌∙◌, inl, inr, Option}
use Rattle.std.specs.List.{concat}
use Rattle.fix_fields.specs.Frames.{FrameValue}
use Rattle.gate_ports.specs.Faults.{Rose}
use Rattle.frame_run.specs.Sinks.{SinkValue}
use Rattle.risk_journal.specs.declared.acts.Act.{Act}
use Rattle.risk_journal.specs.declared.acts.End.{End}
use Rattle.risk_journal.specs.declared.acts.End.TheVariants as ending
use Rattle.risk_journal.specs.ActLists.{reads_of}
use Rattle.screen_kit.specs.Screens.{ScreenValue}
use Rattle.session_engine.specs.Follows.{FailsLast, HasGiven}
use Rattle.session_engine.specs.Follows.{StopsBehind, StopsEarly, StopsSource, session_of}
use Rattle.session_engine.specs.Session.{LimitsValue, SessionValue}
use Rattle.session_engine.proofs.CoverLemmas.{covers_orders}
use Rattle.session_engine.proofs.MovedTapes.{unplaced}
use Rattle.session_engine.proofs.PlacedFollows.{session_alike, acts_alike, none_alike}

module _ (limits : LimitsValue) (screens : List ScreenValue) (acts others : List Act)
    (differ : map unplaced others ≡ map unplaced acts) where
  venues_alike : (frames : List FrameValue) → (session_of limits screens others frames).venue
      ≡ (session_of limits screens acts frames).venue
  venues_alike frames =
      ap (λ (s : SessionValue). s.venue) (session_alike limits screens acts others differ frames)

  clients_alike : (frames : List FrameValue) → (session_of limits screens others frames).client
      ≡ (session_of limits screens acts frames).client
  clients_alike frames =
      ap (λ (s : SessionValue). s.client) (session_alike limits screens acts others differ frames)

  given_others : (frames : List FrameValue) (given : ℕ) (venue client : List ℕ)
      → HasGiven limits screens (reads_of acts) frames given venue client
      → HasGiven limits screens (reads_of others) frames given venue client
  given_others frames given venue client own = record {
    all_but_one = own.all_but_one;
    venue_is = simp venues_alike own.venue_is;
    client_is = simp clients_alike own.client_is;
    one = simp (venues_alike, clients_alike) own.one;
  }

  fails_others : (frames : List FrameValue) (given : ℕ) (venue_failed client_failed : Type 0)
      → FailsLast limits screens (reads_of acts) frames given venue_failed client_failed
      → FailsLast limits screens (reads_of others) frames given venue_failed client_failed
  fails_others frames given venue_failed client_failed own = record {
    last = own.last;
    failed = simp (venues_alike, clients_alike) own.failed;
  }

  abbrev behind_others : (fetched : List ℕ) (end : End) (venue client : List ℕ)
      → StopsBehind limits screens fetched acts end venue client
      → StopsBehind limits screens fetched others end venue client
  behind_others fetched end venue client own = record {
    frames = own.frames;
    given = own.given;
    few = own.few;
    split = own.split;
    acts_are = acts_alike limits screens acts others differ own.frames end own.acts_are;
    messages = given_others own.frames own.given venue client own.messages;
    covered = λ count. covers_orders limits screens (reads_of others) (take count own.frames);
  }

  stops_others : (fetched : List ℕ) (end : End) (venue client : List ℕ)
      (venue_failed client_failed : Type 0)
      → StopsEarly limits screens fetched acts end venue client venue_failed client_failed
      → StopsEarly limits screens fetched others end venue client venue_failed client_failed
  stops_others fetched ending.ReadFault venue client venue_failed client_failed own = record {
    frames = own.frames;
    rest = own.rest;
    few = own.few;
    split = own.split;
    may = own.may;
    acts_are = acts_alike limits screens acts others differ own.frames ending.ReadFault
        own.acts_are;
    venue_is = own.venue_is ∙ ap concat (sym (venues_alike own.frames));
    client_is = own.client_is ∙ ap concat (sym (clients_alike own.frames));
    covered = λ count. covers_orders limits screens (reads_of others) (take count own.frames);
  }
  stops_others fetched ending.WriteFault venue client venue_failed client_failed own = record {
    behind = behind_others fetched ending.WriteFault venue client own.behind;
    failed = fails_others own.behind.frames own.behind.given venue_failed client_failed own.failed;
  }
  stops_others fetched ending.Memory venue client venue_failed client_failed (inl own) = inl (record {
    acts_are = none_alike others (differ ∙ ap (map unplaced) own.acts_are);
    venue_is = own.venue_is;
    client_is = own.client_is;
  })
  stops_others fetched ending.Memory venue client venue_failed client_failed (inr own) =
      inr (behind_others fetched ending.Memory venue client own)
  stops_others fetched _ venue client venue_failed client_failed own = tt

-- Acts that differ in their reads' places alone are those of a session that stopped so too.
pub source_others : (limits : LimitsValue) (screens : List ScreenValue) (acts others : List Act)
    → map unplaced others ≡ map unplaced acts
    → (left left_after : Option (List ℕ)) (end : End)
    (venue venue_after client client_after : SinkValue)
    → StopsSource limits screens left left_after acts end venue venue_after client client_after
    → StopsSource limits screens left left_after others end venue venue_after client client_after
source_others limits screens acts others differ left left_after end venue venue_after client
    client_after own =
    record {
      fetched = own.fetched;
      to_venue = own.to_venue;
      to_client = own.to_client;
      taken = own.taken;
      venue_got = own.venue_got;
      client_got = own.client_got;
      stops = stops_others limits screens acts others differ own.fetched end own.to_venue
          own.to_client (Rose venue.faults venue_after.faults)
          (Rose client.faults client_after.faults) own.stops;
    }
