-- A session as it runs, as contracts see it, and how it stands before and after what it does.
use Rattle.std.specs.Prelude.{◌≡◌, ◌⊎◌, ℕ, ◌+◌, ◌≤◌, List, [], ◌∷◌, ◌++◌, length, map, Option}
use Rattle.std.specs.List.{concat}
use Rattle.std.specs.Io.KnownBytes.{Appends}
use Rattle.fix_fields.specs.Frames.{FrameValue}
use Rattle.gate_ports.specs.Faults.{Rose}
use Rattle.gate_ports.specs.declared.ports.PortFault.{PortFault}
use Rattle.gate_ports.specs.declared.ports.PortFault.TheVariants as fault
use Rattle.risk_journal.specs.ActLists.{SeenAt, reads_of}
use Rattle.screen_kit.specs.Screens.{ScreenValue}
use Rattle.frame_run.specs.Frames.{FrameIn}
use Rattle.frame_run.specs.Sinks.{SinkValue, IsLaterSink}
use Rattle.order_desk.specs.declared.refusal.Refusal.{Refusal}
use Rattle.order_desk.specs.Desks.{DeskValue, HasRoom, IsLater}
use Rattle.order_desk.specs.Values.{first_book}
use Rattle.session_engine.specs.declared.counts.Counts.{Counts}
use Rattle.session_engine.specs.Counted.{no_counts}
use Rattle.session_engine.specs.Follows.{session_with, HasGiven, FailsLast}
use Rattle.session_engine.specs.Reaches.{with_reads}
use Rattle.session_engine.specs.Session.{SessionValue, opening, after_frames, unnamed_client}
use Rattle.session_engine.specs.Taken.{Kept, StandsAs, TakesSound, HasSmallCounts, CountsTrips, answer_act}
use Rattle.session_engine.specs.Taken.{counts_answered, counts_decided, GivesFront}
use Rattle.session_engine.specs.Trips.{acts_tripped}

-- what decides, the counts, the client that requests name, and the sinks
pub record Running (H M K : Type 0) : Type 0 where
  pub desk : DeskValue H M K
  pub counts : Counts
  pub client_id : List ℕ
  pub venue : SinkValue
  pub client : SinkValue

-- what the session keeps, by what its screens mean
abbrev pub kept_of : {H M K : Type 0} → (K → ScreenValue) → Running H M K → Kept
kept_of meaning now = record {
  acts = now.desk.hands.acts;
  book = now.desk.book.value;
  screens = map meaning now.desk.screens;
  counts = now.counts;
  client_id = now.client_id;
  venue = now.venue.held;
  client = now.client.held;
}

-- the same session over the same limits, hands and sinks, so many acts later at most
pub record Continues {H M K : Type 0} (SameSum : H → H → Type 0) (SameHalt : M → M → Type 0)
    (before now : Running H M K) (acts : ℕ) : Type 0 where
  pub desk_is : IsLater SameSum SameHalt before.desk now.desk acts
  pub venue_is : IsLaterSink before.venue now.venue
  pub client_is : IsLaterSink before.client now.client

-- the sound frame, which was taken up, was taken
abbrev pub HasTaken : {H M K : Type 0} → (K → ScreenValue) → FrameIn → Running H M K
    → Running H M K → Type 0
HasTaken meaning sound before now =
    TakesSound before.desk.limits sound (kept_of meaning before) (kept_of meaning now)

-- A message, or a front of it, was given to a sink. Where that failed, the sink's count of faults rose,
-- and the message is the next one of its stream.
pub record GivesNext (given failed : Type 0) (before now : SinkValue) (number number_after : ℕ)
    (whole : Option (List ℕ)) : Type 0 where
  pub front : GivesFront given before.held now.held whole
  pub rose : failed → Rose before.faults now.faults
  pub next : failed → number_after ≡ number + 1

-- The sound frame, which was taken up, was taken: with all of its message the sinks would hold so
-- much. One of them may have got just a front of that, and does where it failed.
pub record TakesFront {H M K : Type 0} (meaning : K → ScreenValue) (sound : FrameIn)
    (given failed : Type 0) (before now : Running H M K) : Type 0 where
  pub venue : Option (List ℕ)
  pub client : Option (List ℕ)
  pub taken : TakesSound before.desk.limits sound (kept_of meaning before)
      (record (kept_of meaning now) { venue = venue; client = client })
  pub gives : (GivesNext given failed before.venue now.venue before.counts.venue now.counts.venue
      venue × (now.client.held ≡ client))
      ⊎ (GivesNext given failed before.client now.client before.counts.client now.counts.client
      client × (now.venue.held ≡ venue))

-- the most acts of a frame: those of an admission, a trip and the answer
abbrev pub frame_acts : ℕ
frame_acts = 12

-- There is room for what a frame does, its messages can be numbered, and the halt tree was tripped
-- as often as the refusals say.
pub record IsReady {H M K : Type 0} (now : Running H M K) : Type 0 where
  pub room : HasRoom frame_acts now.desk
  pub counts : HasSmallCounts now.counts
  pub trips : CountsTrips now.desk.limits now.desk.hands.acts now.counts

-- A request of this sender was refused so, if it was: that is told and counted, the halt tree is
-- tripped where it is time, and the client is named. Nothing else changes.
pub record TellsAnswer {H M K : Type 0} (refusal : Option Refusal) (sender : List ℕ)
    (before now : Running H M K) : Type 0 where
  pub acts : now.desk.hands.acts
      ≡ acts_tripped before.desk.limits refusal before.counts.firms before.desk.hands.acts
      ++ answer_act before.counts.frames refusal ∷ []
  pub counts : now.counts ≡ counts_answered refusal (counts_decided refusal before.counts)
  pub client_id : now.client_id ≡ sender
  pub others : now ≡ record before {
    desk = record (before.desk) { hands = now.desk.hands };
    counts = now.counts;
    client_id = now.client_id;
  }

-- a session before its first frame
pub record IsOpened {H M K : Type 0} (now : Running H M K) : Type 0 where
  pub acts : now.desk.hands.acts ≡ []
  pub book : now.desk.book.value ≡ first_book now.desk.limits
  pub counts : now.counts ≡ no_counts
  pub client_id : now.client_id ≡ unnamed_client

-- A session after so many frames has counted no more frames than that, and in either stream no more
-- messages than frames; no more orders were taken up, and no more requests refused as Firm.
pub record CountsFit (count : ℕ) (session : SessionValue) : Type 0 where
  pub frames : session.frames ≤ count
  pub orders : session.orders ≤ session.frames
  pub venue : length session.venue ≤ session.frames
  pub client : length session.client ≤ session.frames
  pub firms : session.firms ≤ session.frames

-- The frames were taken, from a session before its first frame on: they lead to a session's value,
-- whatever further reads are to come, which is that of the session now, and the sinks got its messages.
pub record TookFrames {H M K : Type 0} (meaning : K → ScreenValue) (start : Running H M K)
    (frames : List FrameValue) (now : Running H M K) : Type 0 where
  pub session : SessionValue
  pub reached : (more : List SeenAt)
      → after_frames start.desk.limits (opening start.desk.limits (map meaning start.desk.screens)
      (reads_of session.acts ++ more)) frames ≡ with_reads more session
  pub limits_are : now.desk.limits ≡ start.desk.limits
  pub stands : StandsAs (kept_of meaning now) session
  pub counts : CountsFit (length frames) session
  pub venue_grows : Appends start.venue.held now.venue.held (concat session.venue)
  pub client_grows : Appends start.client.held now.client.held (concat session.client)
  pub venue_later : start.venue.faults ≤ now.venue.faults
  pub client_later : start.client.faults ≤ now.client.faults

-- The frames lead to where a session stopped: they were taken, but of the last one's message the end
-- may not have been given. Where a sink failed, it failed at that message.
pub record StoppedFrames {H M K : Type 0} (meaning : K → ScreenValue) (why : PortFault)
    (start : Running H M K) (frames : List FrameValue) (now : Running H M K) : Type 0 where
  pub given : ℕ
  pub to_venue : List ℕ
  pub to_client : List ℕ
  pub acts_are : now.desk.hands.acts
      ≡ (session_with start.desk.limits (map meaning start.desk.screens)
      (reads_of now.desk.hands.acts) frames).acts
  pub venue_got : Appends start.venue.held now.venue.held to_venue
  pub client_got : Appends start.client.held now.client.held to_client
  pub messages : HasGiven start.desk.limits (map meaning start.desk.screens)
      (reads_of now.desk.hands.acts) frames given to_venue to_client
  pub failed : why ≡ fault.Failed → FailsLast start.desk.limits
      (map meaning start.desk.screens) (reads_of now.desk.hands.acts) frames given
      (Rose start.venue.faults now.venue.faults) (Rose start.client.faults now.client.faults)
