-- Frames as a session takes them.
use Rattle.std.specs.Prelude.{◌≡◌, ℕ, ◌+◌, ◌≤◌, ◌<◌, List, [], ◌∷◌, ◌++◌, take, Option, Some, None}
use Rattle.std.specs.Prelude.{codes, Ok, Err, Bool}
use Rattle.std.specs.Io.KnownBytes.{Appends}
use Rattle.fix_fields.specs.Fields.{FieldValue}
use Rattle.fix_fields.specs.Places.{HasFieldsIn, IsSoundIn}
use Rattle.fix_orders.specs.declared.message.FieldFault.{FieldFault}
use Rattle.fix_orders.specs.declared.message.Message.{Message}
use Rattle.fix_orders.specs.declared.message.Stamp.{Stamp}
use Rattle.fix_orders.specs.Faults.{value_of}
use Rattle.fix_orders.specs.Put.{seq_most}
use Rattle.fix_orders.specs.Reading.{read_of}
use Rattle.exposure_book.specs.Books.{BookValue}
use Rattle.screen_kit.specs.Screens.{ScreenValue}
use Rattle.risk_journal.specs.declared.acts.Act.{Act}
use Rattle.risk_journal.specs.declared.acts.Act.TheVariants.{Sent, Noted}
use Rattle.risk_journal.specs.ActLists.{posts_in}
use Rattle.limit_table.specs.Trees.{halt_tree}
use Rattle.frame_run.specs.Frames.{FrameIn}
use Rattle.order_desk.specs.declared.effect.Effect.{Effect}
use Rattle.order_desk.specs.declared.effect.Effect.TheVariants as effect
use Rattle.order_desk.specs.declared.refusal.Refusal.{Refusal}
use Rattle.session_engine.specs.declared.counts.Counts.{Counts}
use Rattle.session_engine.specs.declared.note.Note.{Note}
use Rattle.session_engine.specs.declared.note.Note.TheVariants as note
use Rattle.session_engine.specs.Answers.{forward_text, refused_act, note_code, stamp_of}
use Rattle.session_engine.specs.Session.{LimitsValue, SessionValue, after_sound, asks, with_frame}
use Rattle.session_engine.specs.Stands.{StandsFor}
use Rattle.session_engine.specs.Reaches.{Steps}
use Rattle.session_engine.specs.Trips.{firms_after, trips_by}

-- what a session keeps from frame to frame, and what its sinks hold
pub record Kept : Type 0 where
  pub acts : List Act
  pub book : BookValue
  pub screens : List ScreenValue
  pub counts : Counts
  pub client_id : List ℕ
  pub venue : Option (List ℕ)
  pub client : Option (List ℕ)

-- what is kept is that of the session's value
pub record StandsAs (kept : Kept) (session : SessionValue) : Type 0 where
  pub stands : StandsFor kept.acts kept.book kept.counts session
  pub client_is : session.client_id ≡ kept.client_id
  pub screens_are : session.screens ≡ kept.screens

-- the frame is sound, and whatever its fields are, it reads as this message
pub record ReadsAs (sound : FrameIn) (whole : Message) : Type 0 where
  pub is_sound : IsSoundIn sound.bytes sound.frame
  pub each : (fields : List FieldValue) → HasFieldsIn sound.bytes sound.frame fields
      → read_of fields ≡ Ok whole

-- whatever the fields of the frame are, it has this field fault, and is a request or isn't
abbrev pub FailsAs : FrameIn → FieldFault → Bool → Type 0
FailsAs sound fault request =
    (fields : List FieldValue) → HasFieldsIn sound.bytes sound.frame fields
    → (read_of fields ≡ Err fault) × (asks fields ≡ request)

-- whatever the fields of the frame are, the stamp has their time
abbrev pub HasItsTime : FrameIn → Stamp → Type 0
HasItsTime sound stamp =
    (fields : List FieldValue) → HasFieldsIn sound.bytes sound.frame fields
    → stamp.time ≡ value_of 52 fields

-- whatever the fields of the frame are, the sink took its message with this stamp
abbrev pub Forwards : FrameIn → Stamp → Option (List ℕ) → Option (List ℕ) → Type 0
Forwards sound stamp held held_after =
    (fields : List FieldValue) → HasFieldsIn sound.bytes sound.frame fields
    → Appends held held_after (forward_text stamp.target stamp.seq fields)

-- A piece, or a front of it, was given to a sink. With all of the piece the sink would hold the whole,
-- and it does so where all was given.
pub record GivesFront (given : Type 0) (held held_after whole : Option (List ℕ)) : Type 0 where
  pub piece : List ℕ
  pub count : ℕ
  pub would : Appends held whole piece
  pub got : Appends held held_after (take count piece)
  pub all : given → held_after ≡ whole

-- a message was given so, of which this is said by what the sink would hold
pub record Gives (given : Type 0) (held held_after : Option (List ℕ))
    (Says : Option (List ℕ) → Type 0) : Type 0 where
  pub whole : Option (List ℕ)
  pub front : GivesFront given held held_after whole
  pub says : Says whole

-- one frame more is counted, and one more message has a number of at most eight digits in either
-- stream
pub record HasSmallCounts (counts : Counts) : Type 0 where
  pub frames : counts.frames < seq_most
  pub venue : counts.venue < seq_most
  pub client : counts.client < seq_most

-- the counts after a frame that has no message
abbrev pub counted : Counts → Counts
counted counts = record counts { frames = counts.frames + 1 }

-- the counts after a frame with a message to the venue
abbrev pub counted_venue : Counts → Counts
counted_venue counts = record counts {
  frames = counts.frames + 1;
  venue = counts.venue + 1;
}

-- the counts after a frame with a message to the client
abbrev pub counted_client : Counts → Counts
counted_client counts = record counts {
  frames = counts.frames + 1;
  client = counts.client + 1;
}

-- the counts with a request that was refused so, if it was, before the frame is counted
abbrev pub counts_decided : Option Refusal → Counts → Counts
counts_decided refusal counts = record counts { firms = firms_after refusal counts.firms }

-- The acts have as many posts in the halt tree as there are trips after the refusals as Firm that are
-- counted, and one more of these can be counted.
pub record CountsTrips (limits : LimitsValue) (acts : List Act) (counts : Counts) : Type 0 where
  pub posts : posts_in (halt_tree limits) acts ≡ trips_by limits.trip counts.firms
  pub firms : counts.firms < seq_most

-- the act that tells what was decided on the request of this frame
abbrev pub answer_act : ℕ → Option Refusal → Act
answer_act frame None = Sent frame
answer_act frame (Some why) = refused_act frame why

-- the counts after a request that was sent or refused
abbrev pub counts_answered : Option Refusal → Counts → Counts
counts_answered None counts = counted_venue counts
counts_answered (Some why) counts = counted_client counts

-- the stamp of the message that answers a request: it is counted already
abbrev pub answer_stamp : Option Refusal → List ℕ → List ℕ → Counts → Stamp
answer_stamp None time client_id counts = stamp_of (codes "VENUE") counts.venue time
answer_stamp (Some why) time client_id counts = stamp_of client_id counts.client time

-- a note of this frame
abbrev pub noted_act : Note → ℕ → Act
noted_act what frame = Noted frame (note_code what) 0 0

-- what is noted of a report, if anything
abbrev pub note_by : Effect → Option Note
note_by effect.Applied = None
note_by effect.NotLowered = Some note.NotLowered
note_by effect.Stray = Some note.Stray
note_by effect.Over = Some note.Over

-- the acts of at most one note of this frame
abbrev pub note_acts : ℕ → Option Note → List Act
note_acts frame None = []
note_acts frame (Some what) = noted_act what frame ∷ []

-- the messages with at most one more
abbrev pub with_message : Option (List ℕ) → List (List ℕ) → List (List ℕ)
with_message None messages = messages
with_message (Some text) messages = messages ++ text ∷ []

-- the text of at most one message
abbrev pub text_in : Option (List ℕ) → List ℕ
text_in None = []
text_in (Some text) = text

-- A step was made: the session goes on with it, at most so many orders were taken up, and at most one
-- message was given to either sink.
pub record Takes (step : SessionValue → SessionValue) (most : ℕ) (session next : SessionValue)
    (before after : Kept) : Type 0 where
  pub steps : Steps step session next
  pub stands : StandsAs after next
  pub to_venue : Option (List ℕ)
  pub to_client : Option (List ℕ)
  pub venue_is : next.venue ≡ with_message to_venue session.venue
  pub client_is : next.client ≡ with_message to_client session.client
  pub venue_grows : Appends before.venue after.venue (text_in to_venue)
  pub client_grows : Appends before.client after.client (text_in to_client)
  pub orders_most : next.orders ≤ session.orders + most
  pub firms_most : next.firms ≤ session.firms + 1

-- Whatever session stands for what was kept before, the step was made in it.
abbrev pub TakesFrom : (SessionValue → SessionValue) → ℕ → Kept → Kept → Type 0
TakesFrom step most before after =
    (session : SessionValue) → StandsAs before session
    → (next : SessionValue) × Takes step most session next before after

-- Whatever its fields are, the sound frame, which was taken up, was taken.
abbrev pub TakesSound : LimitsValue → FrameIn → Kept → Kept → Type 0
TakesSound limits sound before after =
    (fields : List FieldValue) → HasFieldsIn sound.bytes sound.frame fields
    → TakesFrom (with_frame (after_sound limits fields)) 0 before after
