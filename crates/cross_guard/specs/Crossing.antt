-- A session as it runs, as contracts see it, and how it stands before and after what it does.
use Rattle.std.specs.Prelude.{◌≡◌, ◌⊎◌, ℕ, ◌+◌, ◌≤◌, ◌<◌, List, [], ◌++◌, length, Option, Some}
use Rattle.std.specs.Prelude.{Result, Ok, Err}
use Rattle.std.specs.List.{concat, AllByRecursion}
use Rattle.std.specs.Io.KnownBytes.{Appends}
use Rattle.fix_fields.specs.Fields.{FieldValue}
use Rattle.fix_fields.specs.Frames.{FrameValue}
use Rattle.fix_fields.specs.Places.{HasFieldsIn, IsSoundIn}
use Rattle.fix_orders.specs.declared.message.Message.{Message}
use Rattle.fix_orders.specs.Put.{seq_most}
use Rattle.fix_orders.specs.Reading.{read_of}
use Rattle.gate_ports.specs.Faults.{Rose}
use Rattle.gate_ports.specs.declared.ports.PortFault.{PortFault}
use Rattle.gate_ports.specs.declared.ports.PortFault.TheVariants as fault
use Rattle.limit_table.specs.Trees.{LimitsValue}
use Rattle.risk_journal.specs.declared.acts.Act.{Act}
use Rattle.risk_journal.specs.ActLists.{SeenAt, reads_of}
use Rattle.frame_run.specs.Frames.{FrameIn, text_in as text_at}
use Rattle.cross_guard.specs.Giving.{GivesFront, with_message, text_in}
use Rattle.frame_run.specs.Sinks.{SinkValue, IsLaterSink}
use Rattle.cross_guard.specs.Follows.{session_with, HasGiven, FailsLast}
use Rattle.cross_guard.specs.Resting.{RestingValue}
use Rattle.cross_guard.specs.Session.{CrossSession, opening, after_frame, after_frames}
use Rattle.cross_guard.specs.Told.{ToldValue, IsOver, Placing, with_places}
use Rattle.cross_guard.specs.Told.{IsAfter as IsToldAfter}

-- the limits, the hand whose calls are told, the resting orders, how many frames were taken, how many
-- of them were refused, and the sinks
pub record Crossing (H : Type 0) : Type 0 where
  pub limits : LimitsValue
  pub told : ToldValue H
  pub orders : List RestingValue
  pub frames : ℕ
  pub refused : ℕ
  pub pass : SinkValue
  pub client : SinkValue

-- what a session keeps from frame to frame, and what its sinks hold
pub record Kept : Type 0 where
  pub acts : List Act
  pub orders : List RestingValue
  pub frames : ℕ
  pub refused : ℕ
  pub pass : Option (List ℕ)
  pub client : Option (List ℕ)

abbrev pub kept_of : {H : Type 0} → Crossing H → Kept
kept_of now = record {
  acts = now.told.acts;
  orders = now.orders;
  frames = now.frames;
  refused = now.refused;
  pass = now.pass.held;
  client = now.client.held;
}

-- What is kept is that of the session's value, whose reads have these places. Each frame was passed or
-- refused.
pub record StandsAs (place : Placing) (kept : Kept) (session : CrossSession) : Type 0 where
  pub acts_are : session.acts ≡ with_places place kept.acts
  pub orders_are : session.orders ≡ kept.orders
  pub frames_are : session.frames ≡ kept.frames
  pub client_are : length session.client ≡ kept.refused
  pub passed_are : length session.passed + length session.client ≡ session.frames

-- the session with these reads to come
abbrev pub with_reads : List SeenAt → CrossSession → CrossSession
with_reads reads session = record session { reads = reads }

-- A step leads from a session to the next, by the reads that its acts have, whatever further reads are
-- to come. At most one message more is in either stream.
pub record Takes (place : Placing) (step : CrossSession → CrossSession)
    (session next : CrossSession) (before after : Kept) : Type 0 where
  pub seen : List SeenAt
  pub reads_are : reads_of next.acts ≡ reads_of session.acts ++ seen
  pub stepped : (more : List SeenAt)
      → step (with_reads (seen ++ more) session) ≡ with_reads more next
  pub stands : StandsAs place after next
  pub to_pass : Option (List ℕ)
  pub to_client : Option (List ℕ)
  pub passed_is : next.passed ≡ with_message to_pass session.passed
  pub client_is : next.client ≡ with_message to_client session.client
  pub pass_grows : Appends before.pass after.pass (text_in to_pass)
  pub client_grows : Appends before.client after.client (text_in to_client)

-- Whatever session stands for what was kept before, with whatever places of reads, the step was made
-- in it.
abbrev pub TakesFrom : (CrossSession → CrossSession) → Kept → Kept → Type 0
TakesFrom step before after =
    (place : Placing) (session : CrossSession) → StandsAs place before session
    → (next : CrossSession) × Takes place step session next before after

-- Whatever its fields are, the sound frame was taken.
abbrev pub TakesSound : LimitsValue → FrameIn → Kept → Kept → Type 0
TakesSound limits sound before after =
    (fields : List FieldValue) → HasFieldsIn sound.bytes sound.frame fields
    → TakesFrom (after_frame limits (text_at sound.bytes sound.frame) (Some fields)) before after

-- the frame is sound, and whatever its fields are, it reads as this message
pub record ReadsAs (sound : FrameIn) (whole : Message) : Type 0 where
  pub is_sound : IsSoundIn sound.bytes sound.frame
  pub each : (fields : List FieldValue) → HasFieldsIn sound.bytes sound.frame fields
      → read_of fields ≡ Ok whole

-- A message, or a front of it, was given to a sink. Where that failed, the sink's count of faults rose.
pub record GivesNext (given failed : Type 0) (before now : SinkValue) (whole : Option (List ℕ))
    : Type 0 where
  pub front : GivesFront given before.held now.held whole
  pub rose : failed → Rose before.faults now.faults

-- To one of the sinks a message was given, or a front of it: a frame that was passed, or what refuses one.
abbrev pub GivesOne : {H : Type 0} → Type 0 → Type 0 → Crossing H → Crossing H → Option (List ℕ)
    → Option (List ℕ) → Type 0
GivesOne given failed before now pass client =
    (GivesNext given failed before.pass now.pass pass × (now.client.held ≡ client)
    × (now.refused ≡ before.refused))
    ⊎ (GivesNext given failed before.client now.client client × (now.pass.held ≡ pass)
    × (now.refused ≡ before.refused + 1))

-- A frame was taken by this step: with all of its message the sinks would hold so much. One of them may
-- have got just a front of that, and does where it failed.
pub record TakesFront {H : Type 0} (step : Kept → Kept → Type 0) (given failed : Type 0)
    (before now : Crossing H) : Type 0 where
  pub pass : Option (List ℕ)
  pub client : Option (List ℕ)
  pub taken : step (kept_of before) (record (kept_of now) { pass = pass; client = client })
  pub frames_are : now.frames ≡ before.frames + 1
  pub gives : GivesOne given failed before now pass client

-- Memory was wanting, and nothing was done.
pub record DoesNone {H : Type 0} (result : Result (Unit {0}) PortFault) (before now : Crossing H)
    : Type 0 where
  pub why : result ≡ Err fault.Memory
  pub kept : kept_of now ≡ kept_of before

-- a frame was taken, or for want of memory nothing was done
abbrev pub TakesOrNone : {H : Type 0} → (Kept → Kept → Type 0) → Type 0 → Type 0
    → Result (Unit {0}) PortFault → Crossing H → Crossing H → Type 0
TakesOrNone step given failed result before now =
    TakesFront step given failed before now ⊎ DoesNone result before now

-- the same session over the same limits, hand and sinks, so many acts later at most
pub record Continues {H : Type 0} (Same : H → H → Type 0) (before now : Crossing H) (acts : ℕ)
    : Type 0 where
  pub limits_are : now.limits ≡ before.limits
  pub told_is : IsToldAfter Same before.told now.told acts
  pub pass_is : IsLaterSink before.pass now.pass
  pub client_is : IsLaterSink before.client now.client

-- the most acts of a frame: those of a guard, and the answer
abbrev pub frame_acts : ℕ
frame_acts = 4

-- each order is of one of so many symbols
abbrev pub AreOfSymbols : ℕ → List RestingValue → Type 0
AreOfSymbols count orders = AllByRecursion (λ (order : RestingValue). order.symbol < count) orders

-- There is room for what a frame does, its message can be numbered, and each order is of a symbol of
-- the limits.
pub record IsReady {H : Type 0} (now : Crossing H) : Type 0 where
  pub room : frame_acts ≤ now.told.room
  pub over : IsOver now.limits now.told
  pub frames : now.frames < seq_most
  pub refused : now.refused < seq_most
  pub symbols : AreOfSymbols (length now.limits.symbols) now.orders

-- a session before its first frame
pub record IsOpened {H : Type 0} (now : Crossing H) : Type 0 where
  pub acts : now.told.acts ≡ []
  pub over : IsOver now.limits now.told
  pub orders : now.orders ≡ []
  pub frames : now.frames ≡ 0
  pub refused : now.refused ≡ 0

-- The frames were taken, from a session before its first frame on: with these places of reads they lead
-- to a session's value, whatever further reads are to come, which is that of the session now, and the
-- sinks got its messages.
pub record TookBy {H : Type 0} (place : Placing) (input : List ℕ) (start : Crossing H)
    (frames : List FrameValue) (now : Crossing H) : Type 0 where
  pub session : CrossSession
  pub reached : (more : List SeenAt)
      → after_frames start.limits input (opening (reads_of session.acts ++ more)) frames
      ≡ with_reads more session
  pub limits_are : now.limits ≡ start.limits
  pub over : IsOver now.limits now.told
  pub stands : StandsAs place (kept_of now) session
  pub counted : session.frames ≡ length frames
  pub pass_grows : Appends start.pass.held now.pass.held (concat session.passed)
  pub client_grows : Appends start.client.held now.client.held (concat session.client)
  pub pass_later : start.pass.faults ≤ now.pass.faults
  pub client_later : start.client.faults ≤ now.client.faults

-- whatever the places of reads are
abbrev pub TookFrames : {H : Type 0} → List ℕ → Crossing H → List FrameValue → Crossing H → Type 0
TookFrames input start frames now = (place : Placing) → TookBy place input start frames now

-- The frames lead to where a session stopped: they were taken, but of the last one's message the end may
-- not have been given. Where a sink failed, it failed at that message.
pub record StoppedBy {H : Type 0} (place : Placing) (why : PortFault) (input : List ℕ)
    (start : Crossing H) (frames : List FrameValue) (now : Crossing H) : Type 0 where
  pub given : ℕ
  pub to_pass : List ℕ
  pub to_client : List ℕ
  pub acts_are : with_places place now.told.acts
      ≡ (session_with start.limits (reads_of (with_places place now.told.acts)) input frames).acts
  pub pass_got : Appends start.pass.held now.pass.held to_pass
  pub client_got : Appends start.client.held now.client.held to_client
  pub messages : HasGiven start.limits (reads_of (with_places place now.told.acts)) input frames given
      to_pass to_client
  pub failed : why ≡ fault.Failed → FailsLast start.limits
      (reads_of (with_places place now.told.acts)) input frames given
      (Rose start.pass.faults now.pass.faults) (Rose start.client.faults now.client.faults)

-- whatever the places of reads are
abbrev pub StoppedFrames : {H : Type 0} → PortFault → List ℕ → Crossing H → List FrameValue
    → Crossing H → Type 0
StoppedFrames why input start frames now =
    (place : Placing) → StoppedBy place why input start frames now
