-- What one session did with its input.
use Rattle.std.specs.Prelude.{◌≡◌, ℕ, ◌+◌, ◌≤◌, List, [], ◌∷◌, ◌++◌, length, take, Option, IfSome}
use Rattle.std.specs.Prelude.{nat_lt, ◌⊎◌}
use Rattle.std.specs.List.{concat}
use Rattle.std.specs.Io.KnownBytes.{Appends, Consumes}
use Rattle.fix_fields.specs.Frames.{FrameValue}
use Rattle.fix_fields.specs.Found.{Splits}
use Rattle.fix_fields.specs.FrameBuffers.{IsOpen}
use Rattle.fix_fields.specs.declared.frame.Found.{Found}
use Rattle.gate_ports.specs.Faults.{Rose}
use Rattle.limit_table.specs.Trees.{LimitsValue}
use Rattle.risk_journal.specs.declared.acts.Act.{Act}
use Rattle.risk_journal.specs.declared.acts.Act.TheVariants.{Ended}
use Rattle.risk_journal.specs.declared.acts.End.{End}
use Rattle.risk_journal.specs.declared.acts.End.TheVariants as ending
use Rattle.risk_journal.specs.ActLists.{SeenAt, reads_of}
use Rattle.frame_run.specs.Ends.{EndsBy, IsByInput, input_most}
use Rattle.cross_guard.specs.Giving.{IsBetween}
use Rattle.frame_run.specs.Sinks.{SinkValue}
use Rattle.frame_run.specs.Taking.{SplitsTo}
use Rattle.cross_guard.specs.Covering.{Covers}
use Rattle.cross_guard.specs.Session.{CrossSession, opening, after_frames}

-- the session over these frames of an input, with these reads
abbrev pub session_with : LimitsValue → List SeenAt → List ℕ → List FrameValue → CrossSession
session_with limits reads input frames = after_frames limits input (opening reads) frames

-- the session over these frames of an input, with the reads that its acts have
abbrev pub session_of : LimitsValue → List Act → List ℕ → List FrameValue → CrossSession
session_of limits acts input frames = session_with limits (reads_of acts) input frames

-- The acts and both streams are those that the session function says of these frames of an input and of
-- the acts' own reads, and the last act says how the session ended. After each frame, what the orders
-- rest as is admitted.
pub record DoesFrames (limits : LimitsValue) (input : List ℕ) (frames : List FrameValue)
    (acts : List Act) (end : End) (pass client : List ℕ) : Type 0 where
  pub acts_are : acts ≡ (session_of limits acts input frames).acts ++ Ended end ∷ []
  pub pass_is : pass ≡ concat (session_of limits acts input frames).passed
  pub client_is : client ≡ concat (session_of limits acts input frames).client
  pub covered : (count : ℕ) → Covers (session_of limits acts input (take count frames))

-- The input is the first bytes, these frames and then the next thing found, and the session did and wrote
-- what the session function says of them.
pub record FollowsInput (limits : LimitsValue) (bytes : List ℕ) (acts : List Act) (end : End)
    (pass client : List ℕ) : Type 0 where
  pub frames : List FrameValue
  pub next : Found
  pub split : Splits (take input_most bytes) 0 frames next
  pub end_is : EndsBy (nat_lt input_most (length bytes)) next end
  pub does : DoesFrames limits (take input_most bytes) frames acts end pass client

-- The sinks got what follows from the bytes that the source had left, where it tells them.
abbrev pub FollowsSource : LimitsValue → Option (List ℕ) → List Act → End → Option (List ℕ)
    → Option (List ℕ) → Option (List ℕ) → Option (List ℕ) → Type 0
FollowsSource limits left acts end pass pass_after client client_after =
    IfSome left (λ bytes. (to_pass : List ℕ) × (to_client : List ℕ)
    × Appends pass pass_after to_pass × Appends client client_after to_client
    × FollowsInput limits bytes acts end to_pass to_client)

-- The streams have the messages of so many first frames, of these or of all of them but the last, and
-- go on within the message of the next. At most one of them lacks the end of that message.
pub record HasGiven (limits : LimitsValue) (reads : List SeenAt) (input : List ℕ)
    (frames : List FrameValue) (given : ℕ) (pass client : List ℕ) : Type 0 where
  pub all_but_one : length frames ≤ given + 1
  pub pass_is : IsBetween (session_with limits reads input (take given frames)).passed
      (session_with limits reads input frames).passed pass
  pub client_is : IsBetween (session_with limits reads input (take given frames)).client
      (session_with limits reads input frames).client client
  pub one : (pass ≡ concat (session_with limits reads input frames).passed)
      ⊎ (client ≡ concat (session_with limits reads input frames).client)

-- The last of these frames has the message that failed: it is the last of the stream whose sink failed.
pub record FailsLast (limits : LimitsValue) (reads : List SeenAt) (input : List ℕ)
    (frames : List FrameValue) (given : ℕ) (pass_failed client_failed : Type 0) : Type 0 where
  pub last : length frames ≡ given + 1
  pub failed : (pass_failed × (length (session_with limits reads input frames).passed
      ≡ length (session_with limits reads input (take given frames)).passed + 1))
      ⊎ (client_failed × (length (session_with limits reads input frames).client
      ≡ length (session_with limits reads input (take given frames)).client + 1))

-- A read failed: what was fetched are these frames, and then nothing, or what is cut. The session did
-- and wrote what the session function says of them.
pub record ReadsShort (limits : LimitsValue) (fetched : List ℕ) (acts : List Act)
    (pass client : List ℕ) : Type 0 where
  pub frames : List FrameValue
  pub rest : Found
  pub few : length fetched ≤ input_most
  pub split : Splits fetched 0 frames rest
  pub may : IsOpen rest
  pub does : DoesFrames limits fetched frames acts ending.ReadFault pass client

-- A session stopped behind these first frames of what was fetched, or within the last of them: its
-- acts are what the session function says of them, and so are its streams but for the end of the last
-- frame's message.
pub record StopsBehind (limits : LimitsValue) (fetched : List ℕ) (acts : List Act) (end : End)
    (pass client : List ℕ) : Type 0 where
  pub frames : List FrameValue
  pub given : ℕ
  pub few : length fetched ≤ input_most
  pub split : SplitsTo fetched 0 frames
  pub acts_are : acts ≡ (session_of limits acts fetched frames).acts ++ Ended end ∷ []
  pub messages : HasGiven limits (reads_of acts) fetched frames given pass client
  pub covered : (count : ℕ) → Covers (session_of limits acts fetched (take count frames))

-- a sink failed at the last message
pub record StopsAtMessage (limits : LimitsValue) (fetched : List ℕ) (acts : List Act)
    (pass client : List ℕ) (pass_failed client_failed : Type 0) : Type 0 where
  pub behind : StopsBehind limits fetched acts ending.WriteFault pass client
  pub failed : FailsLast limits (reads_of acts) fetched behind.frames behind.given pass_failed
      client_failed

-- memory was wanting before anything was done
pub record DoesNothing (acts : List Act) (pass client : List ℕ) : Type 0 where
  pub acts_are : acts ≡ []
  pub pass_is : pass ≡ []
  pub client_is : client ≡ []

-- What a session did and wrote that a fault ended, over what was fetched of its input.
abbrev pub StopsEarly : LimitsValue → List ℕ → List Act → End → List ℕ → List ℕ → Type 0 → Type 0
    → Type 0
StopsEarly limits fetched acts ending.ReadFault pass client pass_failed client_failed =
    ReadsShort limits fetched acts pass client
StopsEarly limits fetched acts ending.WriteFault pass client pass_failed client_failed =
    StopsAtMessage limits fetched acts pass client pass_failed client_failed
StopsEarly limits fetched acts ending.Memory pass client pass_failed client_failed =
    DoesNothing acts pass client ⊎ StopsBehind limits fetched acts ending.Memory pass client
StopsEarly limits fetched acts ending.Whole pass client pass_failed client_failed = Unit {0}
StopsEarly limits fetched acts (ending.Cut place) pass client pass_failed client_failed = Unit {0}
StopsEarly limits fetched acts (ending.Broken place) pass client pass_failed client_failed =
    Unit {0}
StopsEarly limits fetched acts (ending.TooLong place) pass client pass_failed client_failed =
    Unit {0}

-- A fault ended the session. Its sinks got what follows from the bytes that were fetched of what the
-- source had left.
pub record StopsSource (limits : LimitsValue) (left left_after : Option (List ℕ)) (acts : List Act)
    (end : End) (pass pass_after client client_after : SinkValue) : Type 0 where
  pub fetched : List ℕ
  pub to_pass : List ℕ
  pub to_client : List ℕ
  pub taken : Consumes left left_after fetched
  pub pass_got : Appends pass.held pass_after.held to_pass
  pub client_got : Appends client.held client_after.held to_client
  pub stops : StopsEarly limits fetched acts end to_pass to_client
      (Rose pass.faults pass_after.faults) (Rose client.faults client_after.faults)

-- What a session did and wrote, however it ended.
pub record Follows (limits : LimitsValue) (left left_after : Option (List ℕ)) (acts : List Act)
    (end : End) (pass pass_after client client_after : SinkValue) : Type 0 where
  pub input : IsByInput end
      → FollowsSource limits left acts end pass.held pass_after.held client.held client_after.held
  pub early : IsByInput end
      ⊎ StopsSource limits left left_after acts end pass pass_after client client_after
