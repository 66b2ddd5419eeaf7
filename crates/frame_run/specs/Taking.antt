-- What takes frames one after another, and a run of it over an input.
use Rattle.std.specs.Prelude.{ℕ, ◌+◌, ◌≤◌, ◌<◌, List, [], ◌∷◌, ◌++◌, length, take, Option, ◌⊎◌}
use Rattle.std.specs.Prelude.{IfSome, nat_lt}
use Rattle.std.specs.Io.KnownBytes.{Consumes}
use Rattle.fix_fields.specs.Frames.{FrameValue, IsFrameAt}
use Rattle.fix_fields.specs.Found.{Splits, place_after}
use Rattle.fix_fields.specs.FrameBuffers.{BufferValue, IsOpen}
use Rattle.fix_fields.specs.Windows.{HoldsRest}
use Rattle.fix_fields.specs.declared.frame.Frame.{Frame}
use Rattle.fix_fields.specs.declared.frame.Found.{Found}
use Rattle.gate_ports.specs.declared.ports.PortFault.{PortFault}
use Rattle.gate_ports.specs.declared.ports.PortFault.TheVariants as fault
use Rattle.risk_journal.specs.declared.acts.End.{End}
use Rattle.risk_journal.specs.declared.acts.End.TheVariants as ending
use Rattle.frame_run.specs.Ends.{EndsBy, input_most}
use Rattle.frame_run.specs.Frames.{IsSameFrame}

-- The frames of an input that lead from one value of a taker to another.
abbrev pub Leads : Type 0 → Type 1
Leads T = List ℕ → T → List FrameValue → T → Type 0

-- Some frames of some input led here, fewer than an input has bytes.
pub record IsUnderWay {T : Type 0} (Took : Leads T) (now : T) : Type 0 where
  pub input : List ℕ
  pub start : T
  pub frames : List FrameValue
  pub took : Took input start frames now
  pub few : length frames < input_most

-- Whatever frames of whatever input led to the value before, with this one too they lead to the value
-- now.
abbrev pub TakesNext : {T : Type 0} → Leads T → Leads T → List ℕ → Frame → T → T → Type 0
TakesNext {T} Took Led bytes frame before now =
    (input : List ℕ) (start : T) (frames : List FrameValue) (next : FrameValue)
    → IsSameFrame bytes frame input next → Took input start frames before
    → Led input start (frames ++ next ∷ []) now

-- Whatever frames led to the value before, they lead to the value now.
abbrev pub TakesNone : {T : Type 0} → Leads T → Leads T → T → T → Type 0
TakesNone {T} Took Led before now =
    (input : List ℕ) (start : T) (frames : List FrameValue) → Took input start frames before
    → Led input start frames now

-- The frame was refused. The run stopped within it where a sink failed, and within or before it where
-- memory was wanting.
abbrev pub StopsNext : {T : Type 0} → Leads T → (PortFault → Leads T) → PortFault → List ℕ → Frame
    → T → T → Type 0
StopsNext Took Stopped fault.Failed bytes frame before now =
    TakesNext Took (Stopped fault.Failed) bytes frame before now
StopsNext Took Stopped fault.Memory bytes frame before now =
    TakesNext Took (Stopped fault.Memory) bytes frame before now
    ⊎ TakesNone Took (Stopped fault.Memory) before now

-- The input is the first bytes, these frames and then the next thing found. All of them were taken,
-- and the end is by what was found.
pub record TakesInput {T : Type 0} (Took : Leads T) (start now : T) (bytes : List ℕ) (end : End)
    : Type 0 where
  pub frames : List FrameValue
  pub next : Found
  pub split : Splits (take input_most bytes) 0 frames next
  pub took : Took (take input_most bytes) start frames now
  pub end_is : EndsBy (nat_lt input_most (length bytes)) next end

-- The frames of what the source had left were taken, where it tells that.
abbrev pub TakesSource : {T : Type 0} → Leads T → T → T → Option (List ℕ) → End → Type 0
TakesSource Took start now left end = IfSome left (λ bytes. TakesInput Took start now bytes end)

-- from a place on, the bytes are these frames
abbrev pub SplitsTo : List ℕ → ℕ → List FrameValue → Type 0
SplitsTo bytes from [] = Unit {0}
SplitsTo bytes from (frame ∷ frames) =
    (body_from : ℕ) × (body_to : ℕ) × IsFrameAt bytes from frame body_from body_to
    × SplitsTo bytes frame.end frames

-- Of what the source had left few bytes were fetched, and these are their first frames.
pub record FetchesFrames (left left_after : Option (List ℕ)) (frames : List FrameValue) : Type 0
  where
    pub fetched : List ℕ
    pub taken : Consumes left left_after fetched
    pub few : length fetched ≤ input_most
    pub split : SplitsTo fetched 0 frames

-- A read failed. The bytes fetched are these frames, all of them taken, and a rest that more bytes may
-- change: nothing, or what is cut.
pub record StopsReading {T : Type 0} (Took : Leads T) (start now : T)
    (left left_after : Option (List ℕ)) : Type 0 where
  pub fetched : List ℕ
  pub frames : List FrameValue
  pub rest : Found
  pub taken : Consumes left left_after fetched
  pub few : length fetched ≤ input_most
  pub split : Splits fetched 0 frames rest
  pub may : IsOpen rest
  pub took : Took fetched start frames now

-- A sink failed, with the last of these frames in hand.
pub record StopsGiving {T : Type 0} (Stopped : Leads T) (start now : T)
    (left left_after : Option (List ℕ)) : Type 0 where
  pub frames : List FrameValue
  pub last : FrameValue
  pub fetches : FetchesFrames left left_after (frames ++ last ∷ [])
  pub stopped : Stopped fetches.fetched start (frames ++ last ∷ []) now

-- The run stopped within or behind the last of these frames, if there is one.
pub record StopsWithin {T : Type 0} (Stopped : Leads T) (start now : T)
    (left left_after : Option (List ℕ)) : Type 0 where
  pub frames : List FrameValue
  pub fetches : FetchesFrames left left_after frames
  pub stopped : Stopped fetches.fetched start frames now

-- The frames of a run that a fault ended.
abbrev pub StopsBy : {T : Type 0} → Leads T → (PortFault → Leads T) → T → T → Option (List ℕ)
    → Option (List ℕ) → End → Type 0
StopsBy Took Stopped start now left left_after ending.ReadFault =
    StopsReading Took start now left left_after
StopsBy Took Stopped start now left left_after ending.WriteFault =
    StopsGiving (Stopped fault.Failed) start now left left_after
StopsBy Took Stopped start now left left_after ending.Memory =
    StopsWithin (Stopped fault.Memory) start now left left_after
StopsBy Took Stopped start now left left_after ending.Whole = Unit {0}
StopsBy Took Stopped start now left left_after (ending.Cut place) = Unit {0}
StopsBy Took Stopped start now left left_after (ending.Broken place) = Unit {0}
StopsBy Took Stopped start now left left_after (ending.TooLong place) = Unit {0}

-- The bytes fetched so far, of which the buffer holds the last, and their frames, which were taken:
-- they are those of each input that begins with these bytes.
pub record Streams {T : Type 0} (Took : Leads T) (start now : T)
    (left left_after : Option (List ℕ)) (buffer : BufferValue) : Type 0 where
  pub fetched : List ℕ
  pub frames : List FrameValue
  pub taken : Consumes left left_after fetched
  pub holds : HoldsRest fetched (place_after 0 frames) buffer
  pub few : buffer.base + length buffer.held ≤ input_most
  pub split : SplitsTo fetched 0 frames
  pub counted : length frames ≤ place_after 0 frames
  pub took : (more : List ℕ) → Took (fetched ++ more) start frames now
