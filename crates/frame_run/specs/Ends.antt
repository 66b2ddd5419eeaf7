-- How a run over frames ends, and how much it fetches.
use Rattle.std.specs.Prelude.{◌≡◌, ℕ, ◌+◌, ◌≤◌, List, length, Option, Bool, true, false}
use Rattle.std.specs.Io.KnownBytes.{Consumes}
use Rattle.fix_fields.specs.FrameBuffers.{buffer_most}
use Rattle.fix_fields.specs.declared.frame.Found.{Found}
use Rattle.fix_fields.specs.declared.frame.Found.TheVariants as found
use Rattle.gate_ports.specs.declared.ports.PortFault.{PortFault}
use Rattle.gate_ports.specs.declared.ports.PortFault.TheVariants as fault
use Rattle.risk_journal.specs.declared.acts.End.{End}
use Rattle.risk_journal.specs.declared.acts.End.TheVariants as ending

-- the most bytes of an input
abbrev pub input_most : ℕ
input_most = 33554432

-- The end by what stands after the last frame, which is no frame. Where the source goes on past the
-- input, a frame that is cut there is too long, and so is the input.
abbrev pub EndsBy : Bool → Found → End → Type 0
EndsBy goes_on (found.Frame f) end = ⊥
EndsBy goes_on (found.Broken place) end = end ≡ ending.Broken place
EndsBy goes_on (found.TooLong place) end = end ≡ ending.TooLong place
EndsBy true (found.Cut place) end = end ≡ ending.TooLong place
EndsBy true found.End end = end ≡ ending.TooLong input_most
EndsBy false (found.Cut place) end = end ≡ ending.Cut place
EndsBy false found.End end = end ≡ ending.Whole

-- what was found is no frame
abbrev pub IsNoFrame : Found → Type 0
IsNoFrame (found.Frame f) = ⊥
IsNoFrame found.End = Unit {0}
IsNoFrame (found.Cut place) = Unit {0}
IsNoFrame (found.Broken place) = Unit {0}
IsNoFrame (found.TooLong place) = Unit {0}

-- the place that an answer has which is no frame
abbrev pub place_of : Found → ℕ
place_of (found.Frame f) = 0
place_of found.End = 0
place_of (found.Cut place) = place
place_of (found.Broken place) = place
place_of (found.TooLong place) = place

-- an end that is by the input, and not by a fault
abbrev pub IsByInput : End → Type 0
IsByInput ending.Whole = Unit {0}
IsByInput (ending.Cut place) = Unit {0}
IsByInput (ending.Broken place) = Unit {0}
IsByInput (ending.TooLong place) = Unit {0}
IsByInput ending.ReadFault = ⊥
IsByInput ending.WriteFault = ⊥
IsByInput ending.Memory = ⊥

-- the end by a sink's refusal
abbrev pub end_by : PortFault → End
end_by fault.Failed = ending.WriteFault
end_by fault.Memory = ending.Memory

-- Of what the source had left, at most the bytes of an input and one more were fetched, and at most
-- a buffer's behind the place of what is broken.
pub record FetchesInput (left left_after : Option (List ℕ)) (end : End) : Type 0 where
  pub taken : List ℕ
  pub most : length taken ≤ input_most + 1
  pub consumed : Consumes left left_after taken
  pub broken : (place : ℕ) → end ≡ ending.Broken place → length taken ≤ place + buffer_most
