-- What a refusal of a frame says, by why it is.
use Rattle.std.proofs.Common.{◌≡◌, ℕ, List, inl, inr}
use Rattle.fix_fields.specs.declared.frame.Frame.{Frame}
use Rattle.gate_ports.specs.declared.ports.PortFault.{PortFault}
use Rattle.gate_ports.specs.declared.ports.PortFault.TheVariants as fault
use Rattle.frame_run.specs.Taking.{Leads, TakesNext, TakesNone, StopsNext}

module _ {T : Type 0} (Took : Leads T) (Stopped : PortFault → Leads T) (bytes : List ℕ)
    (frame : Frame) (before now : T) where
  -- the run stopped within the frame, for whatever it was refused
  pub stops_within : (why : PortFault) → TakesNext Took (Stopped why) bytes frame before now
      → StopsNext Took Stopped why bytes frame before now
  stops_within fault.Failed within = within
  stops_within fault.Memory within = inl within

  -- memory was wanting before the frame was begun
  pub stops_before : (why : PortFault) → why ≡ fault.Memory
      → TakesNone Took (Stopped fault.Memory) before now
      → StopsNext Took Stopped why bytes frame before now
  stops_before fault.Failed is before_it = absurd cc
  stops_before fault.Memory is before_it = inr before_it
