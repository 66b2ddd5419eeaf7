-- What an end says of what stands next.
use Rattle.std.proofs.Common.{◌≡◌, ℕ, ◌+◌, ◌≤◌, sym, subst, refl, Bool, true, false, inl, inr}
use Rattle.std.proofs.Common.{arith, ◌⊎◌}
use Rattle.fix_fields.specs.Found.{IsSettled}
use Rattle.fix_fields.specs.FrameBuffers.{IsOpen}
use Rattle.fix_fields.specs.Windows.{moved}
use Rattle.fix_fields.specs.declared.frame.Found.{Found}
use Rattle.fix_fields.specs.declared.frame.Found.TheVariants as found
use Rattle.gate_ports.specs.declared.ports.PortFault.{PortFault}
use Rattle.gate_ports.specs.declared.ports.PortFault.TheVariants as fault
use Rattle.risk_journal.specs.declared.acts.End.{End}
use Rattle.risk_journal.specs.declared.acts.End.TheVariants as ending
use Rattle.frame_run.specs.Ends.{EndsBy, IsByInput, end_by}

-- an end that the input says is by the input
pub said_by_input : (goes_on : Bool) (next : Found) (end : End) → EndsBy goes_on next end
    → IsByInput end
said_by_input goes_on (found.Frame f) end e = absurd e
said_by_input true next end e = subst IsByInput (sym e) tt
said_by_input false next end e = subst IsByInput (sym e) tt

pub no_read_fault : (goes_on : Bool) (next : Found) (end : End) → EndsBy goes_on next end
    → end ≡ ending.ReadFault → ⊥
no_read_fault goes_on next end e is = subst IsByInput is (said_by_input goes_on next end e)

pub either : (b : Bool) → (b ≡ true) ⊎ (b ≡ false)
either true = inl refl
either false = inr refl

-- what was found may change, or not
pub open_or_settled : (base : ℕ) (next : Found) → IsOpen next ⊎ IsSettled (moved base next)
open_or_settled base found.End = inl tt
open_or_settled base (found.Cut place) = inl tt
open_or_settled base next = inr tt

-- what may change may so wherever it stands
pub open_moved : (base : ℕ) (next : Found) → IsOpen next → IsOpen (moved base next)
open_moved base found.End may = tt
open_moved base (found.Cut place) may = tt
open_moved base next may = absurd may

-- what is settled ends a run the same way, whether the source goes on or not
pub by_settled : (goes_on other : Bool) (next : Found) (end : End) → IsSettled next
    → EndsBy goes_on next end → EndsBy other next end
by_settled goes_on other found.End end settled e = absurd settled
by_settled goes_on other (found.Cut p) end settled e = absurd settled
by_settled goes_on other next end settled e = e

-- a whole run stopped at an end that might have changed
pub whole_is_open : (goes_on : Bool) (base : ℕ) (next : Found) (end : End)
    → EndsBy goes_on (moved base next) end → end ≡ ending.Whole
    → (goes_on ≡ false) × IsOpen next
whole_is_open goes_on base (found.Frame f) end e is = absurd e
whole_is_open false base (found.Cut p) end e is = (refl, tt)
whole_is_open false base found.End end e is = (refl, tt)
whole_is_open goes_on base next end e is = absurd cc

-- a broken run stopped at what is broken, which nothing changes
pub broken_is_behind : (goes_on : Bool) (base : ℕ) (next : Found) (end : End) (place : ℕ)
    → EndsBy goes_on (moved base next) end → end ≡ ending.Broken place
    → (base ≤ place) × (IsOpen next → ⊥)
broken_is_behind goes_on base (found.Frame f) end place e is = absurd e
broken_is_behind goes_on base (found.Broken p) end place e is =
    let same : base + p ≡ place = cc in (omega (arith, same), λ may. may)
broken_is_behind true base next end place e is = absurd cc
broken_is_behind false base next end place e is = absurd cc

-- an end by a refusal is no broken rest
pub refused_not_broken : (why : PortFault) (end : End) (place : ℕ) → end ≡ end_by why
    → end ≡ ending.Broken place → ⊥
refused_not_broken fault.Failed end place by is = cc
refused_not_broken fault.Memory end place by is = cc
