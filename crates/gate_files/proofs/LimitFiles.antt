-- What is read of a limit file decides about the whole of it.
use Rattle.std.proofs.Common.{◌≡◌, ℕ, ◌<◌, List, ◌++◌, length, sym, ap, subst, arith, inl, inr}
use Rattle.std.proofs.Common.{length-append}
use Rattle.std.specs.Prelude.{Option, Some, None, Result, Ok, Err, IfOk, IfErr}
use Rattle.gate_ports.specs.Names.{Texts}
use Rattle.limit_table.specs.Files.{IsLimitFile, IsFirstFault, bytes_most}
use Rattle.limit_table.specs.declared.fault.LimitFault.{LimitFault}
use Rattle.limit_table.specs.declared.limits.Limits.{Limits}
use Rattle.gate_files.specs.declared.status.Status.{Status}
use Rattle.gate_files.specs.declared.status.Status.TheVariants as status
use Rattle.gate_files.specs.Ports.{PortsValue}
use Rattle.gate_files.specs.Stops.{HasLimits, IsRefused}
use Rattle.gate_files.specs.Stages.{HasFront, HasLimitsFault, GivesNoLimits}

-- what follows of each value follows of an answer with one
pub if_ok : {A E : Type 0} (P Q : A → Type 0) (r : Result A E) → ((x : A) → P x → Q x) → IfOk r P
    → IfOk r Q
if_ok P Q (Ok x) each holds = each x holds
if_ok P Q (Err e) each holds = tt

pub if_err : {A E : Type 0} (P Q : E → Type 0) (r : Result A E) → ((e : E) → P e → Q e)
    → IfErr r P → IfErr r Q
if_err P Q (Ok x) each holds = tt
if_err P Q (Err e) each holds = each e holds

-- more bytes than a limit file has are none
long_is_none : (bytes : List ℕ) (limits : Limits) → bytes_most < length bytes
    → IsLimitFile bytes limits → ⊥
long_is_none bytes limits long file = let few = file.few in omega (arith, long, few)

longer : (text bytes rest : List ℕ) → text ≡ bytes ++ rest → bytes_most < length bytes
    → bytes_most < length text
longer text bytes rest is long = omega (arith, long, ap length is, length-append bytes rest)

-- the fault of more bytes than a limit file has is that of a text that goes on behind them
long_fault : (text bytes rest : List ℕ) (why : LimitFault) → text ≡ bytes ++ rest
    → bytes_most < length bytes → IsFirstFault bytes why → IsFirstFault text why
long_fault text bytes rest why is long (inl too_long) =
    inl (record { long = longer text bytes rest is long; fault = too_long.fault })
long_fault text bytes rest why is long (inr (inl row)) =
    let few = row.0 in absurd (omega (arith, long, few))
long_fault text bytes rest why is long (inr (inr lacks)) =
    let few = lacks.few in absurd (omega (arith, long, few))

module _ (name : List ℕ) (most : ℕ) (room : bytes_most < most) where
  pub has_limits : (told : Option Texts) (bytes : List ℕ) (limits : Limits)
      → HasFront told name most bytes → IsLimitFile bytes limits → HasLimits told name limits
  has_limits None bytes limits front are = tt
  has_limits (Some texts) bytes limits (text, is, inl same) are =
      (text, is, subst (λ (t : List ℕ). IsLimitFile t limits) (sym same) are)
  has_limits (Some texts) bytes limits (text, is, inr (long, rest, spelled)) are =
      absurd (long_is_none bytes limits (omega (arith, long, room)) are)

  pub is_refused : (told : Option Texts) (bytes : List ℕ) (why : LimitFault)
      → HasFront told name most bytes → IsFirstFault bytes why → IsRefused told name why
  is_refused None bytes why front fault = tt
  is_refused (Some texts) bytes why (text, is, inl same) fault =
      (text, is, subst (λ (t : List ℕ). IsFirstFault t why) (sym same) fault)
  is_refused (Some texts) bytes why (text, is, inr (long, rest, spelled)) fault =
      (text, is, long_fault text bytes rest why spelled (omega (arith, long, room)) fault)

  -- why the bytes that were read give no limits is why the name has none
  pub has_limits_fault : (before after : PortsValue) (bytes : List ℕ) (s : Status)
      → HasFront before.texts name most bytes → GivesNoLimits bytes s
      → HasLimitsFault before after name s
  has_limits_fault before after bytes (status.Limits why) front gives =
      is_refused before.texts bytes why front gives
  has_limits_fault before after bytes status.Memory front gives = tt
  has_limits_fault before after bytes status.Done front gives = absurd gives
  has_limits_fault before after bytes status.Usage front gives = absurd gives
  has_limits_fault before after bytes status.CutShort front gives = absurd gives
  has_limits_fault before after bytes status.ReadFault front gives = absurd gives
  has_limits_fault before after bytes status.WriteFault front gives = absurd gives
  has_limits_fault before after bytes status.Unlawful front gives = absurd gives
