-- Why a text gives no limits, by the fault that its reader answers.
use Rattle.std.proofs.Common.{◌≡◌, ◌≢◌, ℕ, List, sym, subst}
use Rattle.limit_table.specs.Files.{IsFirstFault}
use Rattle.limit_table.specs.declared.fault.LimitFault.{LimitFault}
use Rattle.limit_table.specs.declared.fault.LimitFault.TheVariants as fault
use Rattle.gate_files.specs.declared.status.Status.{Status}
use Rattle.gate_files.specs.Stages.{GivesNoLimits, status_of_fault}

-- by each fault
by_fault : (text : List ℕ) (why : LimitFault) → (why ≢ fault.Memory → IsFirstFault text why)
    → GivesNoLimits text (status_of_fault why)
by_fault text (fault.RowShape row) refused = refused (λ is. cc)
by_fault text (fault.Kind row) refused = refused (λ is. cc)
by_fault text (fault.Number row) refused = refused (λ is. cc)
by_fault text (fault.Name row) refused = refused (λ is. cc)
by_fault text (fault.Repeated row) refused = refused (λ is. cc)
by_fault text fault.NoFirm refused = refused (λ is. cc)
by_fault text (fault.TooMany row) refused = refused (λ is. cc)
by_fault text (fault.Band row) refused = refused (λ is. cc)
by_fault text fault.Memory refused = tt

-- a text that is refused
pub gives_no_limits : (text : List ℕ) (why : LimitFault) (s : Status)
    → (why ≢ fault.Memory → IsFirstFault text why) → s ≡ status_of_fault why
    → GivesNoLimits text s
gives_no_limits text why s refused is =
    subst (λ (t : Status). GivesNoLimits text t) (sym is) (by_fault text why refused)
