-- A case has one verdict, since it is lawful or has one first fault.
use Rattle.std.proofs.Common.{◌≡◌, ℕ, refl}
use Rattle.journal_check.specs.Faults.{Case, IsFirstFault, IsLawful}
use Rattle.check_command.specs.Verdicts.{Verdict, IsVerdict}
use Rattle.check_command.specs.Verdicts.Verdict.{Lawful, Faulty}

pub one_verdict : ((case : Case) (kind row : ℕ) → IsLawful case → ¬ IsFirstFault case kind row)
    → ((case : Case) (kind row other at : ℕ) → IsFirstFault case kind row
    → IsFirstFault case other at → (kind ≡ other) × (row ≡ at))
    → (case : Case) (one other : Verdict) → IsVerdict case one → IsVerdict case other → one ≡ other
one_verdict either only case Lawful Lawful is also = refl
one_verdict either only case Lawful (Faulty kind row) is also =
    absurd (either case kind row is.0 also)
one_verdict either only case (Faulty kind row) Lawful is also =
    absurd (either case kind row also.0 is)
one_verdict either only case (Faulty kind row) (Faulty other at) is also =
    let same = only case kind row other at is also in
    let kinds : kind ≡ other = same.0 in
    let rows : row ≡ at = same.1 in
    cc
