-- Counts of faults over several steps, and what is told of equals.
use Rattle.std.proofs.Common.{◌≡◌, ◌≢◌, ℕ, ◌≤◌, List, arith}
use Rattle.std.proofs.Common.{◌⊎◌, Option, subst, sym}
use Rattle.gate_ports.specs.Faults.{Rose}
use Rattle.gate_files.specs.declared.status.Status.{Status}
use Rattle.gate_files.specs.Statuses.{number_of, told_text}
use Rattle.gate_files.specs.Told.{IsTold}

-- a count that rose later rose
pub rose_from : (first next last : ℕ) → first ≤ next → Rose next last → Rose first last
rose_from first next last later rose = omega arith

-- a count that rose from 0 isn't 0
pub rose_is_some : (first last : ℕ) → first ≡ 0 → Rose first last → last ≢ 0
rose_is_some first last fresh rose none = absurd (omega arith)

-- no count rises from 0 to 0
pub zero_stands : Rose 0 0 → ⊥
zero_stands rose = omega arith

-- what was told of one text was told of its equal
pub told_as : (held held_after : Option (List ℕ)) (faults faults_after : ℕ) (a b : List ℕ)
    (standing n : ℕ) → a ≡ b
    → (n ≡ 8) ⊎ IsTold held held_after faults faults_after a standing n
    → (n ≡ 8) ⊎ IsTold held held_after faults faults_after b standing n
told_as held held_after faults faults_after a b standing n same told =
    subst (λ (text : List ℕ). (n ≡ 8) ⊎ IsTold held held_after faults faults_after text standing n)
    same told

-- what was told of one status was told of its equal
pub told_by : (held held_after : Option (List ℕ)) (faults faults_after : ℕ) (s t : Status) (n : ℕ)
    → s ≡ t → (n ≡ 8) ⊎ IsTold held held_after faults faults_after (told_text t) (number_of t) n
    → (n ≡ 8) ⊎ IsTold held held_after faults faults_after (told_text s) (number_of s) n
told_by held held_after faults faults_after s t n same told =
    subst (λ (u : Status). (n ≡ 8)
    ⊎ IsTold held held_after faults faults_after (told_text u) (number_of u) n) (sym same) told
