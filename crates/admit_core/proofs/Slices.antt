-- Machines within their slices are together within the sum of the slices.
use Rattle.std.specs.Prelude.{ℕ, ◌+◌, ◌≤◌, List, [], ◌∷◌, All, take}
use Rattle.std.proofs.Common.{arith}
use Rattle.std.proofs.lemmas.List.Elements.{All-head, All-tail}
use Rattle.std.proofs.lemmas.List.Sums.{sum_by-cons}
use Rattle.admit_core.specs.Slices.{Machine, KeepsSlice, admitted_from, slices_sum, steps_by}

pub within_slices : (number : ℕ) (steps : List ℕ) (machines : List Machine)
    → All KeepsSlice machines → admitted_from number steps machines ≤ slices_sum machines
within_slices number steps [] kept = omega arith
within_slices number steps (machine ∷ later) kept =
    omega (
      arith,
      sum_by-cons (λ (own : Machine). own.slice) machine later,
      All-head KeepsSlice machine later kept (steps_by number steps),
      within_slices (number + 1) steps later (All-tail KeepsSlice machine later kept),
    )

pub together_within : (limit : ℕ) (machines : List Machine) (steps : List ℕ)
    → slices_sum machines ≤ limit → All KeepsSlice machines
    → (count : ℕ) → admitted_from 0 (take count steps) machines ≤ limit
together_within limit machines steps fit kept count =
    omega (arith, fit, within_slices 0 (take count steps) machines kept)
