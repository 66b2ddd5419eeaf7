-- What is said of an answer, and of the sources that come back with it.
use Rattle.std.specs.Prelude.{◌≡◌, ℕ, ◌≤◌, List, length, Option, IsSome, ⊤, Some, slice_get}
use Rattle.std.specs.List.{All}
use Rattle.gate_ports.specs.Faults.{Rose}
use Rattle.journal_check.specs.declared.judging.Checked.{Checked}
use Rattle.journal_check.specs.declared.judging.Checked.TheVariants.{Yes, No, ReadFault, Memory}
use Rattle.journal_check.specs.declared.judging.CheckFault.{CheckFault}

-- a fault that is answered has this
abbrev pub IfNo : Checked → (CheckFault → Type 0) → Type 0
IfNo Yes P = ⊤
IfNo (No fault) P = P fault
IfNo ReadFault P = ⊤
IfNo Memory P = ⊤

-- each source tells the bytes that it has left
abbrev pub AreTold : List (Option (List ℕ)) → Type 0
AreTold left = All (λ own. IsSome own) left

-- A source that comes back: the same name, and no fewer faults.
pub record IsSourceBack {S : Type 0} (faults : S → ℕ) (name : S → Option (List ℕ)) (before now : S)
    : Type 0 where
  pub later : faults before ≤ faults now
  pub name_is : name now ≡ name before

-- as many sources come back, each in its place
pub record AreBack {S : Type 0} (faults : S → ℕ) (name : S → Option (List ℕ)) (before now : List S)
    : Type 0 where
  pub count : length now ≡ length before
  pub each : (index : ℕ) (one other : S) → slice_get before index ≡ Some one
      → slice_get now index ≡ Some other → IsSourceBack faults name one other

-- the faults of the source at this index rose
pub record RoseAt {S : Type 0} (faults : S → ℕ) (before now : List S) (index : ℕ) : Type 0 where
  pub one : S
  pub other : S
  pub at : slice_get before index ≡ Some one
  pub also : slice_get now index ≡ Some other
  pub rose : Rose (faults one) (faults other)
