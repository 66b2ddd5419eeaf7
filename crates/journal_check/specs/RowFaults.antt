-- The faults that a journal's rows have by themselves.
use Rattle.std.specs.Prelude.{◌≡◌, ◌≢◌, ℕ, ◌⊎◌, List, length}
use Rattle.risk_board.specs.declared.hand.Line.{Line}
use Rattle.risk_journal.specs.declared.acts.Act.{Act}
use Rattle.journal_check.specs.FarRows.{IsEarlyRow, IsFarRow}
use Rattle.journal_check.specs.Firsts.{IsFirstRow}
use Rattle.journal_check.specs.declared.judging.CheckFault.{CheckFault}

-- another number of sessions
pub record IsCountFault (sessions : ℕ) (acts : List (List Act)) (fault : CheckFault) : Type 0 where
  pub kind_is : fault.kind ≡ 2
  pub row_is : fault.row ≡ 0
  pub apart : length acts ≢ sessions

-- a session ended by a fault
pub record IsEarlyFault (sessions : ℕ) (acts : List (List Act)) (fault : CheckFault) : Type 0 where
  pub kind_is : fault.kind ≡ 3
  pub count : length acts ≡ sessions
  pub first : IsFirstRow (IsEarlyRow acts) fault.row

-- a row is of a tree above the last
pub record IsFarFault (sessions last : ℕ) (acts : List (List Act)) (lines : List (List Line))
    (fault : CheckFault) : Type 0 where
  pub kind_is : fault.kind ≡ 4
  pub count : length acts ≡ sessions
  pub no_early : (row : ℕ) → ¬ IsEarlyRow acts row
  pub first : IsFirstRow (IsFarRow last acts lines) fault.row

-- the first of these faults that a journal has
abbrev pub IsRowFault : ℕ → ℕ → List (List Act) → List (List Line) → CheckFault → Type 0
IsRowFault sessions last acts lines fault =
    IsCountFault sessions acts fault ⊎ IsEarlyFault sessions acts fault
    ⊎ IsFarFault sessions last acts lines fault

-- none of them
pub record HasNoRowFault (sessions last : ℕ) (acts : List (List Act)) (lines : List (List Line))
    : Type 0 where
  pub count : length acts ≡ sessions
  pub no_early : (row : ℕ) → ¬ IsEarlyRow acts row
  pub no_far : (row : ℕ) → ¬ IsFarRow last acts lines row
