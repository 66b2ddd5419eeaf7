-- Rows of a journal that are of a tree above the last.
use Rattle.std.specs.Prelude.{ℕ, ◌<◌, ◌⊎◌, List}
use Rattle.risk_board.specs.declared.hand.Line.{Line}
use Rattle.risk_journal.specs.declared.acts.Act.{Act}
use Rattle.journal_check.specs.ActFaults.{Has}
use Rattle.journal_check.specs.RowNumbers.{HasActWith, HasLine}
use Rattle.journal_check.specs.declared.act_rows.ActFault.TheVariants.{Early, Above}

-- a session in this row ended by a fault
abbrev pub IsEarlyRow : List (List Act) → ℕ → Type 0
IsEarlyRow acts row = HasActWith (Has Early) acts row

-- an act in this row is of a tree above the last
abbrev pub IsFarAct : ℕ → List (List Act) → ℕ → Type 0
IsFarAct last acts row = HasActWith (Has (Above last)) acts row

-- a line in this row is of a tree above the last
pub record IsFarLine (last : ℕ) (acts : List (List Act)) (lines : List (List Line)) (row : ℕ)
    : Type 0 where
  pub tree : ℕ
  pub place : ℕ
  pub line : Line
  pub has : HasLine acts lines row tree place line
  pub far : last < tree

-- an act or a line in this row is of a tree above the last
abbrev pub IsFarRow : ℕ → List (List Act) → List (List Line) → ℕ → Type 0
IsFarRow last acts lines row = IsFarAct last acts row ⊎ IsFarLine last acts lines row
