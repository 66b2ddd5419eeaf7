-- The faults that the trees of a journal have.
use Rattle.std.specs.Prelude.{◌≡◌, ℕ, ◌⊎◌, List}
use Rattle.risk_board.specs.declared.hand.Line.{Line}
use Rattle.risk_journal.specs.declared.acts.Act.{Act}
use Rattle.journal_check.specs.Firsts.{IsFirstRow}
use Rattle.journal_check.specs.LineFaults.{IsLineFault, AreRightTrees}
use Rattle.journal_check.specs.ReadFaults.{IsWrongRead, AreRightReads}
use Rattle.journal_check.specs.declared.judging.CheckFault.{CheckFault}

-- a line isn't right, or a post has none
pub record IsLinesFault (acts : List (List Act)) (lines : List (List Line)) (fault : CheckFault)
    : Type 0 where
  pub kind_is : fault.kind ≡ 6
  pub first : IsLineFault acts lines fault.row

-- a read isn't right, and all lines are
pub record IsReadsFault (last : ℕ) (acts : List (List Act)) (lines : List (List Line))
    (fault : CheckFault) : Type 0 where
  pub kind_is : fault.kind ≡ 7
  pub right : AreRightTrees acts lines
  pub first : IsFirstRow (IsWrongRead last acts lines) fault.row

abbrev pub IsTreeFault : ℕ → List (List Act) → List (List Line) → CheckFault → Type 0
IsTreeFault last acts lines fault =
    IsLinesFault acts lines fault ⊎ IsReadsFault last acts lines fault

-- all lines and all reads are right, and each post has a line
pub record AreRightAll (last : ℕ) (acts : List (List Act)) (lines : List (List Line)) : Type 0 where
  pub right : AreRightTrees acts lines
  pub reads : (tree : ℕ) → AreRightReads last acts lines tree
