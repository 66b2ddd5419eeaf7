-- The reads of all trees: which is the first that isn't right.
use Rattle.std.specs.Prelude.{◌≡◌, ℕ, ◌<◌, List, length, Option, Some, None, slice_get}
use Rattle.risk_board.specs.declared.hand.Line.{Line}
use Rattle.risk_board.specs.History.{components_of}
use Rattle.risk_journal.specs.declared.acts.Act.{Act}
use Rattle.journal_check.specs.Firsts.{IsFirstWrong}
use Rattle.journal_check.specs.ReadRows.{ReadRow, tree_reads, IsRightRow, AreRightRows}
use Rattle.journal_check.specs.Trees.{tree_lines, fold_in}

-- the read of a tree at this index is right, in a journal of these acts and lines whose last tree is
-- the halt tree
abbrev pub IsRightRead : ℕ → List (List Act) → List (List Line) → ℕ → ℕ → ReadRow → Type 0
IsRightRead last acts lines tree index read =
    IsRightRow (fold_in last tree) 0 (components_of (length acts)) (tree_lines tree lines)
    (tree_reads tree acts) index read

-- all reads of a tree are right
abbrev pub AreRightReads : ℕ → List (List Act) → List (List Line) → ℕ → Type 0
AreRightReads last acts lines tree =
    AreRightRows (fold_in last tree) 0 (components_of (length acts)) (tree_lines tree lines)
    (tree_reads tree acts)

-- the read in this row isn't right
pub record IsWrongRead (last : ℕ) (acts : List (List Act)) (lines : List (List Line)) (row : ℕ)
    : Type 0 where
  pub tree : ℕ
  pub index : ℕ
  pub read : ReadRow
  pub at : slice_get (tree_reads tree acts) index ≡ Some read
  pub row_is : row ≡ read.row
  pub wrong : ¬ IsRightRead last acts lines tree index read

-- the first read of a tree that isn't right stands in this row
pub record IsFirstReadOf (whole : List ℕ → ℕ) (unit components : ℕ) (lines : List Line)
    (reads : List ReadRow) (row : ℕ) : Type 0 where
  pub index : ℕ
  pub first : IsFirstWrong (IsRightRow whole unit components lines reads) reads index
  pub row_is : row ≡ first.item.row

-- what was found in one tree: the row of its first read that isn't right, or none
abbrev pub IsFoundRead : (List ℕ → ℕ) → ℕ → ℕ → List Line → List ReadRow → Option ℕ → Type 0
IsFoundRead whole unit components lines reads None =
    AreRightRows whole unit components lines reads
IsFoundRead whole unit components lines reads (Some row) =
    IsFirstReadOf whole unit components lines reads row

-- Of the reads of the trees below a number, the one in this row isn't right, and those in rows before
-- it are; or all are right.
abbrev pub IsFirstSoFar : ℕ → List (List Act) → List (List Line) → ℕ → Option ℕ → Type 0
IsFirstSoFar last acts lines count None =
    (tree : ℕ) → tree < count → AreRightReads last acts lines tree
IsFirstSoFar last acts lines count (Some row) =
    IsWrongRead last acts lines row
    × ((tree index : ℕ) (read : ReadRow) → tree < count
    → slice_get (tree_reads tree acts) index ≡ Some read → read.row < row
    → IsRightRead last acts lines tree index read)
