-- The lines of all trees: which is the first that isn't right, and whether a post has none.
use Rattle.std.specs.Prelude.{◌≡◌, ℕ, ◌≤◌, ◌<◌, ◌⊎◌, List, [], length, slice_index_or}
use Rattle.risk_board.specs.declared.hand.Line.{Line}
use Rattle.risk_board.specs.History.{lines_of}
use Rattle.risk_journal.specs.declared.acts.Act.{Act}
use Rattle.journal_check.specs.Firsts.{IsFirstRow, IsFirstWrong}
use Rattle.journal_check.specs.RightLines.{IsRightLine, AreRightLines, HaveAllLines}
use Rattle.journal_check.specs.RowNumbers.{HasLine}
use Rattle.journal_check.specs.ReadRows.{tree_reads}
use Rattle.journal_check.specs.Trees.{tree_posts, tree_lines}
use Rattle.journal_check.specs.declared.tree_lines.LinesFound.{LinesFound}
use Rattle.journal_check.specs.declared.tree_lines.LinesFound.TheVariants.{Wrong, Lacking, Right}

-- the line in this row isn't right
pub record IsWrongLine (acts : List (List Act)) (lines : List (List Line)) (row : ℕ) : Type 0 where
  pub tree : ℕ
  pub place : ℕ
  pub line : Line
  pub has : HasLine acts lines row tree place line
  pub wrong : ¬ IsRightLine (tree_posts tree acts) (tree_lines tree lines) place line

-- a session has fewer lines than posts in a tree
pub record LacksLine (posts : List (List ℕ)) (lines : List Line) : Type 0 where
  pub session : ℕ
  pub fewer : length (lines_of session lines) < length (slice_index_or posts session [])

-- a session has fewer lines than posts in some tree
pub record SomeLacksLine (acts : List (List Act)) (lines : List (List Line)) : Type 0 where
  pub tree : ℕ
  pub lacks : LacksLine (tree_posts tree acts) (tree_lines tree lines)

-- all lines are right, and a post has none
pub record LacksOnly (acts : List (List Act)) (lines : List (List Line)) (row : ℕ) : Type 0 where
  pub right : (other : ℕ) → ¬ IsWrongLine acts lines other
  pub lacks : SomeLacksLine acts lines
  pub row_is : row ≡ 0

-- the first line that isn't right stands in this row; or all are right, a post has none, and it is 0
abbrev pub IsLineFault : List (List Act) → List (List Line) → ℕ → Type 0
IsLineFault acts lines row = IsFirstRow (IsWrongLine acts lines) row ⊎ LacksOnly acts lines row

-- what the lines of a tree are
abbrev pub IsFoundOf : List (List ℕ) → List Line → LinesFound → Type 0
IsFoundOf posts lines (Wrong place) = IsFirstWrong (IsRightLine posts lines) lines place
IsFoundOf posts lines Lacking = AreRightLines posts lines × LacksLine posts lines
IsFoundOf posts lines Right = AreRightLines posts lines × HaveAllLines posts lines

-- the lines of a tree are right, and each post has one
pub record IsRightTree (acts : List (List Act)) (lines : List (List Line)) (tree : ℕ) : Type 0 where
  pub right : AreRightLines (tree_posts tree acts) (tree_lines tree lines)
  pub all : HaveAllLines (tree_posts tree acts) (tree_lines tree lines)

abbrev pub AreRightTrees : List (List Act) → List (List Line) → Type 0
AreRightTrees acts lines = (tree : ℕ) → IsRightTree acts lines tree

-- nothing is told of a tree with this number or above
pub record EndsBefore (count : ℕ) (acts : List (List Act)) (lines : List (List Line)) : Type 0 where
  pub lines_none : (tree : ℕ) → count ≤ tree → tree_lines tree lines ≡ []
  pub posts_none : (tree session : ℕ) → count ≤ tree
      → slice_index_or (tree_posts tree acts) session [] ≡ []
  pub reads_none : (tree : ℕ) → count ≤ tree → tree_reads tree acts ≡ []
