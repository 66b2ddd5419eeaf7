-- The trees of a journal as they are compared with it.
use Rattle.std.specs.Prelude.{◌≡◌, ℕ, ◌≤◌, List, length, Some, slice_get}
use Rattle.limit_table.specs.Trees.{limit_of}
use Rattle.limit_table.specs.declared.limits.Limits.{Limits}
use Rattle.risk_board.specs.declared.hand.Line.{Line}
use Rattle.risk_journal.specs.declared.acts.Act.{Act}
use Rattle.tree_check.specs.Reads.{reads_by}
use Rattle.tree_check.specs.declared.agreeing.ToldTree.{ToldTree}
use Rattle.gate_program.specs.Histories.{AreLegalLines}
use Rattle.gate_program.specs.Totals.{HaveTotals}
use Rattle.gate_files.specs.Words.{session_most}

-- a tree of a journal: its lines, the reads of all sessions in it, and its limit
pub record IsTold (limits : Limits) (acts : List (List Act)) (lines : List (List Line)) (tree : ℕ)
    (told : ToldTree) : Type 0 where
  pub lines_are : slice_get lines tree ≡ Some told.history.lines.items
  pub reads_are : told.reads.items ≡ reads_by tree acts
  pub limit_is : told.limit ≡ limit_of limits tree

-- the first trees of a journal
abbrev pub AreTold : Limits → List (List Act) → List (List Line) → List ToldTree → Type 0
AreTold limits acts lines trees =
    (tree : ℕ) (told : ToldTree) → slice_get trees tree ≡ Some told
    → IsTold limits acts lines tree told

-- sessions' acts and trees' lines that can be compared: each tree has one legal history, which can be
-- walked, of at most so many sessions as a run has
pub record CanBeTold (limits : Limits) (acts : List (List Act)) (lines : List (List Line)) : Type 0
  where
    pub few : length acts ≤ session_most
    pub legal : AreLegalLines limits acts lines
    pub totals : HaveTotals (length acts) lines
