-- One tree as it is judged: its lines are right and all there, and its reads are right.
use Rattle.std.specs.Prelude.{ℕ, List}
use Rattle.risk_board.specs.declared.hand.Line.{Line}
use Rattle.risk_journal.specs.declared.acts.Act.{Act}
use Rattle.journal_check.specs.Trees.{tree_posts}
use Rattle.journal_check.specs.RightLines.{AreRightLines, HaveAllLines}
use Rattle.journal_check.specs.ReadRows.{AreRightRows, tree_reads}

pub record IsJudgedRight (whole : List ℕ → ℕ) (unit components tree : ℕ) (own_lines : List Line)
    (acts : List (List Act)) : Type 0 where
  pub lines : AreRightLines (tree_posts tree acts) own_lines
  pub all : HaveAllLines (tree_posts tree acts) own_lines
  pub reads : AreRightRows whole unit components own_lines (tree_reads tree acts)
