-- What a lawful journal is worth.
use Rattle.std.specs.Prelude.{◌≡◌, ℕ, List, length, Some, IfSome, slice_get}
use Rattle.limit_table.specs.Trees.{fold_of, limit_of}
use Rattle.admit_core.specs.Admitted.{StaysWithin}
use Rattle.risk_board.specs.declared.hand.Line.{Line}
use Rattle.risk_board.specs.History.{components_of, IsLegal}
use Rattle.risk_journal.specs.declared.acts.Act.{Act}
use Rattle.journal_check.specs.Faults.{Case, IsRead, IsSessionRight}
use Rattle.journal_check.specs.Trees.{tree_events, tree_lines}

-- Each tree has one legal history, what is admitted is within each limit after every line and every
-- read, and each session's acts are those of its input and of the journal's reads.
pub record AreWorth (case : Case) (acts : List (List Act)) (lines : List (List Line)) : Type 0 where
  pub sessions : length acts ≡ length case.sessions
  pub legal : (tree : ℕ)
      → IsLegal (fold_of case.limits tree) 0 (components_of (length acts)) (tree_lines tree lines)
      (tree_events tree acts)
  pub within : (tree : ℕ) → IfSome (limit_of case.limits tree) (λ limit.
      StaysWithin limit (length acts) (tree_lines tree lines) (tree_events tree acts))
  pub each : (session : ℕ) (own : List Act) → slice_get acts session ≡ Some own
      → IsSessionRight case session own

-- the text is a journal for which all of this holds
pub record IsWorth (case : Case) : Type 0 where
  pub acts : List (List Act)
  pub lines : List (List Line)
  pub read : IsRead case.text acts lines
  pub worth : AreWorth case acts lines
