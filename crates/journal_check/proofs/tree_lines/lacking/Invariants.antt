-- the sessions so far have as many lines as posts
use Rattle.std.proofs.Common.{ℕ, List, [], ◌<◌, ◌≤◌, length, map}
use Rattle.std.specs.Prelude.{slice_index_or}
use Rattle.risk_board.specs.History.{lines_of}
use Rattle.risk_board.specs.declared.hand.Line.{Line}
use Rattle.journal_check.specs.RightLines.{CountsLines}
use Rattle.journal_check.proofs.tree_lines.lacking.Given as goal

abbrev pub invariant-loop-session : goal.invariant-loop-session
invariant-loop-session l = (lines : List Line) → CountsLines l.counts lines
    → (session : ℕ) → session < l.session
    → length (slice_index_or (map (λ own. own.items) l.posts) session [])
    ≤ length (lines_of session lines)
