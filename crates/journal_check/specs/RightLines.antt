-- Which lines of a tree are right, by the posts of each session in it.
use Rattle.std.specs.Prelude.{◌≡◌, ℕ, ◌+◌, ◌≤◌, ◌<◌, List, [], length, take, Some, slice_get}
use Rattle.std.specs.Prelude.{slice_index_or}
use Rattle.risk_board.specs.declared.hand.Line.{Line}
use Rattle.risk_board.specs.History.{lines_of}
use Rattle.journal_check.specs.Firsts.{AllBefore}

-- The line after these has the next index of its session, one more than its session's earlier lines,
-- and the value of the session's post with that index.
pub record IsNextLine (posts : List (List ℕ)) (earlier : List Line) (line : Line) : Type 0 where
  pub index : line.index ≡ length (lines_of line.session earlier) + 1
  pub value : slice_get (slice_index_or posts line.session [])
      (length (lines_of line.session earlier)) ≡ Some line.value

-- the line at this place, from 0, is right
abbrev pub IsRightLine : List (List ℕ) → List Line → ℕ → Line → Type 0
IsRightLine posts lines place line = IsNextLine posts (take place lines) line

abbrev pub AreRightLines : List (List ℕ) → List Line → Type 0
AreRightLines posts lines = AllBefore (IsRightLine posts lines) lines (length lines)

-- each post has a line
abbrev pub HaveAllLines : List (List ℕ) → List Line → Type 0
HaveAllLines posts lines =
    (session : ℕ) → length (slice_index_or posts session []) ≤ length (lines_of session lines)

-- how many of the first lines each session has
abbrev pub CountsLines : List ℕ → List Line → Type 0
CountsLines counts lines = (session : ℕ) → session < length counts
    → slice_index_or counts session 0 ≡ length (lines_of session lines)
