-- The reads of one tree in order of row, and which of them are right.
use Rattle.std.specs.Prelude.{◌≡◌, ◌==◌, ℕ, ◌+◌, ◌≤◌, ◌<◌, List, [], ◌∷◌, ◌++◌, length, take, Some}
use Rattle.std.specs.Prelude.{slice_get, if◌then◌else◌}
use Rattle.risk_board.specs.declared.hand.Line.{Line}
use Rattle.risk_board.specs.History.{Event, lines_of, array_after}
use Rattle.risk_board.specs.History.Event.{Posted, Saw}
use Rattle.risk_journal.specs.declared.acts.Act.{Act}
use Rattle.risk_journal.specs.declared.acts.Act.TheVariants.{Post, Read, Sent, Refused, Noted, Ended}
pub use Rattle.journal_check.specs.declared.read_rows.ReadRow.{ReadRow}
use Rattle.journal_check.specs.Firsts.{AllBefore}

-- what a session did in a tree, each with its row, where the first of these acts has this row
abbrev pub told_events : ℕ → ℕ → List Act → List (ℕ × Event)
told_events tree row [] = []
told_events tree row (Post in_tree index value ∷ acts) =
    if in_tree == tree then (row, Posted value) ∷ told_events tree (row + 1) acts
    else told_events tree (row + 1) acts
told_events tree row (Read in_tree stamp place value ∷ acts) =
    if in_tree == tree then (row, Saw stamp place value) ∷ told_events tree (row + 1) acts
    else told_events tree (row + 1) acts
told_events tree row (Sent frame ∷ acts) = told_events tree (row + 1) acts
told_events tree row (Refused frame code first second ∷ acts) = told_events tree (row + 1) acts
told_events tree row (Noted frame code first second ∷ acts) = told_events tree (row + 1) acts
told_events tree row (Ended end ∷ acts) = told_events tree (row + 1) acts

-- the reads of a session in a tree, from so many of its posts there and this stamp on
abbrev pub session_reads : ℕ → ℕ → ℕ → List (ℕ × Event) → List ReadRow
session_reads session made least [] = []
session_reads session made least ((row, Posted value) ∷ own) =
    session_reads session (made + 1) least own
session_reads session made least ((row, Saw at place seen) ∷ own) =
    record {
      row = row;
      session = session;
      made = made;
      least = least;
      stamp = at;
      place = place;
      value = seen;
    } ∷ session_reads session made at own

-- the reads of these sessions in a tree, of which the first has this number and its first act this row
abbrev pub reads_from : ℕ → ℕ → ℕ → List (List Act) → List ReadRow
reads_from tree session row [] = []
reads_from tree session row (own ∷ acts) =
    session_reads session 0 0 (told_events tree row own)
    ++ reads_from tree (session + 1) (row + length own) acts

-- the reads of a tree in a journal with these acts: the header is row 1
abbrev pub tree_reads : ℕ → List (List Act) → List ReadRow
tree_reads tree acts = reads_from tree 0 2 acts

-- What a read has to be by itself: it stands at a place of the tree's history, its value is the fold
-- there, the lines up to there have of its session's posts exactly those before it, and its stamp
-- isn't below that of the session's read before it in the tree.
pub record FitsLines (whole : List ℕ → ℕ) (unit components : ℕ) (lines : List Line)
    (read : ReadRow) : Type 0 where
  pub within : read.place ≤ length lines
  pub value_is : read.value ≡ whole (array_after unit components (take read.place lines))
  pub own : length (lines_of read.session (take read.place lines)) ≡ read.made
  pub rises : read.least ≤ read.stamp

-- Two reads stand to each other as their stamps do: at most, at least, and so for equal stamps at one
-- place.
abbrev pub Agree : ReadRow → ReadRow → Type 0
Agree one other =
    (one.stamp ≤ other.stamp → one.place ≤ other.place)
    × (other.stamp ≤ one.stamp → other.place ≤ one.place)

-- the read at this place, from 0, agrees with each before it
abbrev pub AgreesAt : List ReadRow → ℕ → ReadRow → Type 0
AgreesAt reads index read =
    (earlier : ℕ) (other : ReadRow) → earlier < index → slice_get reads earlier ≡ Some other
    → Agree other read

-- the read at this place, from 0, is right
pub record IsRightRow (whole : List ℕ → ℕ) (unit components : ℕ) (lines : List Line)
    (reads : List ReadRow) (index : ℕ) (read : ReadRow) : Type 0 where
  pub fits : FitsLines whole unit components lines read
  pub agrees : AgreesAt reads index read

-- all reads of a tree are right
abbrev pub AreRightRows : (List ℕ → ℕ) → ℕ → ℕ → List Line → List ReadRow → Type 0
AreRightRows whole unit components lines reads =
    AllBefore (IsRightRow whole unit components lines reads) reads (length reads)
