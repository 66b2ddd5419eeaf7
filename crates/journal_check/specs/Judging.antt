-- What is said of an answer to a journal, and of a journal of which a source failed.
use Rattle.std.specs.Prelude.{◌≡◌, ℕ, ◌+◌, ◌≤◌, ◌<◌, ◌^◌, List, length, map, Option}
use Rattle.limit_table.specs.Trees.{LimitsValue, halt_tree}
use Rattle.risk_board.specs.declared.hand.Line.{Line}
use Rattle.risk_journal.specs.JournalGrammar.{IsSound}
use Rattle.risk_journal.specs.declared.acts.Act.{Act}
use Rattle.screen_kit.specs.Screens.{ScreenValue}
use Rattle.fold_law.specs.declared.limits.TheConstants.{SESSIONS}
use Rattle.journal_check.specs.Answers.{AreTold, IfNo}
use Rattle.journal_check.specs.Faults.{Case, Kind, kind_number, case_of, IsRead, IsFault, IsFirstKind}
use Rattle.journal_check.specs.Faults.{IsFirstFault, IsLawful, HasNoFault}
use Rattle.journal_check.specs.RowFaults.{HasNoRowFault}
use Rattle.journal_check.specs.RowNumbers.{count_all}
use Rattle.journal_check.specs.Sessions.{FailsBehind}
use Rattle.journal_check.specs.Worth.{AreWorth, IsWorth}
use Rattle.journal_check.specs.declared.judging.Checked.{Checked}
use Rattle.journal_check.specs.declared.judging.Checked.TheVariants.{Yes}

-- sources that can be called, and a set of screens for each
pub record AreEnough (sources sets : ℕ) : Type 0 where
  pub few : sources ≤ SESSIONS
  pub screens : sources ≤ sets

-- acts and lines as they are read: their rows can be counted
pub record AreReadRows (acts : List (List Act)) (lines : List (List Line)) : Type 0 where
  pub bytes : 2 + count_all acts + count_all lines < 2 ^ 32
  pub sound : IsSound acts lines

-- An answer to a journal of these acts and lines, whatever its text is: yes where it has no fault,
-- with what that is worth, and no with its first fault.
pub record IsAnswerOf (limits : LimitsValue) (left : List (Option (List ℕ)))
    (screens : List (List ScreenValue)) (acts : List (List Act)) (lines : List (List Line))
    (answer : Checked) : Type 0 where
  pub yes : answer ≡ Yes → AreTold left → (text : List ℕ)
      → HasNoFault (case_of limits text left screens) acts lines
  pub worth : answer ≡ Yes → AreTold left → (text : List ℕ)
      → AreWorth (case_of limits text left screens) acts lines
  pub no : IfNo answer (λ fault. (5 ≤ fault.kind → AreTold left) → (text : List ℕ)
      → IsFirstKind (case_of limits text left screens) acts lines fault.kind fault.row)

-- An answer to a journal: yes where no kind of fault applies, with what that is worth, and no with
-- the first that applies. For the first four kinds nothing is asked of the sources; for all else they
-- tell what they have left.
pub record IsAnswerTo (case : Case) (left : List (Option (List ℕ))) (answer : Checked) : Type 0 where
  pub yes : answer ≡ Yes → AreTold left → IsLawful case
  pub worth : answer ≡ Yes → AreTold left → IsWorth case
  pub no : IfNo answer (λ fault. (5 ≤ fault.kind → AreTold left)
      → IsFirstFault case fault.kind fault.row)

-- a source of a journal of these acts and lines failed, and its rows have no fault
pub record FailsByRows {S : Type 0} (left : S → Option (List ℕ)) (faults : S → ℕ)
    (limits : LimitsValue) (screens : List (List ScreenValue)) (acts : List (List Act))
    (lines : List (List Line)) (before now : List S) : Type 0 where
  pub rows : HasNoRowFault (length before) (halt_tree limits) acts lines
  pub behind : FailsBehind left faults limits screens acts before now

-- The text is a journal, none of the first four kinds of fault applies, the source of one of its
-- sessions failed, and the acts of each session before it are those of its input.
pub record StopsAtSource {S : Type 0} (left : S → Option (List ℕ)) (faults : S → ℕ)
    (limits : LimitsValue) (text : List ℕ) (screens : List (List ScreenValue)) (before now : List S)
    : Type 0 where
  pub acts : List (List Act)
  pub lines : List (List Line)
  pub read : IsRead text acts lines
  pub none : (kind : Kind) (row : ℕ) → kind_number kind < 5
      → ¬ IsFault (case_of limits text (map left before) screens) acts lines kind row
  pub behind : FailsBehind left faults limits screens acts before now
