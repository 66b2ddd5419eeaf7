-- Verdicts on the files of a check, and what is told of them.
use Rattle.std.specs.Prelude.{◌≡◌, ℕ, ◌<◌, List, [], ◌∷◌, ◌++◌, codes, decimal, map, Some}
use Rattle.std.specs.Prelude.{slice_get}
use Rattle.gate_ports.specs.Names.{Texts}
use Rattle.gate_files.specs.Told.{read_fault_text}
use Rattle.gate_files.specs.Words.{CheckWords}
use Rattle.gate_files.specs.declared.status.Answer.{Answer}
use Rattle.gate_files.specs.Statuses.{answer_number, answer_text}
use Rattle.limit_table.specs.declared.limits.Limits.{Limits}
use Rattle.risk_board.specs.declared.hand.Line.{Line}
use Rattle.risk_journal.specs.declared.acts.Act.{Act}
use Rattle.screen_kit.specs.Screens.{ScreenValue}
use Rattle.journal_check.specs.Faults.{Case, Kind, kind_number, IsFault, IsFirstFault, IsLawful}
use Rattle.journal_check.specs.Faults.{IsRead, IsSessionRight}
use Rattle.journal_check.specs.Worth.{IsWorth}
use Rattle.journal_check.specs.declared.judging.Checked.{Checked}
use Rattle.journal_check.specs.declared.judging.Checked.TheVariants as checked

-- a verdict on a journal: it is lawful, or has a fault, of which this is the kind and the row
pub data Verdict : Type 0 where
  Lawful : Verdict
  Faulty : ℕ → ℕ → Verdict

-- the exit status at a verdict
abbrev pub verdict_number : Verdict → ℕ
verdict_number Lawful = 0
verdict_number (Faulty kind row) = 7

-- what is told of a verdict
abbrev pub verdict_text : Verdict → List ℕ
verdict_text Lawful = codes "LAWFUL" ++ 10 ∷ []
verdict_text (Faulty kind row) =
    codes "check fault " ++ decimal kind ++ codes " row " ++ decimal row ++ 10 ∷ []

-- The verdict is that on the case: lawful where no kind of fault applies, with what that is worth;
-- and else the fault of the first kind that applies.
abbrev pub IsVerdict : Case → Verdict → Type 0
IsVerdict case Lawful = IsLawful case × IsWorth case
IsVerdict case (Faulty kind row) = IsFirstFault case kind row

-- What is judged is these limits, the whole text of the journal, the text of each session, and
-- these sets of screens.
pub record IsCaseAt (texts : Texts) (check : CheckWords) (limits : Limits)
    (sets : List (List ScreenValue)) (case : Case) : Type 0 where
  pub limits_are : case.limits ≡ limits
  pub journal_is : texts check.journal ≡ Some case.text
  pub sessions_are : map texts check.sessions ≡ map (λ bytes. Some bytes) case.sessions
  pub screens_are : case.screens ≡ sets

-- The text is a journal, none of the first four kinds of fault applies, and the acts of each
-- session before this one are those of its input.
pub record IsRightBefore (case : Case) (session : ℕ) : Type 0 where
  pub acts : List (List Act)
  pub lines : List (List Line)
  pub read : IsRead case.text acts lines
  pub none : (kind : Kind) (row : ℕ) → kind_number kind < 5 → ¬ IsFault case acts lines kind row
  pub earlier : (other : ℕ) (own : List Act) → other < session → slice_get acts other ≡ Some own
      → IsSessionRight case other own

-- the exit status of what a judge says
abbrev pub checked_number : Checked → ℕ
checked_number checked.Yes = verdict_number Lawful
checked_number (checked.No fault) = verdict_number (Faulty fault.kind fault.row)
checked_number checked.ReadFault = 5
checked_number checked.Memory = 8

-- what is told of what a judge says; of want of memory nothing is
abbrev pub checked_text : Checked → List ℕ
checked_text checked.Yes = verdict_text Lawful
checked_text (checked.No fault) = verdict_text (Faulty fault.kind fault.row)
checked_text checked.ReadFault = read_fault_text
checked_text checked.Memory = []

-- an answer with the status and the text of what a judge says
pub record IsAnswerFor (said : Checked) (answer : Answer) : Type 0 where
  pub number : answer_number answer ≡ checked_number said
  pub text : answer_text answer ≡ checked_text said
