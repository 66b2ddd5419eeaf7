-- The number of each status and answer, and what is told at it.
use Rattle.std.specs.Prelude.{ℕ, List, []}
use Rattle.gate_files.specs.declared.status.Status.{Status}
use Rattle.gate_files.specs.declared.status.Status.TheVariants as status
use Rattle.gate_files.specs.Limits.{limits_fault_text}
use Rattle.gate_files.specs.Told.{usage_text, read_fault_text, write_fault_text}
use Rattle.gate_files.specs.declared.status.Answer.{Answer}
use Rattle.gate_files.specs.declared.status.Answer.TheVariants as answer

-- the exit status of the program
abbrev pub number_of : Status → ℕ
number_of status.Done = 0
number_of status.Usage = 2
number_of (status.Limits why) = 3
number_of status.CutShort = 4
number_of status.ReadFault = 5
number_of status.WriteFault = 6
number_of status.Unlawful = 7
number_of status.Memory = 8

-- what is told of a command that stopped with this status; the statuses after sessions have their
-- totals, a journal's fault has its text, and want of memory tells nothing
abbrev pub told_text : Status → List ℕ
told_text status.Done = []
told_text status.Usage = usage_text
told_text (status.Limits why) = limits_fault_text why
told_text status.CutShort = []
told_text status.ReadFault = read_fault_text
told_text status.WriteFault = write_fault_text
told_text status.Unlawful = []
told_text status.Memory = []

-- the exit status of an answer
abbrev pub answer_number : Answer → ℕ
answer_number (answer.Stopped s) = number_of s
answer_number (answer.Ended s text) = number_of s

-- what is told of an answer
abbrev pub answer_text : Answer → List ℕ
answer_text (answer.Stopped s) = told_text s
answer_text (answer.Ended s text) = text.items
