-- What is told of sessions that have ended: their totals, or the summary of a load where all was done.
use Rattle.std.specs.Prelude.{ℕ, ◌==◌, List, Bool, true, false, count_by, sum_by, if◌then◌else◌}
use Rattle.limit_table.specs.declared.limits.Limits.{Limits}
use Rattle.make_load.specs.declared.summary.Counts.{Counts}
use Rattle.make_load.specs.Summary.{summary_text}
use Rattle.risk_board.specs.declared.hand.Line.{Line}
use Rattle.risk_journal.specs.declared.acts.Act.{Act}
use Rattle.risk_journal.specs.declared.acts.Act.TheVariants as act
use Rattle.risk_journal.specs.declared.acts.End.{End}
use Rattle.gate_program.specs.declared.told.Told.{Told}
use Rattle.gate_program.specs.declared.told.Told.TheVariants as told
use Rattle.gate_program.specs.Totals.{totals_of}

-- the text of sessions with these acts, ends and lines, at this status
abbrev pub Teller : Type 0
Teller = List (List Act) → List End → List (List Line) → ℕ → List ℕ

abbrev pub is_read : Act → Bool
is_read (act.Read tree stamp place value) = true
is_read other = false

-- how many reads all sessions made
abbrev pub reads_of : List (List Act) → ℕ
reads_of acts = sum_by (count_by is_read) acts

-- the counts of a load with so many reads
abbrev pub with_reads : ℕ → Counts → Counts
with_reads reads counts = record counts { reads = reads }

abbrev pub told_of : Told → Limits → Teller
told_of told.Totals limits = totals_of limits
told_of (told.Summary asked counts) limits = λ acts ends lines status.
    if status == 0 then summary_text asked (with_reads (reads_of acts) counts)
    else totals_of limits acts ends lines status
