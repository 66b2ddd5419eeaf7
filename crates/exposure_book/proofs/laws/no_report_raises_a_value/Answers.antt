use Rattle.exposure_book.proofs.Lowered.{report_raises_nothing, reject_raises_nothing}
use Rattle.exposure_book.proofs.laws.no_report_raises_a_value.Goals as goal

pub returns-clause-report : goal.returns-clause-report
returns-clause-report c = report_raises_nothing

pub returns-clause-reject : goal.returns-clause-reject
returns-clause-reject c = reject_raises_nothing
