use Rattle.risk_journal.proofs.OneReading.{one_journal, one_fault, not_both}
use Rattle.risk_journal.proofs.journal_law.one_reading_stands.Goals as goal

pub returns-clause-journal : goal.returns-clause-journal
returns-clause-journal c = one_journal

pub returns-clause-fault : goal.returns-clause-fault
returns-clause-fault c = one_fault

pub returns-clause-either : goal.returns-clause-either
returns-clause-either c = not_both
