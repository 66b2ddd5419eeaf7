use Rattle.std.proofs.Common.{refl}
use Rattle.risk_journal.proofs.OneReading.{written_is_read}
use Rattle.risk_journal.proofs.journal_law.written_is_read.Goals as goal

pub returns-clause-no_fault : goal.returns-clause-no_fault
returns-clause-no_fault c = λ acts lines row sound fault. fault.no_journal acts lines sound refl

pub returns-clause-same : goal.returns-clause-same
returns-clause-same c = written_is_read
