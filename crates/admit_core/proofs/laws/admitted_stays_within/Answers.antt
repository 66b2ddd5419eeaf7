-- In a legal history of sums what is admitted stays within every limit.
use Rattle.admit_core.proofs.Within.{legal_stays_within}
use Rattle.admit_core.proofs.laws.admitted_stays_within.Goals as goal

pub returns : goal.returns
returns c = legal_stays_within
