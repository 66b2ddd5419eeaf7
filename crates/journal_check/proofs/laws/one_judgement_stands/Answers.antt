use Rattle.journal_check.proofs.OneJudgement.{lawful_or_not, one_first_fault}
use Rattle.journal_check.proofs.laws.one_judgement_stands.Goals as goal

pub returns-clause-either : goal.returns-clause-either
returns-clause-either c = lawful_or_not

pub returns-clause-one : goal.returns-clause-one
returns-clause-one c = one_first_fault
