-- no case is lawful and has a fault, or has two first faults
use Rattle.check_command.proofs.OneVerdict.{one_verdict}
use Rattle.check_command.proofs.laws.one_verdict_stands.Goals as goal

pub returns : goal.returns
returns c = one_verdict c.one_judgement_stands.ensures.either c.one_judgement_stands.ensures.one
