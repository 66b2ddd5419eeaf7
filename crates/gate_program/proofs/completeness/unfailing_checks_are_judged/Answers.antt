-- A check in which nothing failed is judged.
use Rattle.gate_program.proofs.UnfailingChecks.{unfailing_is_judged}
use Rattle.gate_program.proofs.completeness.unfailing_checks_are_judged.Goals as goal

pub returns : goal.returns
returns c = unfailing_is_judged
