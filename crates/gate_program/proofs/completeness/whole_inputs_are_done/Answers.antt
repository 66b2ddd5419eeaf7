-- Whole inputs are done.
use Rattle.gate_program.proofs.WholeInputs.{whole_is_done}
use Rattle.gate_program.proofs.completeness.whole_inputs_are_done.Goals as goal

pub returns : goal.returns
returns c = whole_is_done
