-- Whole inputs are filtered.
use Rattle.gate_program.proofs.Filtered.{whole_is_filtered}
use Rattle.gate_program.proofs.completeness.whole_filters_are_done.Goals as goal

pub returns : goal.returns
returns c = whole_is_filtered
