-- A filter in which nothing failed is done or cut.
use Rattle.gate_program.proofs.Filtered.{unfailing_is_filtered}
use Rattle.gate_program.proofs.completeness.unfailing_filters_are_done_or_cut.Goals as goal

pub returns : goal.returns
returns c = unfailing_is_filtered
