-- What machines have admitted together is within the limit that their slices are of.
use Rattle.admit_core.proofs.Slices.{together_within}
use Rattle.admit_core.proofs.laws.slices_keep_the_limit.Goals as goal

pub returns : goal.returns
returns c = together_within
