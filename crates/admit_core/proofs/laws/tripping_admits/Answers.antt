-- After a post in the halt tree each last post is admitted.
use Rattle.admit_core.proofs.Tripped.{tripped_admits}
use Rattle.admit_core.proofs.laws.tripping_admits.Goals as goal

pub returns : goal.returns
returns c = tripped_admits
