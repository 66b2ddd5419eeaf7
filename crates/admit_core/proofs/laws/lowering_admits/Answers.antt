-- After lower values were posted each last post is admitted.
use Rattle.admit_core.specs.Legs.{legs_of}
use Rattle.admit_core.proofs.AskedAdmits.{legs_are}
use Rattle.admit_core.proofs.LoweredTrees.{lowered_admits, legs_apart}
use Rattle.admit_core.proofs.laws.lowering_admits.Goals as goal

pub returns : goal.returns
returns c = λ limits rows values acts admits inside less.
    lowered_admits limits (legs_of limits rows acts values) acts
    (legs_apart limits rows acts values inside) (legs_are limits rows acts values) admits less
