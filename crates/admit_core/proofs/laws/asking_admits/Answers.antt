-- After the trees were asked each last post is admitted.
use Rattle.admit_core.specs.Legs.{legs_of}
use Rattle.admit_core.proofs.AskedAdmits.{asked_admits, legs_are}
use Rattle.admit_core.proofs.laws.asking_admits.Goals as goal

pub returns : goal.returns
returns c = λ limits rows values before admits raised.
    asked_admits limits (legs_of limits rows before.acts values) before
    (legs_are limits rows before.acts values) admits raised
