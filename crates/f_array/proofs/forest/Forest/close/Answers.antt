use Rattle.f_array.proofs.TakingBack.{all_are_of}
use Rattle.f_array.proofs.forest.Forest.close.Goals as goal

pub take_back-requires-clause-passes : goal.take_back-requires-clause-passes
take_back-requires-clause-passes g c =
    all_are_of c.args.self c.self.inside.words c.args.passes.items c.self.view_is
    c.requires.passes
