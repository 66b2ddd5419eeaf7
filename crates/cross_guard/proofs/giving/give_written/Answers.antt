-- What was written was given, or a front of it.
use Rattle.cross_guard.proofs.Fronts.{gives_written}
use Rattle.cross_guard.proofs.giving.give_written.Goals as goal

pub returns-clause-given : goal.returns-clause-given
returns-clause-given g c =
    gives_written _ c.give_all.result _ _ c.finish.result.now c.args.writer.now (λ given. given)
    c.give_all.ensures.ok c.give_all.ensures.err c.finish.ensures
