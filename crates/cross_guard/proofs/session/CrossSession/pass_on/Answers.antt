-- The bytes were given, or a front of them.
use Rattle.std.proofs.Common.{refl}
use Rattle.cross_guard.proofs.Fronts.{gives_piece}
use Rattle.cross_guard.proofs.session.CrossSession.pass_on.Goals as goal

pub returns-clause-passes : goal.returns-clause-passes
returns-clause-passes g c =
    let gives = gives_piece _ c.give_all.result _ _ c.args.text.now (λ given. given)
    c.give_all.ensures.ok c.give_all.ensures.err in
    rw (← c.self.view_is) (record {
      pass = gives.whole;
      would = gives.says;
      gives = record { front = gives.front; rose = c.give_all.ensures.cause.rose };
      others = refl;
    })
