-- The refusal was told and counted.
use Rattle.std.proofs.Common.{refl}
use Rattle.cross_guard.proofs.session.CrossSession.tell_refusal.Goals as goal

pub returns-clause-tells : goal.returns-clause-tells
returns-clause-tells g c =
    rw (← c.self.view_is) (record {
      acts = rw c.code_of.ensures at c.tell.ensures.acts;
      others = refl;
    })
