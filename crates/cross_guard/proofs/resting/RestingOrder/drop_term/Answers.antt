-- The values are those of terms that were there.
use Rattle.cross_guard.proofs.Undone.{capped-take}
use Rattle.cross_guard.proofs.resting.RestingOrder.drop_term.Goals as goal

pub invariant_of-self : goal.invariant_of-self
invariant_of-self c = record {
  capped = rw c.pop-2.ensures.rest (capped-take _ _ c.self.invariant.capped);
  fits = c.self.invariant.fits;
}
