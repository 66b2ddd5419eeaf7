-- The values are those of terms that were there.
use Rattle.cross_guard.proofs.Capped.{capped-later}
use Rattle.cross_guard.proofs.resting.RestingOrder.reject.Goals as goal

pub invariant_of-self : goal.invariant_of-self
invariant_of-self c =
    let is_open = rw (← c.self.view_is) at c.requires in
    record {
      capped = rw c.take_out_later.ensures (capped-later _ _ c.self.invariant.capped);
      fits = λ still. c.self.invariant.fits is_open;
    }
