-- A post in the halt tree keeps the orders covered.
use Rattle.admit_core.proofs.After.{still_over}
use Rattle.order_desk.proofs.Covers.{covers_tripped}
use Rattle.order_desk.proofs.desk.Desk.trip.Goals as goal

pub invariant_of-self : goal.invariant_of-self
invariant_of-self g c = record {
  over = still_over _ _ c.self.inside.limits.now c.self.invariant.over c.trip.ensures.after;
  covers = rw (c.trip.ensures.acts, c.self.invariant.over.halt_tree_is)
      (covers_tripped c.self.inside.limits.now 1 c.self.inside.hands.acts c.self.inside.book.value
      c.self.invariant.covers);
}
