-- An act that is no call keeps the orders covered.
use Rattle.admit_core.proofs.After.{still_over}
use Rattle.order_desk.proofs.Covers.{covers_noted}
use Rattle.order_desk.proofs.desk.Desk.tell.Goals as goal

pub invariant_of-self : goal.invariant_of-self
invariant_of-self g c = record {
  over = still_over _ _ c.self.inside.limits.now c.self.invariant.over c.tell.ensures.after;
  covers = rw c.tell.ensures.acts (covers_noted c.self.inside.limits.now c.self.inside.hands.acts
      c.self.inside.book.value c.args.act c.requires.no_call c.self.invariant.covers);
}
