-- A cancel that is sent keeps the orders covered.
use Rattle.order_desk.proofs.DecidedCovers.{sent_cancel_covers}
use Rattle.order_desk.proofs.decide.decide_cancel.Goals as goal

pub invariant_of-desk : goal.invariant_of-desk
invariant_of-desk g c = record {
  over = c.desk.invariant.over;
  covers = rw c.commit_cancel.ensures.book (sent_cancel_covers c.desk.inside.limits.now
      c.args.request.now c.desk.inside.hands.acts c.desk.inside.book.value c.in-Ok.field-0
      c.in-Ok.ensures c.desk.invariant.covers);
}
