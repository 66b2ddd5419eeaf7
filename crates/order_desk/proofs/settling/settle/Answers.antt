-- No value rose, and what is posted covers the orders after it.
use Rattle.admit_core.proofs.After.{still_over}
use Rattle.order_desk.proofs.ReportedCovers.{reply_keeps_cover, settled_covers}
use Rattle.order_desk.proofs.settling.settle.Goals as goal

pub post_lower-requires-clause-lower : goal.post_lower-requires-clause-lower
post_lower-requires-clause-lower g c =
    rw c.apply-applied.ensures.answer
    (reply_keeps_cover _ _ _ c.desk.invariant.covers c.args.reply.now).tells

pub invariant_of-desk : goal.invariant_of-desk
invariant_of-desk g c =
    let keeps = reply_keeps_cover _ _ _ c.desk.invariant.covers c.args.reply.now in
    record {
      over = still_over _ _ c.desk.inside.limits.now c.desk.invariant.over c.post_lower.ensures.after;
      covers = settled_covers _ _ _ _ _ _ _ _ _ keeps c.apply-applied.ensures.answer
          c.apply-applied.ensures.orders (c.post_lower.ensures.settled _);
    }
