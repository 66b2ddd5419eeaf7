-- One order more.
use Rattle.std.proofs.Common.{sym, ap, ◌∙◌}
use Rattle.std.specs.Prelude.{take}
use Rattle.cross_guard.specs.Halves.{cross_join}
use Rattle.cross_guard.specs.Resting.{value_in}
use Rattle.cross_guard.proofs.Capped.{join_capped}
use Rattle.cross_guard.proofs.Values.{value-more}
use Rattle.cross_guard.proofs.orders.join_orders.Goals as goal

pub loop-order-preserved : goal.loop-order-preserved
loop-order-preserved c =
    let own = c.loop-order.invariant in
    let before = value_in c.args.symbol (take c.loop-order.order-index c.args.orders.now) in
    record {
      so_far = c.joined-all.ensures
          ∙ ap (λ v. cross_join v c.rests_in.result) own.so_far
          ∙ ap (λ v. cross_join before v) c.rests_in.ensures.value
          ∙ sym (value-more c.args.symbol c.args.orders.now c.loop-order.order-index
          c.order-item.result c.loop-order-test.true c.order-item.is);
      capped = rw c.joined-all.ensures
          (join_capped c.loop-order.all c.rests_in.result own.capped c.rests_in.ensures.capped);
    }
