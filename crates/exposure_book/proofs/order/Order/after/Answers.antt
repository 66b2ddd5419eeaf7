use Rattle.fix_orders.specs.declared.message.Exec.TheVariants.{Replaced, Rejected, Trade}
use Rattle.exposure_book.proofs.Lowering.{order_after_lowers}
use Rattle.exposure_book.proofs.order.Order.after.Goals as goal

pub returns-in-Replaced-clause-lowers : goal.returns-in-Replaced-clause-lowers
returns-in-Replaced-clause-lowers c =
    rw c.replaced.ensures (order_after_lowers c.args.self.now c.args.id.now Replaced)

pub returns-in-Rejected-clause-lowers : goal.returns-in-Rejected-clause-lowers
returns-in-Rejected-clause-lowers c =
    rw c.rejected.ensures (order_after_lowers c.args.self.now c.args.id.now Rejected)

pub returns-in-Trade-clause-lowers : goal.returns-in-Trade-clause-lowers
returns-in-Trade-clause-lowers c =
    rw c.traded.ensures
    (order_after_lowers c.args.self.now c.args.id.now (Trade c.in-Trade.quantity c.in-Trade.price))
