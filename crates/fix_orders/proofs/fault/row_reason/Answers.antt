-- The row is read.
use Rattle.fix_orders.specs.Faults.{values_of}
use Rattle.fix_orders.specs.Table.{row_at}
use Rattle.fix_orders.proofs.FaultLemmas.{row_is}
use Rattle.fix_orders.proofs.fault.row_reason.Goals as goal

pub returns : goal.returns
returns c = λ listed has.
    row_is c.args.kind listed c.row_at-row.result (row_at c.args.place) c.need_in-need.result
    c.is_read.result c.is_required.result c.slot_reason.result c.row_at-row.ensures
    c.need_in-need.ensures (c.is_read.ensures listed has) c.if-not-is_read.false
    c.is_required.ensures
    (c.slot_reason.ensures (values_of (row_at c.args.place).tag listed) (c.at.ensures listed has))
