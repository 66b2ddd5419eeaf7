-- The number that was read, or 0.
use Rattle.std.proofs.Common.{ap, ◌∙◌}
use Rattle.fix_fields.specs.Numbers.{quantity_of}
use Rattle.fix_orders.specs.Faults.{values_of}
use Rattle.fix_orders.specs.Reading.{number_in}
use Rattle.fix_orders.specs.Table.{row_at}
use Rattle.fix_orders.proofs.read.quantity_at.Goals as goal

pub returns-in-Ok : goal.returns-in-Ok
returns-in-Ok c = λ listed has.
    ap number_in (c.in-Ok.ensures ∙ ap quantity_of
    (c.first.ensures (values_of (row_at c.args.place).tag listed) (c.at.ensures listed has)))

pub returns-in-Err : goal.returns-in-Err
returns-in-Err c = λ listed has.
    ap number_in (c.in-Err.ensures ∙ ap quantity_of
    (c.first.ensures (values_of (row_at c.args.place).tag listed) (c.at.ensures listed has)))
