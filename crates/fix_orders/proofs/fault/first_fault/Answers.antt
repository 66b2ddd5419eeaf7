-- The rows so far have no fault.
use Rattle.std.proofs.Common.{◌∙◌, sym, ap, arith}
use Rattle.fix_orders.specs.declared.table.Row.{Row}
use Rattle.fix_orders.proofs.FaultLemmas.{row_passes, row_fails, none_left}
use Rattle.fix_orders.proofs.fault.first_fault.Goals as goal

pub returns-in-Some : goal.returns-in-Some
returns-in-Some c = λ listed has.
    row_fails c.args.kind listed c.loop-place.place c.row_at.result.tag c.in-Some.reason
    c.code.result (omega arith) (c.in-Some.ensures listed has)
    (ap (λ (r : Row). r.tag) c.row_at.ensures) c.code.ensures
    (c.loop-place.invariant listed has)

pub loop-place-preserved : goal.loop-place-preserved
loop-place-preserved c = λ listed has.
    c.loop-place.invariant listed has
    ∙ row_passes c.args.kind listed c.loop-place.place (omega arith)
    (sym c.in_default.is ∙ c.row_reason.ensures listed has)

pub returns : goal.returns
returns c = λ listed has.
    none_left c.args.kind listed c.loop-place.place (omega arith) (c.loop-place.invariant listed has)
