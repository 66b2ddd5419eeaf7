use Rattle.std.proofs.Common.{arith, ◌-◌, ◌^◌}
use Rattle.fix_fields.proofs.Digits.{next_value}
use Rattle.fix_fields.proofs.number.number_after.Goals as goal

-- the number with the next digit
pub loop-digit-preserved : goal.loop-digit-preserved
loop-digit-preserved c =
    let l = c.loop-digit in
    rw (c.saturating_add-value.ensures, c.saturating_mul.ensures, c.from.ensures)
    (next_value c.args.start c.args.digits.now l.digit-index (2 ^ 64 - 1) l.value (omega arith)
    c.requires l.invariant)
