use Rattle.std.proofs.Common.{arith, ◌-◌, ◌^◌}
use Rattle.fix_fields.proofs.Digits.{next_value}
use Rattle.limit_desk.proofs.officer.number_of.Goals as goal

-- the number with the next digit
pub loop-digit-preserved : goal.loop-digit-preserved
loop-digit-preserved c =
    let l = c.loop-digit in
    rw (c.saturating_add-value.ensures, c.saturating_mul.ensures, c.from.ensures)
    (next_value 0 c.args.digits.now l.digit-index (2 ^ 64 - 1) l.value (omega arith)
    c.requires l.invariant)
