use Rattle.std.proofs.Common.{arith}
use Rattle.std.proofs.lemmas.Fmt.{length-decimal-le}
use Rattle.fix_fields.proofs.writer.write_head.Goals as goal

-- four digits fit before the SOH of BodyLength
pub write_digits-digits_from-requires : goal.write_digits-digits_from-requires
write_digits-digits_from-requires c =
    let short = length-decimal-le 4 c.args.len (omega arith) (omega arith) (omega arith) in
    (omega (arith, short), omega arith)

-- and the constant bytes fit before them
pub write_before-requires : goal.write_before-requires
write_before-requires c =
    let short = length-decimal-le 4 c.args.len (omega arith) (omega arith) (omega arith) in
    (omega (arith, short), omega arith)
