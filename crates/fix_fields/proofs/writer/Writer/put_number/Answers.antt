use Rattle.std.proofs.Common.{arith, decimal}
use Rattle.fix_fields.proofs.Decimals.{decimal_is_digits, digits_are_a_value}
use Rattle.fix_fields.proofs.writer.Writer.put_number.Goals as goal

-- no digit is SOH
pub put-requires-clause-field : goal.put-requires-clause-field
put-requires-clause-field c = record {
  least = c.requires.tag.0;
  most = c.requires.tag.1;
  without_soh =
      rw (c.as_bytes.ensures.value, c.format.ensures.text)
      (digits_are_a_value (decimal c.args.value) (decimal_is_digits c.args.value (omega arith)));
}
