use Rattle.std.proofs.Common.{◌∙◌}
use Rattle.limit_table.proofs.printing.write_off.Goals as goal

pub returns : goal.returns
returns c =
    let number = c.as_bytes-number.ensures.value ∙ c.format.ensures.text in
    rw (number, c.from.ensures, c.bytes-name.ensures.same) at c.write_row.ensures
