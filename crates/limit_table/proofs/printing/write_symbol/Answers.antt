use Rattle.std.proofs.Common.{◌∙◌}
use Rattle.limit_table.proofs.printing.write_symbol.Goals as goal

pub returns : goal.returns
returns c =
    let limit = c.as_bytes.ensures.value ∙ c.format.ensures.text in
    let size = c.as_bytes-2.ensures.value ∙ c.format-2.ensures.text in
    rw (limit, size, c.bytes.ensures.same, c.print_price.ensures, c.print_price-2.ensures) at
    c.write_row.ensures
