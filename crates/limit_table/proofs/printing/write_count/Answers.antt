use Rattle.std.proofs.Common.{◌∙◌}
use Rattle.limit_table.proofs.printing.write_count.Goals as goal

pub returns : goal.returns
returns c = rw (c.as_bytes-number.ensures.value ∙ c.format.ensures.text) at c.write_row.ensures
