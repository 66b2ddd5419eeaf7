use Rattle.std.proofs.Common.{◌∙◌}
use Rattle.limit_table.proofs.printing.write_account.Goals as goal

pub returns-then-row : goal.returns-then-row
returns-then-row c =
    let number = c.as_bytes-number.ensures.value ∙ c.format.ensures.text in
    rw c.if-row.true (rw (number, c.bytes-name.ensures.same) at c.write_row.ensures)

pub returns : goal.returns
returns c =
    let number = c.as_bytes-number.ensures.value ∙ c.format.ensures.text in
    rw c.if-row.false (rw (number, c.bytes-name.ensures.same) at c.write_row-2.ensures)
