use Rattle.limit_table.proofs.printing.write_version.Goals as goal

pub returns-in-Two : goal.returns-in-Two
returns-in-Two c = rw c.in-Two.is (rw c.in-Two.is at c.write_row.ensures)
