-- the halt tree has the largest, and another the sum
use Rattle.std.proofs.Common.{rules}
use Rattle.journal_check.proofs.tree_reads.first_in.Goals as goal

pub returns-then-is_halt : goal.returns-then-is_halt
returns-then-is_halt c = rw c.if-is_halt.true (search rules)

pub returns-else-is_halt : goal.returns-else-is_halt
returns-else-is_halt c = rw c.if-is_halt.false (search rules)
