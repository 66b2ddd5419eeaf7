use Rattle.std.proofs.Common.{arith}
use Rattle.limit_table.proofs.Held.{held_accounts}
use Rattle.limit_table.proofs.limits.Limits.account_tree.Goals as goal

pub overflow_add-result : goal.overflow_add-result
overflow_add-result c =
    omega (arith, held_accounts _ c.self.invariant, rw (← c.self.view_is) at c.requires)
