use Rattle.std.proofs.Common.{arith, length, ap}
use Rattle.limit_table.proofs.Held.{held_accounts, held_symbols}
use Rattle.limit_table.proofs.limits.Limits.symbol_tree.Goals as goal

pub overflow_cast-result : goal.overflow_cast-result
overflow_cast-result c =
    omega (arith, held_accounts _ c.self.invariant, ap length c.rows.ensures)

pub overflow_add-result : goal.overflow_add-result
overflow_add-result c =
    omega (arith, held_accounts _ c.self.invariant, ap length c.rows.ensures)

pub overflow_add-result-2 : goal.overflow_add-result-2
overflow_add-result-2 c =
    omega (
      arith,
      held_accounts _ c.self.invariant,
      ap length c.rows.ensures,
      held_symbols _ c.self.invariant,
      rw (← c.self.view_is) at c.requires,
    )
