use Rattle.std.proofs.Common.{arith, length, ap}
use Rattle.limit_table.proofs.Held.{held_accounts, held_symbols}
use Rattle.limit_table.proofs.limits.Limits.halt_tree.Goals as goal

pub overflow_cast-result : goal.overflow_cast-result
overflow_cast-result c =
    omega (arith, held_accounts _ c.self.invariant, ap length c.rows.ensures)

pub overflow_add-result : goal.overflow_add-result
overflow_add-result c =
    omega (arith, held_accounts _ c.self.invariant, ap length c.rows.ensures)

pub overflow_cast-result-2 : goal.overflow_cast-result-2
overflow_cast-result-2 c =
    omega (arith, held_symbols _ c.self.invariant, ap length c.rows-2.ensures)

pub overflow_add-result-2 : goal.overflow_add-result-2
overflow_add-result-2 c =
    omega (
      arith,
      held_accounts _ c.self.invariant,
      ap length c.rows.ensures,
      held_symbols _ c.self.invariant,
      ap length c.rows-2.ensures,
    )

pub returns-clause-few : goal.returns-clause-few
returns-clause-few c =
    omega (
      arith,
      held_accounts _ c.self.invariant,
      ap length c.rows.ensures,
      held_symbols _ c.self.invariant,
      ap length c.rows-2.ensures,
    )
