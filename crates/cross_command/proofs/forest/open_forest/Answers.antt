use Rattle.std.proofs.Common.{ℕ, max, length, ap, ◌∙◌, arith}
use Rattle.limit_table.proofs.Held.{held_symbols}
use Rattle.limit_table.specs.declared.kind.SymbolRow.{SymbolRow}
use Rattle.node_rule.specs.Standing.{plan_of}
use Rattle.std.proofs.Common.{List}
use Rattle.cross_guard.specs.Told.{cross_trees}
use Rattle.cross_command.proofs.forest.open_forest.Goals as goal

pub overflow_cast-symbols : goal.overflow_cast-symbols
overflow_cast-symbols c = omega (
  arith,
  held_symbols c.args.limits.now c.stand_in_a_file.ensures,
  ap length c.symbols.ensures,
)

pub of-shape-requires-clause-trees : goal.of-shape-requires-clause-trees
of-shape-requires-clause-trees c =
    let few = held_symbols c.args.limits.now c.stand_in_a_file.ensures in
    let many = ap length c.symbols.ensures in
    let count = c.max-count.ensures in
    (omega (arith, few, many, count), omega (arith, few, many, count))

pub returns-clause-forest : goal.returns-clause-forest
returns-clause-forest c =
    record {
      trees = record {
        levels = c.of-shape.result.levels;
        least = c.of-shape.ensures.levels;
        plan = c.in_ok-trees.ensures.plan
            ∙ ap (λ (n : ℕ). plan_of c.of-shape.result.levels n c.args.sessions c.quota.result)
            (c.of-shape.ensures.trees ∙ c.max-count.ensures
            ∙ ap (λ (rows : List SymbolRow). max (length rows) 1) c.symbols.ensures)
            ∙ ap (plan_of c.of-shape.result.levels (cross_trees c.args.limits.now) c.args.sessions)
            c.quota.ensures.quota;
      };
      keeper = c.in_ok-trees.ensures.keeper;
    }
