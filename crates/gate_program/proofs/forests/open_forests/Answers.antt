use Rattle.std.proofs.Common.{ap, ◌∙◌}
use Rattle.limit_table.specs.Trees.{halt_tree}
use Rattle.node_rule.specs.Standing.{plan_of}
use Rattle.gate_program.proofs.forests.open_forests.Goals as goal

pub returns-clause-forests : goal.returns-clause-forests
returns-clause-forests c =
    record {
      sums = record {
        levels = c.of-shape.result.levels;
        least = c.of-shape.ensures.levels;
        plan = c.in_ok-sums.ensures.plan
            ∙ ap (λ n. plan_of c.of-shape.result.levels n c.args.sessions c.quota.result)
            (c.of-shape.ensures.trees ∙ c.halt_tree.ensures.tree)
            ∙ ap (plan_of c.of-shape.result.levels (halt_tree c.args.limits.now) c.args.sessions)
            c.quota.ensures.quota;
      };
      halts = record {
        levels = c.of-shape-2.result.levels;
        least = c.of-shape-2.ensures.levels;
        plan = c.in_ok-halts.ensures.plan
            ∙ ap (λ n. plan_of c.of-shape-2.result.levels n c.args.sessions c.quota-2.result)
            c.of-shape-2.ensures.trees
            ∙ ap (plan_of c.of-shape-2.result.levels 1 c.args.sessions) c.quota-2.ensures.quota;
      };
      sum_keeper = c.in_ok-sums.ensures.keeper;
      halt_keeper = c.in_ok-halts.ensures.keeper;
    }
