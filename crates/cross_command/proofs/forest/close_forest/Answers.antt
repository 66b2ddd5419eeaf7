use Rattle.gate_files.proofs.Results.{ok_by_three}
use Rattle.cross_command.proofs.forest.close_forest.Goals as goal

pub returns : goal.returns
returns c =
    ok_by_three c.close.result _ _ _ _ c.close.ensures.shape c.close.ensures.passes
    c.close.ensures.kept (λ taken shape passes kept. record {
      lawful = c.closed_records_are_lawful.ensures c.args.forest.trees c.args.passes.items taken
          c.requires.passes shape passes kept;
      levels = shape.0;
      trees = shape.1;
      passes_are = passes;
    })
