use Rattle.gate_program.proofs.TotalLists.{of_more}
use Rattle.gate_program.proofs.totals.tree_total.Goals as goal

pub array_of-requires : goal.array_of-requires
array_of-requires c =
    of_more c.args.sessions _ c.args.lines.now c.components.ensures.least c.requires.lines.sessions
