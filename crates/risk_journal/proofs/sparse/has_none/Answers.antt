use Rattle.risk_journal.proofs.SparseSteps.{none_kept}
use Rattle.risk_journal.proofs.sparse.has_none.Goals as goal

pub returns : goal.returns
returns c = none_kept c.args.trees.now c.is_empty.result c.is_empty.ensures
