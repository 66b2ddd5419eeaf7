use Rattle.std.proofs.Common.{◌-◌, sym, refl, length, get_or, arith}
use Rattle.risk_journal.proofs.SparseSteps.{last_number}
use Rattle.risk_journal.proofs.sparse.trees_count.Goals as goal

pub returns : goal.returns
returns c =
    let trees = c.args.trees.now in
    let last = length trees - 1 in
    sym (last_number trees last (get_or trees last c.index-trees-count.result)
    c.index-trees-count.result c.requires (omega arith) refl)
