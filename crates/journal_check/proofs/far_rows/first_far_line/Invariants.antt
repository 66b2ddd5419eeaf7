-- the trees so far are none above the last
use Rattle.std.proofs.Common.{map, drop}
use Rattle.risk_journal.specs.SparseTrees.{expand_from}
use Rattle.journal_check.proofs.FarTrees.{ReadTo}
use Rattle.journal_check.proofs.far_rows.first_far_line.Given as goal

abbrev pub invariant-loop-index : goal.invariant-loop-index
invariant-loop-index l =
    ReadTo l.last (map (λ own. own.items) l.told.acts.items) (expand_from 0 l.told.trees.items)
    (drop l.index l.told.trees.items) l.row
