use Rattle.std.proofs.Common.{arith}
use Rattle.risk_journal.specs.TotalsText.{tree_line}
use Rattle.risk_journal.proofs.RowLists.{next_numbered}
use Rattle.risk_journal.proofs.totals.add_tree_lines.Goals as goal

pub loop-total-preserved : goal.loop-total-preserved
loop-total-preserved c = record {
  count = omega arith;
  lines = next_numbered (λ own. tree_line own.0 own.1) (λ total. total) 0
      c.args.trees.now c.loop-total.total-index c.loop-total.number c.total-item.result _ _ _
      (omega arith) c.total-item.is (omega arith) c.loop-total.invariant.lines
      c.in_ok-add_tree_line.ensures;
}
