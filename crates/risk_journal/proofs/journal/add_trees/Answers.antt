use Rattle.std.proofs.Common.{arith}
use Rattle.risk_journal.specs.JournalText.{tree_text}
use Rattle.risk_journal.proofs.RowLists.{next_numbered}
use Rattle.risk_journal.proofs.journal.add_trees.Goals as goal

pub loop-lines-preserved : goal.loop-lines-preserved
loop-lines-preserved c = record {
  number = omega arith;
  rows = next_numbered tree_text (λ own. own.items) 0 c.args.trees.now c.loop-lines.lines-index
      c.loop-lines.tree c.lines-item.result _ _ _ (omega arith) c.lines-item.is (omega arith)
      c.loop-lines.invariant.rows
      (rw (← c.deref.ensures.value) c.in_ok-add_lines.ensures);
}
