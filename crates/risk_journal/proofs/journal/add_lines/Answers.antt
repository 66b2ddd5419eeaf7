use Rattle.std.proofs.Common.{◌+◌, arith}
use Rattle.std.proofs.lemmas.List.{get_or_default}
use Rattle.risk_board.specs.declared.hand.Line.{Line}
use Rattle.risk_journal.specs.JournalText.{line_text}
use Rattle.risk_journal.proofs.RowLists.{next_numbered}
use Rattle.risk_journal.proofs.journal.add_lines.Goals as goal

abbrev none : Line
none = record { session = 0; index = 0; value = 0 }

pub loop-line-preserved : goal.loop-line-preserved
loop-line-preserved c = record {
  number = omega arith;
  rows = next_numbered (λ placed. line_text c.args.tree placed.0 placed.1) (λ line. line) 1
      c.args.lines.now c.loop-line.line-index (c.loop-line.place + 1) _ _ _ _ (omega arith)
      (get_or_default c.args.lines.now c.loop-line.line-index none _ (omega arith))
      (omega arith) c.loop-line.invariant.rows c.in_ok-add_line.ensures;
}
