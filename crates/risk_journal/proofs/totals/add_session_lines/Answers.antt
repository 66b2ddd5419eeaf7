use Rattle.std.proofs.Common.{arith}
use Rattle.std.proofs.lemmas.List.{get_or_default}
use Rattle.risk_journal.specs.declared.acts.End.TheVariants.{Whole}
use Rattle.risk_journal.specs.declared.totals.SessionTotal.{SessionTotal}
use Rattle.risk_journal.specs.TotalsText.{session_line}
use Rattle.risk_journal.proofs.RowLists.{next_numbered}
use Rattle.risk_journal.proofs.totals.add_session_lines.Goals as goal

abbrev none : SessionTotal
none = record { end = Whole; sent = 0; refused = 0; noted = 0 }

pub loop-total-preserved : goal.loop-total-preserved
loop-total-preserved c = record {
  count = omega arith;
  lines = next_numbered (λ own. session_line own.0 own.1) (λ total. total) 0
      c.args.sessions.now c.loop-total.total-index c.loop-total.number _ _ _ _ (omega arith)
      (get_or_default c.args.sessions.now c.loop-total.total-index none _ (omega arith))
      (omega arith) c.loop-total.invariant.lines c.in_ok-add_session_line.ensures;
}
