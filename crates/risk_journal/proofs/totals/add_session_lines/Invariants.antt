-- the lines so far
use Rattle.std.proofs.Common.{◌≡◌, ◌++◌, take}
use Rattle.risk_journal.specs.TotalsText.{session_line}
use Rattle.risk_journal.proofs.RowLists.{numbered}
use Rattle.risk_journal.proofs.totals.add_session_lines.Given as goal

abbrev pub invariant-loop-total : goal.invariant-loop-total
invariant-loop-total l = record {
  count : l.number ≡ l.total-index;
  lines : l.text.items
      ≡ l.initial.text.items
      ++ numbered (λ own. session_line own.0 own.1) (λ total. total) 0
      (take l.total-index l.sessions);
}
