use Rattle.std.proofs.Common.{arith}
use Rattle.risk_journal.specs.JournalText.{session_text}
use Rattle.risk_journal.proofs.RowLists.{next_numbered}
use Rattle.risk_journal.proofs.journal.add_sessions.Goals as goal

pub loop-acts-preserved : goal.loop-acts-preserved
loop-acts-preserved c = record {
  number = omega arith;
  rows = next_numbered session_text (λ own. own.items) 0 c.args.sessions.now c.loop-acts.acts-index
      c.loop-acts.session c.acts-item.result _ _ _ (omega arith) c.acts-item.is (omega arith)
      c.loop-acts.invariant.rows
      (rw (← c.deref.ensures.value) c.in_ok-add_acts.ensures);
}
