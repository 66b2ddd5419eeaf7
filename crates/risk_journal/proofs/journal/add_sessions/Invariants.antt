-- the rows so far
use Rattle.std.proofs.Common.{◌≡◌, ◌++◌, take}
use Rattle.risk_journal.specs.JournalText.{session_text}
use Rattle.risk_journal.proofs.RowLists.{numbered}
use Rattle.risk_journal.proofs.journal.add_sessions.Given as goal

abbrev pub invariant-loop-acts : goal.invariant-loop-acts
invariant-loop-acts l = record {
  number : l.session ≡ l.acts-index;
  rows : l.text.items
      ≡ l.initial.text.items
      ++ numbered session_text (λ own. own.items) 0 (take l.acts-index l.sessions);
}
