-- the rows of the lines so far
use Rattle.std.proofs.Common.{◌≡◌, ◌++◌, take}
use Rattle.risk_journal.specs.JournalText.{line_text}
use Rattle.risk_journal.proofs.RowLists.{numbered}
use Rattle.risk_journal.proofs.journal.add_lines.Given as goal

abbrev pub invariant-loop-line : goal.invariant-loop-line
invariant-loop-line l = record {
  number : l.place ≡ l.line-index;
  rows : l.text.items
      ≡ l.initial.text.items
      ++ numbered (λ placed. line_text l.tree placed.0 placed.1) (λ line. line) 1
      (take l.line-index l.lines);
}
