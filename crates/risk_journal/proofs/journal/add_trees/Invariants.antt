-- the rows so far
use Rattle.std.proofs.Common.{◌≡◌, ◌++◌, take}
use Rattle.risk_journal.specs.JournalText.{tree_text}
use Rattle.risk_journal.proofs.RowLists.{numbered}
use Rattle.risk_journal.proofs.journal.add_trees.Given as goal

abbrev pub invariant-loop-lines : goal.invariant-loop-lines
invariant-loop-lines l = record {
  number : l.tree ≡ l.lines-index;
  rows : l.text.items
      ≡ l.initial.text.items
      ++ numbered tree_text (λ own. own.items) 0 (take l.lines-index l.trees);
}
