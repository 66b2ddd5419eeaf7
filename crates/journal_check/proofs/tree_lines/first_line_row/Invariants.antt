-- the lines of the trees so far are right, and it is known whether a post has none
use Rattle.std.proofs.Common.{◌≡◌, ◌+◌, true, false, map, take}
use Rattle.journal_check.specs.LineFaults.{SomeLacksLine}
use Rattle.journal_check.specs.RowNumbers.{count_all}
use Rattle.journal_check.proofs.LineRows.{AreRightBefore, HaveAllBefore}
use Rattle.journal_check.proofs.tree_lines.first_line_row.Given as goal

abbrev pub invariant-loop-tree : goal.invariant-loop-tree
invariant-loop-tree l =
    let acts = map (λ own. own.items) l.journal.acts.items in
    let lines = map (λ own. own.items) l.journal.lines.items in
    record {
      row : l.row ≡ 2 + count_all acts + count_all (take l.tree lines);
      right : AreRightBefore acts lines l.tree;
      lacks : l.lacks ≡ true → SomeLacksLine acts lines;
      all : l.lacks ≡ false → HaveAllBefore acts lines l.tree;
    }
