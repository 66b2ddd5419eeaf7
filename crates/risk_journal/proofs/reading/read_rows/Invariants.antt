-- the text up to here was taken, row by row
use Rattle.std.proofs.Common.{◌++◌, ◌-◌, ◌+◌, ◌≤◌, length, drop}
use Rattle.risk_journal.specs.JournalText.{header_text}
use Rattle.risk_journal.specs.SparseTrees.{AreRising}
use Rattle.risk_journal.specs.TakenView.{taken_of, Reached}
use Rattle.risk_journal.proofs.reading.read_rows.Given as goal

abbrev pub invariant-loop-at : goal.invariant-loop-at
invariant-loop-at l = record {
  reached : Reached (header_text ++ l.rest) (drop l.at l.rest) l.number (taken_of l.reading);
  within : l.at ≤ length l.rest;
  few : l.number ≤ l.at + 2;
  rising : AreRising 0 l.reading.trees.items;
}

abbrev pub decreases-loop-at : goal.decreases-loop-at
decreases-loop-at l = length l.rest - l.at
