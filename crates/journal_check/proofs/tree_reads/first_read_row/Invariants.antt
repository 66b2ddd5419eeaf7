-- the first read so far that isn't right
use Rattle.std.proofs.Common.{◌≡◌, ◌+◌, ℕ, length, map}
use Rattle.journal_check.specs.ReadFaults.{IsFirstSoFar}
use Rattle.journal_check.proofs.tree_reads.first_read_row.Given as goal

abbrev pub invariant-loop-tree : goal.invariant-loop-tree
invariant-loop-tree l = (last : ℕ) → length l.trees ≡ last + 1
    → IsFirstSoFar last (map (λ own. own.items) l.journal.acts.items)
    (map (λ own. own.items) l.journal.lines.items) l.tree l.first
