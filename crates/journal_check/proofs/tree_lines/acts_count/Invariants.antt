-- the acts of the sessions so far are counted
use Rattle.std.proofs.Common.{◌≡◌, map, take}
use Rattle.journal_check.specs.RowNumbers.{count_all}
use Rattle.journal_check.proofs.tree_lines.acts_count.Given as goal

abbrev pub invariant-loop-own : goal.invariant-loop-own
invariant-loop-own l = l.count ≡ count_all (take l.own-index (map (λ own. own.items) l.acts))
