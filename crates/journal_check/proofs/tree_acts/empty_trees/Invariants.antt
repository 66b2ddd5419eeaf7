-- nothing in the trees so far
use Rattle.std.proofs.Common.{◌≡◌, map, replicate}
use Rattle.journal_check.specs.Buckets.{tree_value, empty_tree}
use Rattle.journal_check.proofs.tree_acts.empty_trees.Given as goal

abbrev pub invariant-loop : goal.invariant-loop
invariant-loop l = map tree_value l.all.items ≡ replicate l.counter (empty_tree l.sessions)
