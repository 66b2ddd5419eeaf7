-- the trees so far have begun, and the others are as they were
use Rattle.std.proofs.Common.{◌≡◌, ◌++◌, map, take, drop}
use Rattle.journal_check.specs.Buckets.{tree_value, begun}
use Rattle.journal_check.proofs.tree_acts.begin_session.Given as goal

abbrev pub invariant-loop-tree : goal.invariant-loop-tree
invariant-loop-tree l =
    map tree_value l.trees
    ≡ map begun (take l.tree (map tree_value l.initial.trees))
    ++ drop l.tree (map tree_value l.initial.trees)
