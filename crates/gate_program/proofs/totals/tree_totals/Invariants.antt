-- the totals of the trees so far
use Rattle.std.proofs.Common.{◌≡◌, take, map}
use Rattle.gate_program.specs.Totals.{tree_totals_from}
use Rattle.gate_program.proofs.totals.tree_totals.Given as goal

abbrev pub invariant-loop-tree : goal.invariant-loop-tree
invariant-loop-tree l = l.all.items
    ≡ tree_totals_from l.limits l.sessions 0 (map (λ own. own.items) (take l.tree l.lines))
