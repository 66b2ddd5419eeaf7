-- so many trees before any post
use Rattle.std.proofs.Common.{◌≡◌, map, replicate}
use Rattle.risk_board.specs.History.{components_of}
use Rattle.risk_board.specs.Tree.{contents, empty_tree}
use Rattle.risk_board.proofs.board.open_trees.Given as goal

abbrev pub invariant-loop : goal.invariant-loop
invariant-loop l = map contents l.all.items
    ≡ replicate l.counter (empty_tree l.unit (components_of l.sessions) l.sessions)
