-- the rows of the nodes so far
use Rattle.std.proofs.Common.{◌≡◌, map}
use Rattle.trail_replay.specs.Reads.{empty_nodes, end_stamp}
use Rattle.trail_replay.proofs.reads.nodes_before.Given as goal

abbrev pub invariant-loop-node : goal.invariant-loop-node
invariant-loop-node l =
    map (λ row. row.items) l.nodes.items ≡ empty_nodes (end_stamp l.taken l.tree) l.node
