use Rattle.std.proofs.Common.{◌<◌, [], length, map, arith}
use Rattle.trail_replay.specs.Reads.{nodes_with}
use Rattle.trail_replay.proofs.Rows.{map-changed}
use Rattle.trail_replay.proofs.reads.add_install.Goals as goal

pub returns-then-tree-len : goal.returns-then-tree-len
returns-then-tree-len c =
    let rows = c.args.rows.now.items in
    let tree = c.args.install.now.tree in
    let less : tree < length rows = omega arith in
    map-changed (λ (nodes : _). map (λ (row : _). row.items) nodes.items)
    (nodes_with c.args.install.now) rows tree c.add_to_tree.new.nodes
    c.index_mut-nodes.result.now [] less c.index_mut-nodes.ensures.value c.add_to_tree.ensures
