use Rattle.std.proofs.Common.{◌<◌, [], length, arith}
use Rattle.trail_replay.specs.Reads.{row_with}
use Rattle.trail_replay.proofs.Rows.{map-changed}
use Rattle.trail_replay.proofs.reads.add_to_tree.Goals as goal

pub returns-then-node-len : goal.returns-then-node-len
returns-then-node-len c =
    let nodes = c.args.nodes.now.items in
    let node = c.args.install.now.node in
    let less : node < length nodes = omega arith in
    map-changed (λ (row : _). row.items) (row_with c.args.install.now) nodes node
    c.add_to_row.new.row c.index_mut-row.result.now [] less c.index_mut-row.ensures.value
    c.add_to_row.ensures
