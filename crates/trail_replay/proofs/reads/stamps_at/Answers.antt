use Rattle.std.proofs.Common.{◌≡◌, [], length, get_or, map, ap, ◌∙◌}
use Rattle.std.proofs.Common.{arith}
use Rattle.std.proofs.lemmas.List.{length-map, get_or_default}
use Rattle.trail_replay.specs.Reads.{row_of, unread}
use Rattle.trail_replay.proofs.PreparedTables.{value_at, tree_inside, node_inside}
use Rattle.trail_replay.proofs.reads.stamps_at.Goals as goal

pub returns : goal.returns
returns c =
    let rows = map (λ (nodes : _). map (λ (row : _). row.items) nodes.items) c.args.rows.now in
    let tree = c.args.tree in
    let node = c.args.node in
    let stamp = c.args.stamp in
    let has = c.requires.has in
    let t_in = tree_inside rows tree node (omega (arith, has)) in
    let n_in = node_inside rows tree node (omega (arith, has)) in
    let nodes_is = value_at (λ (nodes : _). map (λ (row : _). row.items) nodes.items)
    c.args.rows.now tree c.index-rows-tree.result []
    (omega (
      arith,
      t_in,
      length-map c.args.rows.now
          (λ (nodes : _). map (λ (row : _). row.items) nodes.items),
    )) c.index-rows-tree.is in
    let row_is = value_at (λ (row : _). row.items) c.index-rows-tree.result.items node
    c.index-row.result.now [] (omega (
      arith,
      n_in,
      ap length nodes_is,
      length-map c.index-rows-tree.result.items (λ (row : _). row.items),
    )) c.index-row.ensures in
    let same : c.index-row.result.now.items ≡ row_of rows tree node =
    row_is ∙ ap (λ nodes. get_or nodes node []) nodes_is in
    c.index.ensures
    ∙ (ap (λ row. get_or row stamp c.index.result.now) same
    ∙ get_or_default (row_of rows tree node) stamp c.index.result.now unread has)
