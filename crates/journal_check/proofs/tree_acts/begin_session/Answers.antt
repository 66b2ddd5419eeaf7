-- one tree more has begun
use Rattle.std.proofs.Common.{◌<◌, ◌∙◌, ap, length, map, get_or, arith, refl}
use Rattle.std.proofs.lemmas.List.{length-map}
use Rattle.journal_check.specs.Buckets.{tree_value, no_tree, begun}
use Rattle.journal_check.specs.declared.tree_acts.TreeActs.{TreeActs}
use Rattle.journal_check.proofs.Changed.{map-changed, changed_more, changed_all}
use Rattle.journal_check.proofs.tree_acts.begin_session.Goals as goal

pub loop-tree-preserved : goal.loop-tree-preserved
loop-tree-preserved c =
    let trees = c.loop-tree.trees in
    let at = c.loop-tree.tree in
    let own : TreeActs = get_or trees at c.index-trees-tree.result in
    let new : TreeActs = record { posts = own.posts; reads = own.reads; least = 0 } in
    let less : at < length trees = omega arith in
    let long = length-map c.args.trees.now tree_value in
    map-changed tree_value begun trees at new own no_tree less
    (ap (get_or trees at) c.index-trees-tree.is) refl
    ∙ changed_more begun (map tree_value c.args.trees.now) (map tree_value trees) at no_tree
    (omega arith) c.loop-tree.invariant

pub returns : goal.returns
returns c =
    let long = length-map c.args.trees.now tree_value in
    c.loop-tree.invariant
    ∙ changed_all begun (map tree_value c.args.trees.now) c.loop-tree.tree (omega arith)
