-- the trees with one changed
use Rattle.std.proofs.Common.{◌<◌, length, ap, get_or, arith}
use Rattle.journal_check.specs.Buckets.{tree_value, no_tree, with_read}
use Rattle.journal_check.specs.declared.tree_acts.TreeActs.{TreeActs}
use Rattle.journal_check.proofs.Changed.{map-changed}
use Rattle.journal_check.proofs.tree_acts.add_read_in.Goals as goal

pub returns-in_ok-add_read : goal.returns-in_ok-add_read
returns-in_ok-add_read c =
    let own : TreeActs = get_or c.args.trees.now c.args.tree c.index-trees-tree.result in
    let less : c.args.tree < length c.args.trees.now = omega arith in
    map-changed tree_value (with_read c.args.read) c.args.trees.now c.args.tree
    c.add_read.new.own own no_tree less (ap (get_or c.args.trees.now c.args.tree) c.index-trees-tree.is)
    c.in_ok-add_read.ensures
