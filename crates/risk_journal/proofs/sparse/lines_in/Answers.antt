use Rattle.std.proofs.Common.{◌≡◌, ◌-◌, ◌+◌, [], refl, ap, length, get_or, arith}
use Rattle.risk_journal.specs.SparseTrees.{expand_from}
use Rattle.risk_journal.proofs.SparseSteps.{last_lines, last_number, some_tree}
use Rattle.risk_journal.proofs.sparse.lines_in.Goals as goal

pub returns-clause-lines : goal.returns-clause-lines
returns-clause-lines c =
    let trees = c.args.trees.now in
    let d = c.index-trees-trees.result in
    let n = length trees - 1 in
    let last = get_or trees n d in
    let there = some_tree trees (omega (arith, c.trees_count.ensures, c.if-trees_count-tree.false)) in
    let count : length trees ≡ n + 1 = omega (arith, there) in
    let number : c.args.tree ≡ last.tree =
    omega (
      arith,
      last_number trees n last d c.requires.rising count refl,
      c.trees_count.ensures,
      c.if-trees_count-tree.false,
    ) in
    let ok = last.lines.ok in
    omega (
      arith,
      c.len.ensures,
      ok,
      ap (λ t. length (get_or (expand_from 0 trees) t [])) number,
      ap length (last_lines trees n last d c.requires.rising count refl),
    )
