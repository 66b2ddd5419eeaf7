use Rattle.std.proofs.Common.{arith, refl, sym, subst, length-take}
use Rattle.std.proofs.lemmas.Option.{slice_get_read}
use Rattle.gate_program.specs.Totals.{HasTotal}
use Rattle.gate_files.proofs.Lists.{map_at}
use Rattle.gate_program.proofs.TotalLists.{one_tree}
use Rattle.gate_program.proofs.totals.tree_totals.Goals as goal

pub tree_total-requires-clause-lines : goal.tree_total-requires-clause-lines
tree_total-requires-clause-lines c =
    let place = c.loop-tree.tree in
    subst (HasTotal c.args.sessions)
    (sym c.as_slice.ensures.value)
    (c.requires.lines place c.index-lines-tree.result.items
    (map_at (λ v. v.items) c.args.lines.now place c.index-lines-tree.result
    (slice_get_read c.args.lines.now _ place _ refl (omega arith) c.index-lines-tree.is)))

pub loop-tree-preserved : goal.loop-tree-preserved
loop-tree-preserved c =
    let place = c.loop-tree.tree in
    one_tree c.args.limits.now c.args.sessions place c.args.lines.now c.index-lines-tree.result _ _
    _ _
    (slice_get_read c.args.lines.now _ place _ refl (omega arith) c.index-lines-tree.is)
    c.loop-tree.invariant c.in-Ok.ensures.items c.in_ok-total.ensures c.as_slice.ensures.value
    (omega (arith, length-take place c.args.lines.now))
