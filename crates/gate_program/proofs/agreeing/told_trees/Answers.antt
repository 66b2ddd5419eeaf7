use Rattle.std.proofs.Common.{◌<◌, length, map, arith, ap, ◌∙◌}
use Rattle.std.proofs.Common.{length-append, length-drop, Vec, Global, List}
use Rattle.std.proofs.lemmas.List.{length-map}
use Rattle.risk_journal.specs.declared.acts.Act.{Act}
use Rattle.tree_check.proofs.Below.{length-below}
use Rattle.tree_check.specs.Reads.{reads_by}
use Rattle.gate_files.proofs.Lists.{first_left, map_at}
use Rattle.gate_program.proofs.TreesTold.{below_at, one_told}
use Rattle.gate_program.proofs.agreeing.told_trees.Goals as goal

pub remove-requires : goal.remove-requires
remove-requires c = omega (
  arith,
  ap length c.loop-tree.invariant.lines,
  length-drop c.loop-tree.tree c.args.journal.lines.items,
  c.loop-tree-test.true,
  c.len-count.ensures,
)

pub remove-requires-in-loop-tree : goal.remove-requires-in-loop-tree
remove-requires-in-loop-tree c = omega (
  arith,
  ap length c.loop-tree.invariant.reads,
  length-drop c.loop-tree.tree c.in_ok-reads.reads.items,
  c.loop-tree-test.true,
  ap length c.in_ok-reads.ensures,
  length-map c.in_ok-reads.reads.items (λ own. own.items),
  length-below (λ tree. reads_by tree (map (λ own. own.items) c.deref.result.now)) c.len-count.result,
)

pub loop-tree-preserved : goal.loop-tree-preserved
loop-tree-preserved c =
    let tree = c.loop-tree.tree in
    let below : tree < length c.args.journal.lines.items =
    omega (arith, c.loop-tree-test.true, c.len-count.ensures) in
    let within : tree < length c.in_ok-reads.reads.items = omega (
      arith,
      c.loop-tree-test.true,
      ap length c.in_ok-reads.ensures,
      length-map c.in_ok-reads.reads.items (λ own. own.items),
      length-below (λ tree. reads_by tree (map (λ own. own.items) c.deref.result.now))
          c.len-count.result,
    ) in
    let lines = first_left c.args.journal.lines.items c.loop-tree.lines.items
    c.remove.new.self.items tree c.remove.result c.loop-tree.invariant.lines below
    c.remove.ensures.value c.remove.ensures.by_index.2 in
    let reads = first_left c.in_ok-reads.reads.items c.loop-tree.reads.items
    c.remove-in-loop-tree.new.self.items tree c.remove-in-loop-tree.result
    c.loop-tree.invariant.reads within c.remove-in-loop-tree.ensures.value
    c.remove-in-loop-tree.ensures.by_index.2 in
    record {
      lines = lines.1;
      reads = reads.1;
      many = ap length c.in-Ok.ensures.items ∙ length-append c.loop-tree.trees.items _
          ∙ omega (arith, c.loop-tree.invariant.many);
      told = one_told c.args.limits.now _ _ c.loop-tree.trees.items _ tree _
          c.loop-tree.invariant.many c.loop-tree.invariant.told
          (record {
            lines_are = map_at (λ own. own.items) c.args.journal.lines.items tree c.remove.result
                lines.0;
            reads_are = below_at
                (λ tree. reads_by tree (map (λ own. own.items) c.deref.result.now))
                c.len-count.result
                (map (λ own. own.items) c.in_ok-reads.reads.items) tree _ c.in_ok-reads.ensures
                c.loop-tree-test.true
                (map_at (λ own. own.items) c.in_ok-reads.reads.items tree
                c.remove-in-loop-tree.result reads.0)
                ∙ ap (λ (acts : List (Vec Act Global)). reads_by tree (map (λ own. own.items) acts))
                c.deref.ensures.value;
            limit_is = c.limit_in.ensures;
          })
          c.in-Ok.ensures.items;
    }
