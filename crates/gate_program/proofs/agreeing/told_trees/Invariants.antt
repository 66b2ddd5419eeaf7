-- the trees so far, and the lines and the reads of the others
use Rattle.std.proofs.Common.{◌≡◌, length, map, drop}
use Rattle.gate_program.specs.Agreeing.{AreTold}
use Rattle.gate_program.proofs.agreeing.told_trees.Given as goal

abbrev pub invariant-loop-tree : goal.invariant-loop-tree
invariant-loop-tree l = record {
  lines : l.lines.items ≡ drop l.tree l.initial.lines.items;
  reads : l.reads.items ≡ drop l.tree l.initial.reads.items;
  many : length l.trees.items ≡ l.tree;
  told : AreTold l.limits (map (λ own. own.items) l.acts.items)
      (map (λ own. own.items) l.initial.lines.items) l.trees.items;
}
