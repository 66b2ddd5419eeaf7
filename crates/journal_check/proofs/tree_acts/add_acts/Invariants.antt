-- with the acts that are left all are told
use Rattle.std.proofs.Common.{◌≡◌, ◌+◌, map, drop}
use Rattle.journal_check.specs.Buckets.{tree_value, with_acts}
use Rattle.journal_check.proofs.tree_acts.add_acts.Given as goal

abbrev pub invariant-loop-act : goal.invariant-loop-act
invariant-loop-act l = record {
  row : l.row ≡ l.first + l.act-index;
  told : with_acts l.session l.row (map tree_value l.trees) (drop l.act-index l.acts)
      ≡ with_acts l.session l.first (map tree_value l.initial.trees) l.acts;
}
