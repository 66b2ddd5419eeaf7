-- with the sessions that are left all are told
use Rattle.std.proofs.Common.{◌≡◌, ◌+◌, map, take, drop}
use Rattle.journal_check.specs.Buckets.{tree_value, with_sessions}
use Rattle.journal_check.specs.RowNumbers.{count_all}
use Rattle.journal_check.proofs.tree_acts.add_sessions.Given as goal

abbrev pub invariant-loop-own : goal.invariant-loop-own
invariant-loop-own l = record {
  session : l.session ≡ l.own-index;
  row : l.row ≡ 2 + count_all (take l.own-index (map (λ own. own.items) l.acts));
  told : with_sessions l.session l.row (map tree_value l.trees)
      (drop l.own-index (map (λ own. own.items) l.acts))
      ≡ with_sessions 0 2 (map tree_value l.initial.trees) (map (λ own. own.items) l.acts);
}
