-- none of the sessions so far has the fault, and the row is that of the next act
use Rattle.std.proofs.Common.{◌≡◌, ◌+◌, map, take}
use Rattle.journal_check.specs.ActFaults.{Has}
use Rattle.journal_check.specs.RowNumbers.{count_all}
use Rattle.journal_check.proofs.FirstActs.{NoneBefore}
use Rattle.journal_check.proofs.act_rows.first_act_row.Given as goal

abbrev pub invariant-loop-own : goal.invariant-loop-own
invariant-loop-own l = record {
  row : l.row ≡ 2 + count_all (take l.own-index (map (λ own. own.items) l.acts));
  none : NoneBefore (Has l.fault) (map (λ own. own.items) l.acts) l.own-index;
}
