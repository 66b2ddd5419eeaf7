-- empty lists so far
use Rattle.std.proofs.Common.{◌≡◌, [], map, replicate}
use Rattle.tree_check.proofs.read_at.empty_lists.Given as goal

abbrev pub invariant-loop : goal.invariant-loop
invariant-loop l = map (λ own. own.items) l.all.items ≡ replicate l.counter []
