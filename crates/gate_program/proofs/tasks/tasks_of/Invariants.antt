use Rattle.std.proofs.Common.{◌≡◌, ◌+◌, ◌≤◌, ◌++◌, length, map, vec_len, vec_capacity}
use Rattle.gate_program.proofs.tasks.tasks_of.Given as goal

-- what was taken and what is left are all, and there is as much left as there are sessions
abbrev pub invariant-loop-own : goal.invariant-loop-own
invariant-loop-own g l = record {
  sums : map (λ t. t.sum) l.tasks.items ++ l.sums.items ≡ l.initial.sums.items;
  halts : map (λ t. t.halt) l.tasks.items ++ l.halts.items ≡ l.initial.halts.items;
  screens : map (λ t. t.screens) l.tasks.items ++ l.screens.items ≡ l.initial.screens.items;
  opened : map (λ t. t.opened) l.tasks.items ≡ l.yielded;
  sums_left : length l.sums.items ≡ length l.own-iterator.rest.items;
  halts_left : length l.halts.items ≡ length l.own-iterator.rest.items;
  screens_left : length l.own-iterator.rest.items ≤ length l.screens.items;
  room : vec_len l.tasks + length l.own-iterator.rest.items ≤ vec_capacity l.tasks;
}
