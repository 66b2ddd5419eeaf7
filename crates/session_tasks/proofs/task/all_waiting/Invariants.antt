use Rattle.std.proofs.Common.{◌≡◌, ◌+◌, ◌≤◌, ◌++◌, length, map, vec_len, vec_capacity}
use Rattle.session_tasks.proofs.task.all_waiting.Given as goal

-- what was taken and what is left are all, and there is as much left as there are sessions
abbrev pub invariant-loop-one : goal.invariant-loop-one
invariant-loop-one g l = record {
  own : map (λ t. t.own) l.tasks.items ++ l.left.items ≡ l.initial.left.items;
  opened : map (λ t. t.opened) l.tasks.items ≡ l.yielded;
  left : length l.left.items ≡ length l.one-iterator.rest.items;
  room : vec_len l.tasks + length l.one-iterator.rest.items ≤ vec_capacity l.tasks;
}
