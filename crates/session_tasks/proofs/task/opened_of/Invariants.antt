use Rattle.std.proofs.Common.{◌≡◌, ◌+◌, ◌≤◌, length, map, vec_len, vec_capacity}
use Rattle.session_tasks.proofs.task.opened_of.Given as goal

-- the objects of the tasks so far, and room for the rest
abbrev pub invariant-loop-task : goal.invariant-loop-task
invariant-loop-task g l = record {
  opened : l.all.items ≡ map (λ t. t.opened) l.yielded;
  room : vec_len l.all + length l.task-iterator.rest.items ≤ vec_capacity l.all;
}
