use Rattle.std.proofs.Common.{◌≡◌, ◌+◌, ◌≤◌, map, vec_len, vec_capacity, length}
use Rattle.std.specs.List.{AllByRecursion}
use Rattle.fork_all.specs.Slots.{IsDone}
use Rattle.fork_all.specs.declared.slots.Slot.TheVariants.{Done}
use Rattle.fork_all.proofs.slots.gathered.Given as goal

-- what was given so far was taken, the rest was given, and there is room for it
abbrev pub invariant-loop-slot : goal.invariant-loop-slot
invariant-loop-slot g l = record {
  taken : map Done l.all.items ≡ l.yielded;
  rest : AllByRecursion IsDone l.slot-iterator.rest.items;
  room : vec_len l.all + length l.slot-iterator.rest.items ≤ vec_capacity l.all;
}
