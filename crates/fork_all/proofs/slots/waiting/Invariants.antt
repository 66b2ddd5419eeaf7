use Rattle.std.proofs.Common.{◌≡◌, ◌+◌, ◌≤◌, map, vec_len, vec_capacity, length}
use Rattle.fork_all.specs.declared.slots.Slot.TheVariants.{Waiting}
use Rattle.fork_all.proofs.slots.waiting.Given as goal

-- the items so far wait, and there is room for the rest
abbrev pub invariant-loop-item : goal.invariant-loop-item
invariant-loop-item g l = record {
  wait : l.slots.items ≡ map Waiting l.yielded;
  room : vec_len l.slots + length l.item-iterator.rest.items ≤ vec_capacity l.slots;
}
