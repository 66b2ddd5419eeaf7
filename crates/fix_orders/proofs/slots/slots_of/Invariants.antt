-- the slots are those of the fields so far
use Rattle.std.proofs.Common.{map}
use Rattle.fix_fields.specs.Places.{field_at}
use Rattle.fix_orders.specs.Slotted.{SlotsHave}
use Rattle.fix_orders.proofs.slots.slots_of.Given as goal

abbrev pub invariant-loop-field : goal.invariant-loop-field
invariant-loop-field l = SlotsHave l.slots (map (field_at l.bytes) l.yielded)
