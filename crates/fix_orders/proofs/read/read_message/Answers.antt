-- The fault, or the message.
use Rattle.std.proofs.Common.{sym, ◌∙◌}
use Rattle.fix_orders.proofs.Messages.{read_fault, read_whole}
use Rattle.fix_orders.proofs.read.read_message.Goals as goal

pub message_of-requires : goal.message_of-requires
message_of-requires c =
    let listed = c.requires.sound.0 in
    let slots = c.slots_of-slots.ensures listed c.requires.sound.1 in
    record {
      fields = listed;
      has = slots;
      none = sym (c.first_fault.ensures listed slots) ∙ c.in-None.is;
    }

pub returns-in-Some : goal.returns-in-Some
returns-in-Some c = λ listed has.
    read_fault c.kind_of-kind.result c.type_text.result.now listed c.in-Some.fault
    c.kind_of-kind.ensures (c.type_text.ensures listed has)
    (sym c.in-Some.is ∙ c.first_fault.ensures listed (c.slots_of-slots.ensures listed has))

pub returns-in-None : goal.returns-in-None
returns-in-None c = λ listed has.
    let slots = c.slots_of-slots.ensures listed has in
    read_whole c.kind_of-kind.result c.type_text.result.now listed c.message_of.result
    c.kind_of-kind.ensures (c.type_text.ensures listed has)
    (sym c.in-None.is ∙ c.first_fault.ensures listed slots) (c.message_of.ensures listed slots)
