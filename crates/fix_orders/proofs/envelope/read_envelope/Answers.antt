-- Each of the three is read from its slot.
use Rattle.std.proofs.Common.{◌≡◌, refl}
use Rattle.fix_orders.specs.Envelopes.{sequence_in, id_in}
use Rattle.fix_orders.specs.Faults.{values_of}
use Rattle.fix_orders.proofs.envelope.read_envelope.Goals as goal

pub returns : goal.returns
returns c = λ listed has.
    let slots = c.slots_of-slots.ensures listed has in
    let seq : c.sequence_in.result ≡ sequence_in (values_of 34 listed) =
    c.sequence_in.ensures (values_of 34 listed) (c.at.ensures listed slots) in
    let sender : c.id_in.result ≡ id_in (values_of 49 listed) =
    c.id_in.ensures (values_of 49 listed) (c.at-2.ensures listed slots) in
    let time : c.id_in-2.result ≡ id_in (values_of 52 listed) =
    c.id_in-2.ensures (values_of 52 listed) (c.at-3.ensures listed slots) in
    rw (seq, sender, time) refl
