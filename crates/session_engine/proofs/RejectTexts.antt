-- The Reject of a message with a field fault.
use Rattle.std.proofs.Common.{◌≡◌, ℕ, List, refl, unwrap_or}
use Rattle.fix_fields.specs.Fields.{FieldValue}
use Rattle.fix_fields.specs.Messages.{message_text}
use Rattle.fix_orders.specs.declared.envelope.Envelope.{Envelope}
use Rattle.fix_orders.specs.declared.message.FieldFault.{FieldFault}
use Rattle.fix_orders.specs.Envelopes.{envelope_of}
use Rattle.fix_orders.specs.Faults.{value_of}
use Rattle.fix_orders.specs.Writing.{session_reject_fields}
use Rattle.session_engine.specs.Answers.{reject_text, no_time, stamp_of}

-- the Reject of a message by its parts
pub reject_is : (fields : List FieldValue) (receiver : List ℕ) (number : ℕ) (envelope : Envelope)
    (time : List ℕ) (seq : ℕ) (kind : List ℕ) (fault : FieldFault)
    → envelope ≡ envelope_of fields → time ≡ unwrap_or envelope.time no_time
    → seq ≡ unwrap_or envelope.seq 0 → kind ≡ value_of 35 fields
    → message_text (session_reject_fields (stamp_of receiver number time) seq kind fault)
    ≡ reject_text receiver number fields fault
reject_is fields receiver number envelope time seq kind fault envelope_is time_is seq_is kind_is =
    rw (time_is, seq_is, kind_is, envelope_is) refl
