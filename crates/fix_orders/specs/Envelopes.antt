-- What of a message's head is read, whatever else is wrong with the message.
use Rattle.std.specs.Prelude.{ℕ, List, [], ◌∷◌, Option, Some, None}
use Rattle.std.specs.Option.{option_and_then}
use Rattle.std.specs.Result.{result_ok}
use Rattle.fix_fields.specs.Fields.{FieldValue}
use Rattle.fix_fields.specs.Numbers.{sequence_of, id_of}
use Rattle.fix_orders.specs.declared.envelope.Envelope.{Envelope}
use Rattle.fix_orders.specs.Faults.{values_of}

-- the value of a tag that stands once
abbrev pub only_value : List (List ℕ) → Option (List ℕ)
only_value [] = None
only_value (value ∷ []) = Some value
only_value (value ∷ other ∷ more) = None

-- the one value as a sequence number, where it is one
abbrev pub sequence_in : List (List ℕ) → Option ℕ
sequence_in values = option_and_then (λ text. result_ok (sequence_of text)) (only_value values)

-- the one value as an id, where it is one
abbrev pub id_in : List (List ℕ) → Option (List ℕ)
id_in values = option_and_then (λ text. result_ok (id_of text)) (only_value values)

-- what is read of these fields
abbrev pub envelope_of : List FieldValue → Envelope
envelope_of fields = record {
  seq = sequence_in (values_of 34 fields);
  sender = id_in (values_of 49 fields);
  time = id_in (values_of 52 fields);
}
