-- The values of a load's fields as they are kept before they are spelled.
use Rattle.std.specs.Prelude.{ℕ, ◌^◌, ◌≤◌, ◌<◌, List, [], ◌∷◌, ◌++◌, codes, decimal, map}
use Rattle.fix_fields.specs.Fields.{FieldValue, field}
use Rattle.make_load.specs.declared.part.Part.{Part}
use Rattle.make_load.specs.declared.part.Value.{Value}
use Rattle.make_load.specs.declared.part.Value.TheVariants as value
use Rattle.make_load.specs.Patterns.{client, order_id, cancel_id, time, price_text}

-- how a value is spelled
abbrev pub text_of : Value → List ℕ
text_of value.Gate = codes "GATE"
text_of value.Venue = codes "VENUE"
text_of value.Time = time
text_of value.Trade = codes "F"
text_of (value.Number n) = decimal n
text_of (value.Price price) = price_text price
text_of (value.Account n) = codes "A" ++ decimal n
text_of (value.Symbol n) = codes "S" ++ decimal n
text_of (value.OrderNumber n) = codes "O" ++ decimal n
text_of (value.Execution n) = codes "E" ++ decimal n
text_of (value.Client session) = client session
text_of (value.OrderId session order) = order_id session order
text_of (value.CancelId session order) = cancel_id session order

-- a session in the value can be spelled, and so can each number in it
abbrev pub IsSpelled : Value → Type 0
IsSpelled value.Gate = Unit {0}
IsSpelled value.Venue = Unit {0}
IsSpelled value.Time = Unit {0}
IsSpelled value.Trade = Unit {0}
IsSpelled (value.Number n) = n < 2 ^ 32
IsSpelled (value.Price price) = price < 2 ^ 32
IsSpelled (value.Account n) = n < 2 ^ 32
IsSpelled (value.Symbol n) = n < 2 ^ 32
IsSpelled (value.OrderNumber n) = n < 2 ^ 32
IsSpelled (value.Execution n) = n < 2 ^ 32
IsSpelled (value.Client session) = session < 100
IsSpelled (value.OrderId session order) = (session < 100) × (order < 2 ^ 32)
IsSpelled (value.CancelId session order) = (session < 100) × (order < 2 ^ 32)

-- a tag of at most three digits with such a value
pub record IsPart (part : Part) : Type 0 where
  pub least : 1 ≤ part.0
  pub most : part.0 ≤ 999
  pub spelled : IsSpelled part.1

-- the field that is written
abbrev pub part_value : Part → FieldValue
part_value part = field part.0 (text_of part.1)

-- the fields of a message: its type, and those behind it
abbrev pub message_of : ℕ → List Part → List FieldValue
message_of kind parts = field 35 (kind ∷ []) ∷ map part_value parts
