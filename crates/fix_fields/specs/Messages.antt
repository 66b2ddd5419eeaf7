-- Messages as they are written: a head, the fields and the checksum.
use Rattle.std.specs.Prelude.{ℕ, ◌+◌, ◌/◌, ◌%◌, List, [], ◌∷◌, ◌++◌, length, decimal}
use Rattle.fix_fields.specs.Fields.{FieldValue, fields_text, checksum_of}
use Rattle.fix_fields.specs.Frames.{head_text, trailer_text}

-- a number of at most three digits, in three digits
abbrev pub three_digits : ℕ → List ℕ
three_digits n = (48 + n / 100) ∷ (48 + n / 10 % 10) ∷ (48 + n % 10) ∷ []

-- the frame of a body, with BodyLength (9) without leading zeros and CheckSum (10) in three digits
abbrev pub frame_text : List ℕ → List ℕ
frame_text body =
    let front = head_text (decimal (length body)) ++ body in
    front ++ trailer_text (three_digits (checksum_of front))

-- the message of these fields
abbrev pub message_text : List FieldValue → List ℕ
message_text fields = frame_text (fields_text fields)
