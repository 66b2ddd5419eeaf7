-- Frames of FIX 4.4: BeginString (8), BodyLength (9), a body and CheckSum (10).
use Rattle.std.specs.Prelude.{◌≡◌, ◌≢◌, ℕ, ◌+◌, ◌≤◌, ◌<◌, ◌==◌, ◌||◌, List, [], ◌∷◌, ◌++◌, length, drop}
use Rattle.std.specs.Prelude.{codes, Option, Some, None, IsTrue, Bool}
use Rattle.std.specs.List.{prefix_len, list_all, last_or}
use Rattle.std.specs.Char.{is_ascii_digit}
use Rattle.std.specs.Str.Parse.{digits_value}
use Rattle.fix_fields.specs.Fields.{soh, field, FieldValue, AreFields, checksum_of}

-- the most bytes of a body that is read
abbrev pub body_most : ℕ
body_most = 8192

-- BeginString, and the tag of BodyLength
abbrev pub begin_text : List ℕ
begin_text = codes "8=FIX.4.4" ++ soh ∷ codes "9="

-- the head of a frame whose BodyLength has these digits
abbrev pub head_text : List ℕ → List ℕ
head_text digits = begin_text ++ digits ++ soh ∷ []

-- the end of a frame whose CheckSum has these digits
abbrev pub trailer_text : List ℕ → List ℕ
trailer_text digits = codes "10=" ++ digits ++ soh ∷ []

-- so many decimal digits
pub record AreDigits (least most : ℕ) (digits : List ℕ) : Type 0 where
  pub each : IsTrue (list_all is_ascii_digit digits)
  pub no_fewer : least ≤ length digits
  pub no_more : length digits ≤ most

-- the rest begins with a frame of these parts, and goes on with `more`
pub record IsFrameText (rest length_digits body sum_digits more : List ℕ) : Type 0 where
  pub spelled : rest ≡ head_text length_digits ++ body ++ trailer_text sum_digits ++ more
  pub length_spelled : AreDigits 1 7 length_digits
  pub sum_spelled : AreDigits 3 3 sum_digits
  pub counted : digits_value 10 length_digits ≡ length body
  pub some : 0 < length body
  pub few : length body ≤ body_most
  pub ended : last_or None body ≡ Some soh

-- CR and LF
abbrev pub is_line_end : ℕ → Bool
is_line_end byte = byte == 13 || byte == 10

-- the first place from there on that isn't CR or LF
abbrev pub message_place : List ℕ → ℕ → ℕ
message_place bytes from = from + prefix_len is_line_end (drop from bytes)

-- the digits are the checksum of what stands before field 10, the body is these fields, and the first
-- of them is MsgType (35) with a value
pub record IsSound (before sum_digits body : List ℕ) (fields : List FieldValue) : Type 0 where
  pub sum : digits_value 10 sum_digits ≡ checksum_of before
  pub listed : AreFields body fields
  pub kind : (value : List ℕ) × (others : List FieldValue) × (value ≢ [])
      × (fields ≡ field 35 value ∷ others)

-- the fields of a sound frame, and none of another
abbrev pub HasFields : List ℕ → List ℕ → List ℕ → Option (List FieldValue) → Type 0
HasFields before sum_digits body None =
    (fields : List FieldValue) → IsSound before sum_digits body fields → ⊥
HasFields before sum_digits body (Some fields) = IsSound before sum_digits body fields

-- where a frame begins, the place after it and, where it is sound, its fields
pub record FrameValue : Type 0 where
  pub place : ℕ
  pub end : ℕ
  pub fields : Option (List FieldValue)

-- A frame of these parts stands at its place: the body from one place up to another.
pub record HasParts (bytes : List ℕ) (frame : FrameValue) (body_from body_to : ℕ)
    (length_digits body sum_digits more : List ℕ) : Type 0 where
  pub text : IsFrameText (drop frame.place bytes) length_digits body sum_digits more
  pub from : body_from ≡ frame.place + 13 + length length_digits
  pub to : body_to ≡ body_from + length body
  pub end : frame.end ≡ body_to + 7
  pub fields : HasFields (head_text length_digits ++ body) sum_digits body frame.fields

-- from a place on, CR and LF passed over, the bytes go on with this frame
pub record IsFrameAt (bytes : List ℕ) (from : ℕ) (frame : FrameValue) (body_from body_to : ℕ)
    : Type 0 where
  pub place : frame.place ≡ message_place bytes from
  pub parts : (length_digits : List ℕ) × (body : List ℕ) × (sum_digits : List ℕ) × (more : List ℕ)
      × HasParts bytes frame body_from body_to length_digits body sum_digits more
