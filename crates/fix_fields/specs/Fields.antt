-- Fields of a message as FIX 4.4 spells them: tag=value, each ended by SOH.
use Rattle.std.specs.Prelude.{◌≡◌, ℕ, ◌≤◌, ◌%◌, ◌==◌, List, [], ◌∷◌, ◌++◌, IsTrue, Bool, not, sum, decimal}
use Rattle.std.specs.List.{flat_map, list_all, AllByRecursion}

-- the byte that ends a field
abbrev pub soh : ℕ
soh = 1

-- a tag with its value
pub record FieldValue : Type 0 where
  pub tag : ℕ
  pub value : List ℕ

-- the field of this tag and value
abbrev pub field : ℕ → List ℕ → FieldValue
field tag value = record { tag = tag; value = value }

-- the text of a field: the tag, 61 for the equals sign, the value and SOH
abbrev pub field_text : FieldValue → List ℕ
field_text f = decimal f.tag ++ 61 ∷ f.value ++ soh ∷ []

-- the text of fields, one after another
abbrev pub fields_text : List FieldValue → List ℕ
fields_text fields = flat_map field_text fields

-- a byte that can stand in a value
abbrev pub is_value_byte : ℕ → Bool
is_value_byte byte = not (byte == soh)

-- the largest tag: one of six digits
abbrev pub tag_most : ℕ
tag_most = 999999

-- a tag of one to six digits of which the first isn't 0, and a value without SOH
pub record IsField (f : FieldValue) : Type 0 where
  pub least : 1 ≤ f.tag
  pub most : f.tag ≤ tag_most
  pub without_soh : IsTrue (list_all is_value_byte f.value)

-- the text is these fields, one after another
pub record AreFields (text : List ℕ) (fields : List FieldValue) : Type 0 where
  pub each : AllByRecursion IsField fields
  pub spelled : text ≡ fields_text fields

-- CheckSum (10): the sum of the bytes modulo 256
abbrev pub checksum_of : List ℕ → ℕ
checksum_of bytes = sum bytes % 256
