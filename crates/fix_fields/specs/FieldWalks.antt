-- The places of the fields between two places, one after another.
use Rattle.std.specs.Prelude.{ℕ, zero, suc, ◌+◌, ◌-◌, ◌≤◌, List, [], ◌∷◌, length, take, drop}
use Rattle.std.specs.Prelude.{cond, nat_le}
use Rattle.std.specs.List.{prefix_len}
use Rattle.std.specs.Char.{is_ascii_digit}
use Rattle.std.specs.Str.Parse.{digits_value}
use Rattle.fix_fields.specs.Fields.{is_value_byte}
use Rattle.fix_fields.specs.FieldPlaces.{IsFieldList}
use Rattle.fix_fields.specs.declared.walk.Field.{Field}

-- how many digits stand at a place
abbrev pub digits_at : List ℕ → ℕ → ℕ
digits_at bytes at = prefix_len is_ascii_digit (drop at bytes)

-- how many bytes from a place on can stand in a value
abbrev pub value_length_at : List ℕ → ℕ → ℕ
value_length_at bytes from = prefix_len is_value_byte (drop from bytes)

-- the field that begins at a place: the digits of its tag, the equals sign, and its value up to SOH
abbrev pub field_from : List ℕ → ℕ → Field
field_from bytes at =
    let from = at + digits_at bytes at + 1 in
    record {
      tag = digits_value 10 (take (digits_at bytes at) (drop at bytes));
      from = from;
      to = from + value_length_at bytes from;
    }

-- the places of at most n fields from a place up to another
unfoldable pub places_from : ℕ → List ℕ → ℕ → ℕ → List Field
places_from zero bytes at end = []
places_from (suc n) bytes at end =
    let f = field_from bytes at in
    cond (nat_le end at) [] (f ∷ places_from n bytes (f.to + 1) end)

-- the places of the fields from a place up to another
abbrev pub places_between : List ℕ → ℕ → ℕ → List Field
places_between bytes at end = places_from (end - at) bytes at end

-- fields stand from a place up to another, one after another
pub record WalksFields (bytes : List ℕ) (at end : ℕ) : Type 0 where
  pub ordered : at ≤ end
  pub inside : end ≤ length bytes
  pub are_fields : IsFieldList (take (end - at) (drop at bytes))
