-- Where the fields of a frame stand in the bytes.
use Rattle.std.specs.Prelude.{◌≡◌, ℕ, ◌-◌, ◌≤◌, List, length, take, drop, map, Some}
use Rattle.std.specs.List.{AllByRecursion}
use Rattle.fix_fields.specs.Fields.{FieldValue, field}
use Rattle.fix_fields.specs.Found.{StandsAt}
use Rattle.fix_fields.specs.declared.frame.Frame.{Frame}
use Rattle.fix_fields.specs.declared.walk.Field.{Field}

-- what a field's place says in the bytes
abbrev pub field_at : List ℕ → Field → FieldValue
field_at bytes f = field f.tag (take (f.to - f.from) (drop f.from bytes))

-- the frame stands somewhere in the bytes, is sound, and has these fields
abbrev pub HasFieldsIn : List ℕ → Frame → List FieldValue → Type 0
HasFieldsIn bytes f fields = (from : ℕ) × StandsAt bytes from f (Some fields)

-- the frame stands somewhere in the bytes, and is sound
abbrev pub IsSoundIn : List ℕ → Frame → Type 0
IsSoundIn bytes f = (fields : List FieldValue) × HasFieldsIn bytes f fields

-- a place within the bytes
pub record IsPlace (bytes : List ℕ) (f : Field) : Type 0 where
  pub ordered : f.from ≤ f.to
  pub within : f.to ≤ length bytes

-- these places are within the bytes, and say these fields in their order
pub record ArePlacesOf (bytes : List ℕ) (places : List Field)
    (fields : List FieldValue) : Type 0 where
  pub each : AllByRecursion (IsPlace bytes) places
  pub said : map (field_at bytes) places ≡ fields
