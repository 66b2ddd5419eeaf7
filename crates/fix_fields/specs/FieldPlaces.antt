-- The field in front of a text, and where it stands there.
use Rattle.std.specs.Prelude.{◌≡◌, ◌≢◌, ℕ, ◌+◌, ◌<◌, ◌≤◌, List, ◌∷◌, ◌++◌, length, drop, decimal}
use Rattle.std.specs.Prelude.{slice_index}
use Rattle.fix_fields.specs.Fields.{FieldValue, field_text, IsField, AreFields, tag_most}
use Rattle.fix_fields.specs.Places.{field_at}
use Rattle.fix_fields.specs.declared.walk.Field.{Field}

-- so many digits are those of a tag: the first isn't 0, and an equals sign stands behind them
pub record IsTagCut (text : List ℕ) (count : ℕ) : Type 0 where
  pub some : 1 ≤ count
  pub inside : count < length text
  pub ended : slice_index text count ≡ 61
  pub first : slice_index text 0 ≢ 48

-- the text begins with this tag and the equals sign, and its value begins at `from`
pub record BeginsTag (text : List ℕ) (tag from : ℕ) : Type 0 where
  pub least : 1 ≤ tag
  pub most : tag ≤ tag_most
  pub place : from ≡ length (decimal tag) + 1
  pub inside : from ≤ length text
  pub spelled : text ≡ decimal tag ++ 61 ∷ drop from text

-- the text begins with a field that stands there
pub record BeginsField (text : List ℕ) (f : Field) : Type 0 where
  pub is_field : IsField (field_at text f)
  pub place : f.from ≡ length (decimal f.tag) + 1
  pub ordered : f.from ≤ f.to
  pub inside : f.to < length text
  pub spelled : text ≡ field_text (field_at text f) ++ drop (f.to + 1) text

-- the text is fields, one after another
abbrev pub IsFieldList : List ℕ → Type 0
IsFieldList text = (fields : List FieldValue) × AreFields text fields

-- the text begins with MsgType (35) with a value
pub record BeginsKind (text : List ℕ) (f : Field) : Type 0 where
  pub begins : BeginsField text f
  pub kind : f.tag ≡ 35
  pub some : f.from < f.to
