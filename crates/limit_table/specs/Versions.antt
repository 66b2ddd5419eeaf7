-- The version of a limit file, which its first row tells.
use Rattle.std.specs.Prelude.{ℕ, List, [], ◌∷◌, length, codes, Bool, ◌==◌, ◌&&◌, if◌then◌else◌}
use Rattle.limit_table.specs.Columns.{column, is_empty}
use Rattle.limit_table.specs.Kinds.{same_text}
use Rattle.limit_table.specs.declared.version.Version.{Version}
use Rattle.limit_table.specs.declared.version.Version.TheVariants as version

-- how many columns a row has in a file of this version
abbrev pub column_count : Version → ℕ
column_count version.One = 6
column_count version.Two = 7

-- the row says that the file is of version 2: `version`, `2` and five empty columns
abbrev pub is_version_row : List (List ℕ) → Bool
is_version_row fields =
    (length fields == 7)
    && same_text (column fields 0) (codes "version")
    && same_text (column fields 1) (codes "2")
    && is_empty (column fields 2)
    && is_empty (column fields 3)
    && is_empty (column fields 4)
    && is_empty (column fields 5)
    && is_empty (column fields 6)

-- the version of a file with these rows
abbrev pub version_of : List (List (List ℕ)) → Version
version_of [] = version.One
version_of (row ∷ rows) = if is_version_row row then version.Two else version.One

-- the rows of a file but the one that tells its version
abbrev pub body_of : List (List (List ℕ)) → List (List (List ℕ))
body_of [] = []
body_of (row ∷ rows) = if is_version_row row then rows else row ∷ rows
