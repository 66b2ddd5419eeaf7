-- The rows that are written for limits, and their text.
use Rattle.std.specs.Prelude.{◌≡◌, ℕ, ◌+◌, ◌/◌, ◌%◌, List, [], ◌∷◌, ◌++◌, map, codes, decimal}
use Rattle.std.specs.Prelude.{Option, Some, None, false, Vec, Bool, take, if◌then◌else◌}
use Rattle.std.specs.List.{flat_map, list_any}
use Rattle.csv.specs.Writing.{row_text, default_writer, text_written, writer_setup, fields_written}
use Rattle.csv.specs.Writing.{has_written}
use Rattle.csv.specs.declared.writer.Writer.{Writer}
use Rattle.limit_table.specs.declared.kind.Entry.{Entry}
use Rattle.limit_table.specs.declared.kind.Entry.TheVariants as entry
use Rattle.limit_table.specs.Versions.{column_count}
use Rattle.limit_table.specs.declared.version.Version.{Version}
use Rattle.limit_table.specs.declared.version.Version.TheVariants as version
use Rattle.limit_table.specs.declared.limits.Limits.{Limits}

-- the seven columns of a row of one number
abbrev pub count_row : List ℕ → ℕ → List (List ℕ)
count_row kind count = kind ∷ [] ∷ decimal count ∷ [] ∷ [] ∷ [] ∷ [] ∷ []

-- the seven columns of a row of a name, one number and a mode
abbrev pub named_row : List ℕ → List ℕ → ℕ → List ℕ → List (List ℕ)
named_row kind name count mode = kind ∷ name ∷ decimal count ∷ [] ∷ [] ∷ [] ∷ mode ∷ []

-- the mode of an account, which is empty where it is gross
abbrev pub mode_text : Bool → List ℕ
mode_text net = if net then codes "net" else []

-- ten-thousandths in a currency unit
abbrev pub price_unit : ℕ
price_unit = 10000

-- the four digits of a number of at most four digits
abbrev pub four_digits : ℕ → List ℕ
four_digits n =
    (48 + n / 1000) ∷ (48 + n / 100 % 10) ∷ (48 + n / 10 % 10) ∷ (48 + n % 10) ∷ []

-- ten-thousandths of a currency unit: the whole part, a point and four digits
abbrev pub price_text : ℕ → List ℕ
price_text price = decimal (price / price_unit) ++ 46 ∷ four_digits (price % price_unit)

-- the seven columns of a row that sets this
abbrev pub seven_of : Entry → List (List ℕ)
seven_of (entry.Firm limit) = count_row (codes "firm") limit
seven_of (entry.Account row) = named_row (codes "account") row.name row.limit (mode_text row.net)
seven_of (entry.Symbol row) =
    codes "symbol" ∷ row.name ∷ decimal row.limit ∷ price_text row.low ∷ price_text row.high
    ∷ decimal row.size ∷ [] ∷ []
seven_of (entry.Trip count) = count_row (codes "trip") count
seven_of (entry.Quota count) = count_row (codes "quota") count
seven_of (entry.Repeat count) = count_row (codes "repeat") count
seven_of (entry.Off row) = named_row (codes "off") row.name row.from []

-- the columns of a row that sets this in a file of this version
abbrev pub row_of : Version → Entry → List (List ℕ)
row_of version set = take (column_count version) (seven_of set)

-- the row that tells version 2
abbrev pub version_row : List (List ℕ)
version_row = codes "version" ∷ codes "2" ∷ [] ∷ [] ∷ [] ∷ [] ∷ [] ∷ []

-- the rows that tell the version: version 1 has none
abbrev pub version_rows : Version → List (List (List ℕ))
version_rows version.One = []
version_rows version.Two = version_row ∷ []

-- the version in which limits are written: 2 exactly where an account is net
abbrev pub written_version : Limits → Version
written_version limits =
    if list_any (λ row. row.net) limits.accounts then version.Two else version.One

-- the row that trips the halt, if there is one
abbrev pub trip_rows : Option ℕ → List Entry
trip_rows None = []
trip_rows (Some count) = entry.Trip count ∷ []

-- what the rows of a file with these limits set, in the order in which they are written
abbrev pub entries_in : Limits → List Entry
entries_in limits =
    entry.Firm limits.firm
    ∷ (map (λ row. entry.Account row) limits.accounts
    ++ (map (λ row. entry.Symbol row) limits.symbols
    ++ (trip_rows limits.trip
    ++ (entry.Quota limits.quota ∷ entry.Repeat limits.repeat
    ∷ map (λ row. entry.Off row) limits.off))))

-- the text of a row, as `csv` writes its columns: quoted where need be, and ended by a line feed
abbrev pub text_of : Version → Entry → List ℕ
text_of version set = row_text default_writer (row_of version set)

-- the text of the rows that tell the version
abbrev pub version_text : Version → List ℕ
version_text version.One = []
version_text version.Two = row_text default_writer version_row

-- the text of the rows, one after the other
abbrev pub file_text : Limits → List ℕ
file_text limits =
    let version = written_version limits in
    version_text version ++ flat_map (text_of version) (entries_in limits)

-- the writer has written this text, and stands at the start of a row
pub record HasText {Z : Type 0} (writer : Writer (Vec ℕ Z)) (text : List ℕ) : Type 0 where
  pub written : text_written (λ v. Some v.items) writer ≡ Some text
  pub setup : writer_setup writer ≡ default_writer
  pub fields : fields_written writer ≡ 0
  pub clean : has_written writer ≡ false

-- the writer has written this more
abbrev pub AppendsText : {Z : Type 0} → Writer (Vec ℕ Z) → Writer (Vec ℕ Z) → List ℕ → Type 0
AppendsText old new more = (text : List ℕ) → HasText old text → HasText new (text ++ more)
