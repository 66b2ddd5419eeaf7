-- The text that is written for limits reads as its rows, and is short enough for a limit file.
use Rattle.std.proofs.Common.{◌≡◌, ℕ, ◌+◌, ◌*◌, ◌/◌, ◌%◌, ◌≤◌, List, [], ◌∷◌, ◌++◌, length, map}
use Rattle.std.proofs.Common.{refl, sym}
use Rattle.std.proofs.Common.{ap, ◌∙◌, subst, arith, Bool, true, false, Some, None, inl, inr}
use Rattle.std.proofs.Common.{length-append, length-take, decimal, take, zero, suc}
use Rattle.std.specs.Prelude.{◌==◌, if◌then◌else◌, codes}
use Rattle.std.specs.List.{All, flat_map, list_any}
use Rattle.std.proofs.lemmas.Bool.{cases_Bool}
use Rattle.std.proofs.lemmas.List.Elements.{All-head, All-tail}
use Rattle.std.proofs.lemmas.Fmt.{length-decimal-le}
use Rattle.csv.specs.Machine.{next_record}
use Rattle.csv.specs.Reading.{Reached, default_config, strip_bom}
use Rattle.csv.specs.Writing.{escaped, field_text, fields_text, is_blank, row_text, needs_byte}
use Rattle.csv.specs.Writing.{read_back}
use Rattle.csv.specs.Writing.{default_writer}
use Rattle.csv.specs.declared.parser.State.TheVariants as state
use Rattle.csv.proofs.RoundTrip.{read-write}
use Rattle.limit_table.specs.Files.{AreRows}
use Rattle.limit_table.specs.Printing.{entries_in, row_of, text_of, file_text, price_text}
use Rattle.limit_table.specs.Printing.{four_digits}
use Rattle.limit_table.specs.Printing.{count_row, named_row, mode_text, version_row, version_rows}
use Rattle.limit_table.specs.Printing.{version_text, written_version}
use Rattle.limit_table.specs.Versions.{column_count}
use Rattle.limit_table.specs.declared.version.Version.{Version}
use Rattle.limit_table.specs.declared.version.Version.TheVariants as version
use Rattle.limit_table.specs.declared.kind.SymbolRow.{SymbolRow}
use Rattle.limit_table.specs.Ranges.{IsInRange, IsPrice}
use Rattle.limit_table.specs.declared.kind.Entry.{Entry}
use Rattle.limit_table.specs.declared.kind.Entry.TheVariants as entry
use Rattle.limit_table.specs.declared.limits.Limits.{Limits}
use Rattle.limit_table.specs.Entries.{amount_most}

-- a row that is written is read with the same columns
same_row : (v : Version) (e : Entry) → read_back (row_of v e) ≡ row_of v e
same_row version.One (entry.Firm x) = refl
same_row version.One (entry.Account x) = refl
same_row version.One (entry.Symbol x) = refl
same_row version.One (entry.Trip x) = refl
same_row version.One (entry.Quota x) = refl
same_row version.One (entry.Repeat x) = refl
same_row version.One (entry.Off x) = refl
same_row version.Two (entry.Firm x) = refl
same_row version.Two (entry.Account x) = refl
same_row version.Two (entry.Symbol x) = refl
same_row version.Two (entry.Trip x) = refl
same_row version.Two (entry.Quota x) = refl
same_row version.Two (entry.Repeat x) = refl
same_row version.Two (entry.Off x) = refl

-- the rows that are written are read one after the other, to the end of the text
rows_reached : (v : Version) (es : List Entry)
    → Reached default_config state.StartRecord (flat_map (text_of v) es) (map (row_of v) es)
    state.StartRecord []
unfolding Reached
rows_reached v [] = (refl, refl)
rows_reached v (e ∷ es) =
    let rest = flat_map (text_of v) es in
    let next : next_record default_config state.StartRecord [] [] (text_of v e ++ rest)
    ≡ Some (row_of v e, state.StartRecord, rest) =
    read-write (row_of v e) rest
    ∙ ap (λ (r : List (List ℕ)). Some (r, state.StartRecord, rest)) (same_row v e) in
    ((row_of v e, state.StartRecord, rest), next, refl, rows_reached v es)

-- the rows of a file, with the one that tells its version
abbrev pub rows_in : Version → List Entry → List (List (List ℕ))
rows_in v es = version_rows v ++ map (row_of v) es

all_reached : (v : Version) (es : List Entry)
    → Reached default_config state.StartRecord (version_text v ++ flat_map (text_of v) es)
    (rows_in v es) state.StartRecord []
unfolding Reached
all_reached version.One es = rows_reached version.One es
all_reached version.Two es =
    let rest = flat_map (text_of version.Two) es in
    let text = row_text default_writer version_row in
    let next : next_record default_config state.StartRecord [] [] (text ++ rest)
    ≡ Some (version_row, state.StartRecord, rest) = read-write version_row rest in
    ((version_row, state.StartRecord, rest), next, refl, rows_reached version.Two es)

no_more : next_record default_config state.StartRecord [] [] [] ≡ None
unfolding next_record
no_more = refl

-- the first column of the text is no byte order mark
unmarked_by : (v : Version) (firm : ℕ) (es : List Entry)
    → strip_bom (version_text v ++ flat_map (text_of v) (entry.Firm firm ∷ es))
    ≡ version_text v ++ flat_map (text_of v) (entry.Firm firm ∷ es)
unfolding strip_bom
unmarked_by version.One firm es = refl
unmarked_by version.Two firm es = refl

unmarked : (l : Limits) → strip_bom (file_text l) ≡ file_text l
unmarked l = unmarked_by (written_version l) l.firm _

pub rows_are_read : (l : Limits) → AreRows (file_text l) (rows_in (written_version l) (entries_in l))
rows_are_read l =
    let rows = rows_in (written_version l) (entries_in l) in (
      state.StartRecord,
      [],
      subst (λ (s : List ℕ).
          Reached default_config state.StartRecord s rows state.StartRecord []) (sym (unmarked l))
          (all_reached (written_version l) (entries_in l)),
      no_more,
    )

escaped_size : (field : List ℕ) → length (escaped default_writer field) ≤ 2 * length field
unfolding escaped
escaped_size [] = omega arith
escaped_size (b ∷ rest) = elim (cases_Bool (b == 34)) [
  | inl quote ↦ rw quote (omega (arith, escaped_size rest))
  | inr plain ↦ rw plain (omega (arith, escaped_size rest))
]

field_size : (field : List ℕ) → length (field_text default_writer field) ≤ 2 * length field + 2
field_size field = elim (cases_Bool (list_any (needs_byte default_writer) field)) [
  | inl quotes ↦
      rw quotes
      (omega (arith, escaped_size field, length-append (escaped default_writer field) (34 ∷ [])))
  | inr plain ↦ rw plain (omega arith)
]

-- columns of at most 64 bytes
abbrev AreShort : List (List ℕ) → Type 0
AreShort [] = Unit {0}
AreShort (field ∷ rest) = (length field ≤ 64) × AreShort rest

fields_size : (fields : List (List ℕ)) → AreShort fields
    → length (fields_text default_writer fields) ≤ 131 * length fields
unfolding fields_text
fields_size [] short = omega arith
fields_size (field ∷ rest) short =
    omega (
      arith,
      field_size field,
      short.0,
      fields_size rest short.1,
      length-append (field_text default_writer field) (fields_text default_writer rest),
    )

-- what stands for a row that would show nothing
abbrev blank_text : Bool → List ℕ
blank_text b = if b then 34 ∷ 34 ∷ [] else []

blank_size : (b : Bool) → length (blank_text b) ≤ 2
blank_size true = omega arith
blank_size false = omega arith

row_size : (first : List ℕ) (rest : List (List ℕ)) → AreShort (first ∷ rest)
    → length (row_text default_writer (first ∷ rest)) ≤ 131 * length (first ∷ rest) + 2
row_size first rest short =
    let front = field_text default_writer first in
    let fields = fields_text default_writer rest in
    let blank = blank_text (is_blank default_writer (first ∷ rest)) in
    omega (
      arith,
      field_size first,
      short.0,
      fields_size rest short.1,
      blank_size (is_blank default_writer (first ∷ rest)),
      length-append (front ++ fields) (blank ++ 10 ∷ []),
      length-append front fields,
      length-append blank (10 ∷ []),
    )

number_size : (n : ℕ) → n ≤ amount_most → length (decimal n) ≤ 64
number_size n small =
    let short = length-decimal-le 12 n (omega arith) (omega arith) (omega arith) in
    omega (arith, short)

price_size : (price : ℕ) → IsPrice price → length (price_text price) ≤ 64
price_size price range =
    let short = length-decimal-le 6 (price / 10000) (omega arith) (omega arith) (omega arith) in
    omega (
      arith,
      short,
      length-append (decimal (price / 10000)) (46 ∷ four_digits (price % 10000)),
    )

-- no columns, some of which are left out, are longer
short_front : (n : ℕ) (fields : List (List ℕ)) → AreShort fields → AreShort (take n fields)
short_front zero [] short = tt
short_front zero (field ∷ rest) short = tt
short_front (suc n) [] short = tt
short_front (suc n) (field ∷ rest) short = (short.0, short_front n rest short.1)

-- the row of a version, by the seven columns from which it is taken
version_size : (v : Version) (first : List ℕ) (rest : List (List ℕ)) → length rest ≡ 6
    → AreShort (first ∷ rest)
    → length (row_text default_writer (take (column_count v) (first ∷ rest))) ≤ 919
version_size version.One first rest six short =
    let all = row_size first (take 5 rest) (short.0, short_front 5 rest short.1) in
    omega (arith, all, length-take 5 rest)
version_size version.Two first rest six short =
    let all = row_size first (take 6 rest) (short.0, short_front 6 rest short.1) in
    omega (arith, all, length-take 6 rest)

count_size : (v : Version) (kind : List ℕ) (n : ℕ) → length kind ≤ 64 → n ≤ amount_most
    → length (row_text default_writer (take (column_count v) (count_row kind n))) ≤ 919
count_size v kind n short small =
    version_size v kind ([] ∷ decimal n ∷ [] ∷ [] ∷ [] ∷ [] ∷ []) refl (
      short,
      (
        omega arith,
        (number_size n small, (omega arith, (omega arith, (omega arith, (omega arith, tt))))),
      ),
    )

named_size : (v : Version) (kind name : List ℕ) (n : ℕ) (mode : List ℕ) → length kind ≤ 64
    → length name ≤ 64 → n ≤ amount_most → length mode ≤ 64
    → length (row_text default_writer (take (column_count v) (named_row kind name n mode))) ≤ 919
named_size v kind name n mode short named small mode_short =
    version_size v kind (name ∷ decimal n ∷ [] ∷ [] ∷ [] ∷ mode ∷ []) refl (
      short,
      (
        named,
        (number_size n small, (omega arith, (omega arith, (omega arith, (mode_short, tt))))),
      ),
    )

symbol_size : (v : Version) (row : SymbolRow) → IsInRange (entry.Symbol row)
    → length (text_of v (entry.Symbol row)) ≤ 919
symbol_size v row r =
    let size = number_size row.size (omega arith) in
    let high = price_size row.high r.2 in
    let low = price_size row.low r.1 in
    let limit = number_size row.limit (omega arith) in
    version_size v (codes "symbol") (row.name ∷ decimal row.limit ∷ price_text row.low
    ∷ price_text row.high ∷ decimal row.size ∷ [] ∷ []) refl
    (omega arith, (r.4.most, (limit, (low, (high, (size, (omega arith, tt)))))))

mode_size : (net : Bool) → length (mode_text net) ≤ 64
mode_size true = omega arith
mode_size false = omega arith

text_size : (v : Version) (e : Entry) → IsInRange e → length (text_of v e) ≤ 919
text_size v (entry.Firm n) r = count_size v (codes "firm") n (omega arith) (omega arith)
text_size v (entry.Account row) r =
    named_size v (codes "account") row.name row.limit (mode_text row.net) (omega arith) r.1.most
    (omega arith) (mode_size row.net)
text_size v (entry.Symbol row) r = symbol_size v row r
text_size v (entry.Trip n) r = count_size v (codes "trip") n (omega arith) (omega arith)
text_size v (entry.Quota n) r = count_size v (codes "quota") n (omega arith) (omega arith)
text_size v (entry.Repeat n) r = count_size v (codes "repeat") n (omega arith) (omega arith)
text_size v (entry.Off row) r =
    named_size v (codes "off") row.name row.from [] (omega arith) r.1.most (omega arith)
    (omega arith)

-- the text that tells the version is at most so many bytes
pub version_text_size : (v : Version) → length (version_text v) ≤ 919
unfolding fields_text escaped is_blank
version_text_size version.One = omega arith
version_text_size version.Two = omega arith

-- rows in range are at most so many bytes
pub rows_size : (v : Version) (es : List Entry) → All IsInRange es
    → length (flat_map (text_of v) es) ≤ 919 * length es
rows_size v [] r = omega arith
rows_size v (e ∷ es) r =
    omega (
      arith,
      text_size v e (All-head IsInRange e es r),
      rows_size v es (All-tail IsInRange e es r),
      length-append (text_of v e) (flat_map (text_of v) es),
    )
