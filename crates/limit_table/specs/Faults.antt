-- What is wrong with a row after the rows before it.
use Rattle.std.specs.Prelude.{ℕ, List, [], take, get_or, Option, Some, None, Bool}
use Rattle.std.specs.Prelude.{Result, Ok, Err, ◌&&◌, if◌then◌else◌, nat_le, count_by, filter_map}
use Rattle.std.specs.List.{list_any}
use Rattle.std.specs.Result.{result_ok}
use Rattle.limit_table.specs.Kinds.{kind_of, name_of, same_kind, same_name, is_crossed, rows_most}
use Rattle.limit_table.specs.Entries.{entry_of, ◌>>=◌}
use Rattle.limit_table.specs.declared.version.Version.{Version}
use Rattle.limit_table.specs.declared.kind.Entry.{Entry}
use Rattle.limit_table.specs.declared.kind.Cause.{Cause}
use Rattle.limit_table.specs.declared.kind.Cause.TheVariants as cause

-- the rows are of the same kind
abbrev pub is_alike : Entry → Entry → Bool
is_alike a b = same_kind (kind_of a) (kind_of b)

-- the rows have the same kind and the same name
abbrev pub same_key : Entry → Entry → Bool
same_key a b = is_alike a b && same_name (name_of a) (name_of b)

-- how many rows are of the same kind as this one
abbrev pub count_alike : Entry → List Entry → ℕ
count_alike entry rows = count_by (is_alike entry) rows

-- what is wrong with a row that is sound by itself, after these rows
abbrev pub entry_fault : List Entry → Entry → Option Cause
entry_fault earlier entry =
    if list_any (same_key entry) earlier then Some cause.Repeated
    else if nat_le (rows_most (kind_of entry)) (count_alike entry earlier) then Some cause.TooMany
    else if is_crossed entry then Some cause.Band
    else None

-- the row, unless this is wrong with it
abbrev pub unless_fault : Entry → Option Cause → Result Entry Cause
unless_fault entry None = Ok entry
unless_fault entry (Some c) = Err c

-- what a row sets after rows that set these, or the first thing that is wrong with it
abbrev pub row_after : Version → List Entry → List (List ℕ) → Result Entry Cause
row_after version earlier fields = do
  entry ← entry_of version fields
  unless_fault entry (entry_fault earlier entry)

-- what the rows set that are sound by themselves
abbrev pub entries_of : Version → List (List (List ℕ)) → List Entry
entries_of version rows = filter_map (λ row. result_ok (entry_of version row)) rows

-- the row at a place from 0, after the rows before it
abbrev pub row_at : Version → List (List (List ℕ)) → ℕ → Result Entry Cause
row_at version rows place =
    row_after version (entries_of version (take place rows)) (get_or rows place [])
