-- Which limits a file can hold.
use Rattle.std.specs.Prelude.{ℕ, ◌≤◌, List, length, map}
use Rattle.std.specs.List.{All, IsDistinct}
use Rattle.limit_table.specs.Kinds.{same_text}
use Rattle.limit_table.specs.Places.{account_names, symbol_names}
use Rattle.limit_table.specs.Printing.{entries_in}
use Rattle.limit_table.specs.Ranges.{IsInRange}
use Rattle.limit_table.specs.declared.kind.OffRow.{OffRow}
use Rattle.limit_table.specs.declared.limits.Limits.{Limits}

-- the names of screens that are dropped
abbrev pub off_names : List OffRow → List (List ℕ)
off_names rows = map (λ row. row.name) rows

-- at most so many names, all different
pub record AreFewNames (most : ℕ) (names : List (List ℕ)) : Type 0 where
  pub few : length names ≤ most
  pub distinct : IsDistinct same_text names

-- each number and name is in its range, and the names of each kind are few and different
pub record AreFileLimits (limits : Limits) : Type 0 where
  pub in_range : All IsInRange (entries_in limits)
  pub accounts : AreFewNames 100 (account_names limits.accounts)
  pub symbols : AreFewNames 400 (symbol_names limits.symbols)
  pub off : AreFewNames 16 (off_names limits.off)
