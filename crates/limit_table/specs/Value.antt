-- The limits of a file, as contracts see them.
use Rattle.std.specs.Prelude.{ℕ, List, Option}
use Rattle.limit_table.specs.declared.kind.AccountRow.{AccountRow}
use Rattle.limit_table.specs.declared.kind.SymbolRow.{SymbolRow}
use Rattle.limit_table.specs.declared.kind.OffRow.{OffRow}

-- what a session knows of its limits
pub record LimitsValue : Type 0 where
  pub firm : ℕ
  pub accounts : List AccountRow
  pub symbols : List SymbolRow
  pub trip : Option ℕ
  pub quota : ℕ
  pub repeat : ℕ
  pub off : List OffRow
