-- What is known of the rows of a file that were read so far.
use Rattle.std.specs.Prelude.{◌≡◌, ℕ, List, length}
use Rattle.limit_table.specs.Files.{SetEntries}
use Rattle.limit_table.specs.Versions.{version_of, body_of}
use Rattle.limit_table.specs.declared.so_far.SoFar.{SoFar}

-- the most rows of a limit file: as many of each kind as it may have, and the one that tells its version
abbrev pub rows_most : ℕ
rows_most = 521

-- these are the rows that were read
pub record StandsFor (so_far : SoFar) (rows : List (List (List ℕ))) : Type 0 where
  pub count : so_far.count ≡ length rows
  pub version : so_far.version ≡ version_of rows
  pub each : length so_far.entries.items ≡ length (body_of rows)
  pub sets : SetEntries rows so_far.entries.items
