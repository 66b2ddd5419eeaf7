-- The names of a run's outputs, as the program keeps them.
use Rattle.std.specs.Prelude.{◌≡◌, ℕ, List, length, slice_get, Some, string_bytes}
use Rattle.gate_files.specs.declared.names.Outputs.{Outputs}
use Rattle.gate_files.specs.Words.{FolderWords, venue_name, client_name}

-- the names of a session's outputs in a folder of outputs
pub record AreNamesOf (out : FolderWords) (session : ℕ) (own : Outputs) : Type 0 where
  pub venue : string_bytes own.venue ≡ venue_name out session
  pub client : string_bytes own.client ≡ client_name out session

-- the names of so many sessions' outputs, in their order
pub record AreNames (out : FolderWords) (count : ℕ) (names : List Outputs) : Type 0 where
  pub many : length names ≡ count
  pub each : (session : ℕ) (own : Outputs) → slice_get names session ≡ Some own
      → AreNamesOf out session own
