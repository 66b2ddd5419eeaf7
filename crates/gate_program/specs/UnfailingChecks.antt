-- What a check is owed in which nothing failed: a verdict, or the fault of its limit file.
use Rattle.std.specs.Prelude.{◌≡◌, ℕ, List, Some, ◌⊎◌}
use Rattle.gate_files.specs.Words.{CheckWords, command_of}
use Rattle.gate_files.specs.Words.Command.{Check}
use Rattle.gate_files.specs.Ports.{PortsValue}
use Rattle.gate_program.specs.WholeInputs.{HasNoFault}

-- The words are a check's, and nothing failed.
pub record HasUnfailingCheck (words : List (List ℕ)) (before after : PortsValue) : Type 0 where
  pub check : CheckWords
  pub is_check : command_of words ≡ Some (Check check)
  pub no_fault : HasNoFault before after

-- the journal is lawful, the limit file is refused, the journal has a fault, or memory was wanting
abbrev pub IsJudged : ℕ → Type 0
IsJudged status = (status ≡ 0) ⊎ (status ≡ 3) ⊎ (status ≡ 7) ⊎ (status ≡ 8)
