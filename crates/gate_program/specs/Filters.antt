-- What a filter is owed in which nothing failed: an end by its inputs, or by its limit file's fault.
use Rattle.std.specs.Prelude.{◌≡◌, ℕ, List, Some, ◌⊎◌}
use Rattle.gate_ports.specs.Names.{Texts}
use Rattle.gate_files.specs.Words.{RunWords, command_of}
use Rattle.gate_files.specs.Words.Command.{Cross}
use Rattle.gate_files.specs.Ports.{PortsValue}
use Rattle.gate_program.specs.WholeInputs.{AreWholeTexts, HasNoFault}

-- The words are a filter's, and nothing failed.
pub record HasUnfailingFilter (words : List (List ℕ)) (before after : PortsValue) : Type 0 where
  pub run : RunWords
  pub is_filter : command_of words ≡ Some (Cross run)
  pub no_fault : HasNoFault before after

-- The folder tells its texts too, and they are a limit file and whole inputs.
pub record HasWholeFilter (words : List (List ℕ)) (before after : PortsValue) : Type 0 where
  pub unfailing : HasUnfailingFilter words before after
  pub texts : Texts
  pub told : before.texts ≡ Some texts
  pub whole : AreWholeTexts texts unfailing.run

-- all was read and written, the limit file is refused, an input isn't whole, or memory was wanting
abbrev pub IsFiltered : ℕ → Type 0
IsFiltered status = (status ≡ 0) ⊎ (status ≡ 3) ⊎ (status ≡ 4) ⊎ (status ≡ 8)
