-- What a run is owed: of whole inputs, read and written without a fault, the status 0.
use Rattle.std.specs.Prelude.{◌≡◌, ℕ, ◌<◌, ◌≤◌, List, length, Some}
use Rattle.fix_fields.specs.Frames.{FrameValue}
use Rattle.fix_fields.specs.Found.{Splits}
use Rattle.fix_fields.specs.declared.frame.Found.TheVariants as found
use Rattle.gate_ports.specs.Faults.{Rose}
use Rattle.gate_ports.specs.Names.{Texts}
use Rattle.limit_table.specs.Files.{IsLimitFile}
use Rattle.limit_table.specs.declared.limits.Limits.{Limits}
use Rattle.session_engine.specs.Follows.{input_most}
use Rattle.gate_files.specs.Words.{RunWords, command_of}
use Rattle.gate_files.specs.Words.Command.{Run}
use Rattle.gate_files.specs.Ports.{PortsValue, session_name}

-- no more bytes than an input has, and frames up to their end
pub record IsWholeInput (bytes : List ℕ) : Type 0 where
  pub few : length bytes ≤ input_most
  pub frames : List FrameValue
  pub split : Splits bytes 0 frames found.End

-- The limit file is one, and each session's name has a text that is a whole input.
pub record AreWholeTexts (texts : Texts) (run : RunWords) : Type 0 where
  pub limit_text : List ℕ
  pub limits : Limits
  pub limits_there : texts run.limits ≡ Some limit_text
  pub limits_are : IsLimitFile limit_text limits
  pub each : (session : ℕ) → session < length run.sessions
      → (bytes : List ℕ) × (texts (session_name run session) ≡ Some bytes) × IsWholeInput bytes

-- no name's count rose, or stands at the end of its type
abbrev pub NoneRose : (List ℕ → ℕ) → (List ℕ → ℕ) → Type 0
NoneRose before after = (name : List ℕ) → Rose (before name) (after name) → ⊥

-- nothing failed that was read or written
pub record HasNoFault (before after : PortsValue) : Type 0 where
  pub read : NoneRose before.read_faults after.read_faults
  pub written : NoneRose before.write_faults after.write_faults
  pub out : Rose before.out_faults after.out_faults → ⊥

-- The words are a run's, the folder tells its texts, they are whole, and nothing failed.
pub record HasWholeInputs (words : List (List ℕ)) (before after : PortsValue) : Type 0 where
  pub run : RunWords
  pub is_run : command_of words ≡ Some (Run run)
  pub texts : Texts
  pub told : before.texts ≡ Some texts
  pub whole : AreWholeTexts texts run
  pub no_fault : HasNoFault before after
