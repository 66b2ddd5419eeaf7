-- The ways of a call that came to no session, or to none that ran, and what it kept.
use Rattle.std.specs.Prelude.{◌≡◌, ℕ, ◌<◌, List, length}
use Rattle.std.specs.Prelude.{Option}
use Rattle.std.specs.Prelude.{Some, None, IfSome, false}
use Rattle.gate_ports.specs.Names.{Texts}
use Rattle.limit_table.specs.Counted.{counted_for}
use Rattle.limit_table.specs.Files.{IsFirstFault, IsLimitFile}
use Rattle.limit_table.specs.declared.fault.LimitFault.{LimitFault}
use Rattle.limit_table.specs.declared.limits.Limits.{Limits}
use Rattle.gate_files.specs.Words.{RunWords, command_of, output_names}
use Rattle.gate_files.specs.Words.{is_among}
use Rattle.gate_files.specs.Early.{LeavesEmpty}
use Rattle.gate_files.specs.Limits.{limits_fault_text}
use Rattle.gate_files.specs.Ports.{PortsValue, ReadRose, OutputRose, session_name}
use Rattle.gate_files.specs.Told.{Tells, usage_text, read_fault_text, write_fault_text}

-- the name's text is a limit file with these limits, where the folder tells it
abbrev pub HasLimits : Option Texts → List ℕ → Limits → Type 0
HasLimits told name limits =
    IfSome told (λ texts. (text : List ℕ) × (texts name ≡ Some text) × IsLimitFile text limits)

-- The limits with which so many sessions run: those of the name's text, with the quota that counts.
pub record HasCounted (told : Option Texts) (name : List ℕ) (sessions : ℕ) (limits : Limits) : Type 0
  where
    pub file : Limits
    pub file_is : HasLimits told name file
    pub counted : limits ≡ counted_for sessions file

-- the name's text is no limit file, for this fault, where the folder tells it
abbrev pub IsRefused : Option Texts → List ℕ → LimitFault → Type 0
IsRefused told name why =
    IfSome told (λ texts. (text : List ℕ) × (texts name ≡ Some text) × IsFirstFault text why)

-- The words are no form.
pub record HasNoForm (words : List (List ℕ)) (before after : PortsValue) (status : ℕ) : Type 0 where
  pub no_form : command_of words ≡ None
  pub texts : after.texts ≡ before.texts
  pub told : Tells before after usage_text 2 status

-- The limit file of this name could not be opened or read.
pub record HasUnreadLimits (name : List ℕ) (before after : PortsValue) (status : ℕ) : Type 0 where
  pub rose : ReadRose before after name
  pub texts : after.texts ≡ before.texts
  pub told : Tells before after read_fault_text 5 status

-- The limit file of this name is refused, and what is told is its first fault.
pub record HasRefusedLimits (name : List ℕ) (before after : PortsValue) (status : ℕ) : Type 0 where
  pub why : LimitFault
  pub refused : IsRefused before.texts name why
  pub texts : after.texts ≡ before.texts
  pub told : Tells before after (limits_fault_text why) 3 status

-- names that are no outputs keep their texts
abbrev pub KeepsOthers : PortsValue → PortsValue → RunWords → Type 0
KeepsOthers before after run =
    IfSome before.texts (λ old. IfSome after.texts (λ new. (name : List ℕ)
    → is_among name (output_names run.out (length run.sessions)) ≡ false → new name ≡ old name))

-- A session's name could not be opened, behind a limit file. No session ran.
pub record HasUnopenedSession (run : RunWords) (before after : PortsValue) (status : ℕ) : Type 0
  where
    pub limits : Limits
    pub limits_are : HasLimits before.texts run.limits limits
    pub session : ℕ
    pub in_range : session < length run.sessions
    pub rose : ReadRose before after (session_name run session)
    pub left : LeavesEmpty run session before.texts after.texts
    pub others : KeepsOthers before after run
    pub told : Tells before after read_fault_text 5 status

-- An output of a session could not be created, behind a limit file. No session ran.
pub record HasRefusedOutput (run : RunWords) (before after : PortsValue) (status : ℕ) : Type 0 where
  pub limits : Limits
  pub limits_are : HasLimits before.texts run.limits limits
  pub session : ℕ
  pub in_range : session < length run.sessions
  pub rose : OutputRose before after run session
  pub left : LeavesEmpty run session before.texts after.texts
  pub others : KeepsOthers before after run
  pub told : Tells before after write_fault_text 6 status
