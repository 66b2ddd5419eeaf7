-- A folder and standard output at a moment, and what of them rose between two.
use Rattle.std.specs.Prelude.{◌≡◌, ℕ, List, [], Option, Some, IfSome}
use Rattle.std.specs.Prelude.{◌⊎◌}
use Rattle.std.specs.List.{slice_index_or}
use Rattle.gate_ports.specs.Faults.{Rose}
use Rattle.gate_ports.specs.Names.{Texts}
use Rattle.gate_files.specs.Words.{RunWords, venue_name, client_name}

-- a folder and standard output at a moment: texts and counts of faults by name, where they are told
pub record PortsValue : Type 0 where
  pub texts : Option Texts
  pub read_faults : List ℕ → ℕ
  pub write_faults : List ℕ → ℕ
  pub held : Option (List ℕ)
  pub out_faults : ℕ

-- the name's text is this, where the folder tells its texts
abbrev pub Holds : Option Texts → List ℕ → List ℕ → Type 0
Holds told name text = IfSome told (λ texts. texts name ≡ Some text)

-- a failed read of the name in this call
abbrev pub ReadRose : PortsValue → PortsValue → List ℕ → Type 0
ReadRose before after name = Rose (before.read_faults name) (after.read_faults name)

-- a failed write of the name in this call
abbrev pub WriteRose : PortsValue → PortsValue → List ℕ → Type 0
WriteRose before after name = Rose (before.write_faults name) (after.write_faults name)

-- a failed write of one of a session's outputs in this call
abbrev pub OutputRose : PortsValue → PortsValue → RunWords → ℕ → Type 0
OutputRose before after run session =
    WriteRose before after (venue_name run.out session)
    ⊎ WriteRose before after (client_name run.out session)

-- the name of a session's input
abbrev pub session_name : RunWords → ℕ → List ℕ
session_name run session = slice_index_or run.sessions session []
