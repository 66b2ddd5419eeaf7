-- A folder in memory, as callers see it.
use Rattle.std.specs.Prelude.{ℕ, List, Result, Ok, Err, Bool, true, false}
use Rattle.std.specs.BTreeMap.{get_by_text}
use Rattle.gate_ports.specs.declared.mem_folder.MemFolder.{MemFolder}
use Rattle.gate_ports.specs.declared.ports.PortFault.{PortFault}
use Rattle.gate_ports.specs.declared.ports.PortFault.TheVariants.{Failed, Memory}
use Rattle.gate_ports.specs.Calls.{CallsState}
use Rattle.gate_ports.specs.Kept.{text_at, read_faults_at, write_faults_at, calls_at}
use Rattle.gate_ports.specs.Names.{Texts}

-- the text of each name that is there
abbrev pub texts_of : MemFolder → Texts
texts_of folder = text_at (get_by_text folder.names)

-- how many calls have failed to read a name
abbrev pub read_faults_of : MemFolder → List ℕ → ℕ
read_faults_of folder = read_faults_at (get_by_text folder.names)

-- how many calls have failed to write a name
abbrev pub write_faults_of : MemFolder → List ℕ → ℕ
write_faults_of folder = write_faults_at (get_by_text folder.names)

-- the calls on a name: how many opened and made it, and which calls fail
abbrev pub calls_of : MemFolder → List ℕ → CallsState
calls_of folder = calls_at (get_by_text folder.names)

-- how many bytes a call of its sources and sinks moves at most
abbrev pub most_of : MemFolder → ℕ
most_of folder = folder.most

-- the call was refused for a fault
abbrev pub is_failed : {T : Type 0} → Result T PortFault → Bool
is_failed (Ok value) = false
is_failed (Err Failed) = true
is_failed (Err Memory) = false
