-- What standard output is given.
use Rattle.std.specs.Prelude.{◌≡◌, ℕ, List, [], ◌∷◌, ◌++◌}
use Rattle.std.specs.Prelude.{Option}
use Rattle.std.specs.Prelude.{codes, ◌⊎◌}
use Rattle.std.specs.Io.KnownBytes.{Appends}
use Rattle.gate_ports.specs.Faults.{Rose}
use Rattle.gate_ports.specs.Bytes.{AppendsFront}
use Rattle.gate_ports.specs.Names.{Texts}
use Rattle.gate_files.specs.Ports.{PortsValue}

-- a folder and standard output as clauses name them
abbrev pub ports_of : {D O : Type 0} → (D → Option Texts) → (D → List ℕ → ℕ) → (D → List ℕ → ℕ)
    → (O → Option (List ℕ)) → (O → ℕ) → D → O → PortsValue
ports_of texts read_faults write_faults held faults folder out = record {
  texts = texts folder;
  read_faults = read_faults folder;
  write_faults = write_faults folder;
  held = held out;
  out_faults = faults out;
}

-- The status that stands is told with its text. A fault of standard output gives 6 in its place,
-- and
-- leaves a front of the text there.
abbrev pub IsTold : Option (List ℕ) → Option (List ℕ) → ℕ → ℕ → List ℕ → ℕ → ℕ → Type 0
IsTold held held_after faults faults_after text standing status =
    ((status ≡ standing) × Appends held held_after text)
    ⊎ ((status ≡ 6) × Rose faults faults_after × AppendsFront held held_after text)

abbrev pub Tells : PortsValue → PortsValue → List ℕ → ℕ → ℕ → Type 0
Tells before after text standing status =
    IsTold before.held after.held before.out_faults after.out_faults text standing status

abbrev pub usage_text : List ℕ
usage_text =
    codes "usage: gate run LIMITS OUT SESSION... | gate make NUMBER SESSIONS ORDERS"
    ++ codes " | gate check LIMITS JOURNAL SESSION..."
    ++ codes " | gate cross LIMITS OUT SESSION..." ++ 10 ∷ []

abbrev pub read_fault_text : List ℕ
read_fault_text = codes "read fault" ++ 10 ∷ []

abbrev pub write_fault_text : List ℕ
write_fault_text = codes "write fault" ++ 10 ∷ []
