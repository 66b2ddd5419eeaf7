-- What is known of sources, sinks and folders over the system: their counts, and ends.
use Rattle.std.specs.Prelude.{ℕ, Result, Ok, Err, Bool, false, if◌then◌else◌}
use Rattle.gate_ports.specs.Bytes.{is_ended_after}
use Rattle.gate_ports.specs.Faults.{one_more}

-- a source: how many calls failed, and whether the end was seen
pub record ReaderState : Type 0 where
  pub faults : ℕ
  pub is_ended : Bool

-- a source of which nothing was read
abbrev pub new_reader : ReaderState
new_reader = record { faults = 0; is_ended = false }

-- the source after a fetch into a buffer of so many bytes
abbrev pub after_read : {E : Type 0} → ReaderState → Result ℕ E → ℕ → ReaderState
after_read {E} s (Ok count) room =
    record s { is_ended = is_ended_after {E = E} s.is_ended (Ok count) room }
after_read {E} s (Err fault) room = record s { faults = one_more s.faults }

-- a folder: how many calls failed to read any name, and to write any name
pub record FolderCounts : Type 0 where
  pub reads : ℕ
  pub writes : ℕ

-- the count with one more where there was a fault
abbrev pub raised_where : Bool → ℕ → ℕ
raised_where has_failed count = if has_failed then one_more count else count
