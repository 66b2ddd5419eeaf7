-- Sources and sinks in memory, as callers see them, and what each call makes of them.
use Rattle.std.specs.Prelude.{ℕ, List, [], ◌++◌, take, drop, Option, Result, Ok, Err, Bool, false}
use Rattle.gate_ports.specs.declared.ports.PortFault.{PortFault}
use Rattle.gate_ports.specs.declared.ports.PortFault.TheVariants.{Failed, Memory}
use Rattle.gate_ports.specs.Bytes.{is_ended_after}
use Rattle.gate_ports.specs.Faults.{one_more}

-- a source: the bytes left, the most of one call, the numbers of the calls that fail, from 0, how
-- many calls were made, how many failed, whether the end was seen, the name if it has one
pub record SourceState : Type 0 where
  pub left : List ℕ
  pub most : ℕ
  pub failing : List ℕ
  pub calls : ℕ
  pub faults : ℕ
  pub is_ended : Bool
  pub name : Option (List ℕ)

-- a source of which nothing was read
abbrev pub new_source : List ℕ → ℕ → List ℕ → Option (List ℕ) → SourceState
new_source bytes most failing name = record {
  left = bytes;
  most = most;
  failing = failing;
  calls = 0;
  faults = 0;
  is_ended = false;
  name = name;
}

-- the source after a fetch into a buffer of so many bytes
abbrev pub after_fetch : {E : Type 0} → SourceState → Result ℕ E → ℕ → SourceState
after_fetch {E} s (Ok count) room = record s {
  left = drop count s.left;
  calls = one_more s.calls;
  is_ended = is_ended_after {E = E} s.is_ended (Ok count) room;
}
after_fetch {E} s (Err fault) room = record s {
  calls = one_more s.calls;
  faults = one_more s.faults;
}

-- a source of which no call fails: the bytes left, the most of one call, whether the end was seen
pub record SureState : Type 0 where
  pub left : List ℕ
  pub most : ℕ
  pub is_ended : Bool

-- such a source of which nothing was read
abbrev pub new_sure_source : List ℕ → ℕ → SureState
new_sure_source bytes most = record { left = bytes; most = most; is_ended = false }

-- such a source after a fetch into a buffer of so many bytes
abbrev pub after_sure_fetch : {E : Type 0} → SureState → Result ℕ E → ℕ → SureState
after_sure_fetch {E} s (Ok count) room = record s {
  left = drop count s.left;
  is_ended = is_ended_after {E = E} s.is_ended (Ok count) room;
}
after_sure_fetch s (Err fault) room = s

-- a sink: the bytes held, the most of one call, the numbers of the calls that fail, from 0, how
-- many calls were made, how many failed, the name if it has one
pub record SinkState : Type 0 where
  pub held : List ℕ
  pub most : ℕ
  pub failing : List ℕ
  pub calls : ℕ
  pub faults : ℕ
  pub name : Option (List ℕ)

-- a sink that holds nothing
abbrev pub new_sink : ℕ → List ℕ → Option (List ℕ) → SinkState
new_sink most failing name = record {
  held = [];
  most = most;
  failing = failing;
  calls = 0;
  faults = 0;
  name = name;
}

-- the sink after this piece was given
abbrev pub after_give : SinkState → Result ℕ PortFault → List ℕ → SinkState
after_give s (Ok count) piece = record s {
  held = s.held ++ take count piece;
  calls = one_more s.calls;
}
after_give s (Err Failed) piece = record s {
  calls = one_more s.calls;
  faults = one_more s.faults;
}
after_give s (Err Memory) piece = record s { calls = one_more s.calls }
