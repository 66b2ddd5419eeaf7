-- the bytes so far are what the source lost
use Rattle.std.proofs.Common.{◌≡◌, ◌≤◌, length, ◌-◌}
use Rattle.std.specs.Io.KnownBytes.{Consumes}
use Rattle.gate_ports.proofs.fetch.fetch_up_to.Given as goal

abbrev pub invariant-loop-piece : goal.invariant-loop-piece
invariant-loop-piece g l = record {
  taken : Consumes (g.S.Source.left l.fn.source) (g.S.Source.left l.source) l.bytes.items;
  no_more : length l.bytes.items ≤ l.most;
  room : 1 ≤ length l.piece;
  later : g.S.Source.faults l.fn.source ≤ g.S.Source.faults l.source;
  name : g.S.Source.name l.source ≡ g.S.Source.name l.fn.source;
}

abbrev pub decreases-loop-piece : goal.decreases-loop-piece
decreases-loop-piece g l = l.most - length l.bytes.items
