-- the pieces so far are at the end of the sink
use Rattle.std.proofs.Common.{◌≡◌, ◌≤◌, take}
use Rattle.std.specs.Io.KnownBytes.{Appends}
use Rattle.gate_files.specs.Joined.{joined}
use Rattle.gate_files.proofs.writing.give_pieces.Given as goal

abbrev pub invariant-loop-piece : goal.invariant-loop-piece
invariant-loop-piece g l = record {
  so_far : Appends (g.S.Sink.held l.initial.sink) (g.S.Sink.held l.sink)
      (joined (take l.piece-index l.pieces));
  later : g.S.Sink.faults l.initial.sink ≤ g.S.Sink.faults l.sink;
  name : g.S.Sink.name l.sink ≡ g.S.Sink.name l.initial.sink;
}
