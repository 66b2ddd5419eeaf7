-- the pieces so far stand behind those before
use Rattle.std.proofs.Common.{◌≡◌, ◌++◌}
use Rattle.std.specs.List.{AllByRecursion, flat_map}
use Rattle.session_tasks.specs.Pieces.{bytes_in, IsWritten}
use Rattle.gate_files.specs.Joined.{joined}
use Rattle.session_tasks.proofs.pieces.add_pieces.Given as goal

abbrev pub invariant-loop-piece : goal.invariant-loop-piece
invariant-loop-piece l = record {
  whole : AllByRecursion IsWritten l.yielded;
  bytes : joined l.pieces.items ≡ joined l.initial.pieces.items ++ flat_map bytes_in l.yielded;
}
