-- the names so far are no later ones
use Rattle.std.proofs.Common.{◌≡◌, drop, map, string_bytes}
use Rattle.gate_files.specs.Words.{are_distinct}
use Rattle.gate_files.proofs.words.are_distinct.Given as goal

abbrev pub invariant-loop-place : goal.invariant-loop-place
invariant-loop-place l =
    are_distinct (map string_bytes l.names) ≡ are_distinct (map string_bytes (drop l.place l.names))
