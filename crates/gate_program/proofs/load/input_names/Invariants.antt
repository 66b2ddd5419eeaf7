-- the names so far
use Rattle.std.proofs.Common.{◌≡◌, map, string_bytes, take}
use Rattle.gate_program.proofs.load.input_names.Given as goal

abbrev pub invariant-loop-own : goal.invariant-loop-own
invariant-loop-own l =
    map string_bytes l.all.items ≡ map (λ own. string_bytes own.venue) (take l.own-index l.outputs)
