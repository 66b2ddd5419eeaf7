-- the names so far are no outputs
use Rattle.std.proofs.Common.{◌≡◌, drop, string_bytes}
use Rattle.std.specs.List.{list_any}
use Rattle.gate_files.specs.CommandOf.{folder_value}
use Rattle.gate_files.specs.Words.{is_among, output_names}
use Rattle.gate_files.proofs.words.has_output.Given as goal

abbrev pub invariant-loop-name : goal.invariant-loop-name
invariant-loop-name l =
    list_any (λ name. is_among (string_bytes name) (output_names (folder_value l.out) l.count)) l.names
    ≡ list_any (λ name. is_among (string_bytes name) (output_names (folder_value l.out) l.count))
    (drop l.name-index l.names)
