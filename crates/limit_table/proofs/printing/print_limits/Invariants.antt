-- the row that tells the version and the rows so far are written
use Rattle.std.proofs.Common.{take, ◌++◌}
use Rattle.std.specs.List.{flat_map}
use Rattle.limit_table.specs.Printing.{HasText, text_of, version_text}
use Rattle.limit_table.proofs.printing.print_limits.Given as goal

abbrev pub invariant-loop-row : goal.invariant-loop-row
invariant-loop-row l =
    HasText l.text (version_text l.version
    ++ flat_map (text_of l.version) (take l.row-index l.row-items))
