-- the reader goes on, and the rows so far are sound
use Rattle.std.proofs.Common.{◌≡◌, ◌<◌}
use Rattle.csv.specs.Reading.{Ready}
use Rattle.csv.specs.declared.reader.Trim.TheVariants as trim
use Rattle.limit_table.proofs.SoFar.{IsSoFar}
use Rattle.limit_table.proofs.reading.read_entries.Given as goal

abbrev pub invariant-loop-row : goal.invariant-loop-row
invariant-loop-row l =
    (l.row-iterator.rdr.trim ≡ trim.None) × Ready l.row-iterator.rdr × (0 < l.row-iterator.left)
    × IsSoFar l.fn.bytes l.row-iterator.rdr l.so_far
