-- the reader goes on, and the rows so far are sound
use Rattle.std.proofs.Common.{◌≡◌, ◌<◌}
use Rattle.csv.specs.Reading.{Ready}
use Rattle.csv.specs.declared.reader.Trim.TheVariants as trim
use Rattle.limit_desk.proofs.OfficerReads.{IsSoFar}
use Rattle.limit_desk.proofs.officer.read_rows.Given as goal

abbrev pub invariant-loop-record : goal.invariant-loop-record
invariant-loop-record l =
    (l.record-iterator.rdr.trim ≡ trim.None) × Ready l.record-iterator.rdr
    × (0 < l.record-iterator.left)
    × IsSoFar l.fn.limits l.fn.bytes l.record-iterator.rdr l.rows.items
