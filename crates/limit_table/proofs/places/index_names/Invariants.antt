-- the names so far have their places
use Rattle.std.proofs.Common.{take}
use Rattle.std.specs.Ordering.{nat_cmp}
use Rattle.std.specs.Cmp.Lexicographic.{slice_cmp}
use Rattle.std.specs.BTreeMap.{get}
use Rattle.limit_table.specs.Places.{IsIndex}
use Rattle.limit_table.proofs.places.index_names.Given as goal

abbrev pub invariant-loop-place : goal.invariant-loop-place
invariant-loop-place l = IsIndex (take l.place l.names) (get (slice_cmp nat_cmp) l.places)
