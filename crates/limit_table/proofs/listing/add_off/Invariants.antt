-- the rows so far are added
use Rattle.std.proofs.Common.{◌≡◌, ◌++◌, map, take}
use Rattle.limit_table.specs.declared.kind.Entry.TheVariants as entry
use Rattle.limit_table.proofs.listing.add_off.Given as goal

abbrev pub invariant-loop-screen : goal.invariant-loop-screen
invariant-loop-screen l =
    l.rows.items ≡ l.initial.rows.items ++ map (λ row. entry.Off row) (take l.screen-index l.off)
