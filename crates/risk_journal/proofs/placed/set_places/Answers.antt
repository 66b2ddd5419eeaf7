use Rattle.std.proofs.Common.{arith, map}
use Rattle.risk_journal.specs.ActLists.{placed_by, place_in}
use Rattle.risk_journal.proofs.PlacedSoFar.{changed_more}
use Rattle.risk_journal.proofs.placed.set_places.Goals as goal

pub loop-index-preserved : goal.loop-index-preserved
loop-index-preserved c =
    let more = changed_more (placed_by (place_in (map (λ own. own.items) c.args.places.now)))
    c.args.acts.now c.loop-index.acts
    c.loop-index.index _ _
    (omega arith) (omega arith) c.loop-index.invariant.front c.loop-index.invariant.rest
    c.at_its_place.ensures in
    record { front = more.0; rest = more.1 }
