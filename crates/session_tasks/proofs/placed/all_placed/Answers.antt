use Rattle.std.proofs.Common.{map}
use Rattle.risk_journal.specs.ActLists.{placed_by, place_in}
use Rattle.session_tasks.proofs.JournalPieces.{zipped_map}
use Rattle.session_tasks.proofs.placed.all_placed.Goals as goal

pub returns-in-Ok : goal.returns-in-Ok
returns-in-Ok g c =
    zipped_map _ (λ own. own.items) (λ own. own.items)
    (map (placed_by (place_in (map (λ own. own.items) c.args.places.now))))
    (λ own done is. is) c.args.acts.items c.in-Ok.all.items c.in-Ok.ensures.ok
