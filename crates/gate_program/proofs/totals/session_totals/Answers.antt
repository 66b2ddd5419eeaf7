use Rattle.std.proofs.Common.{◌≡◌, ℕ, List, map, length, subst}
use Rattle.std.proofs.lemmas.List.{length-map}
use Rattle.std.specs.List.{AllZip}
use Rattle.gate_program.specs.Totals.{total_at}
use Rattle.gate_program.proofs.JournalPieces.{all_countable, totals_of_all}
use Rattle.gate_program.proofs.totals.session_totals.Goals as goal

pub map_all-requires-after_bounds : goal.map_all-requires-after_bounds
map_all-requires-after_bounds g c κs within =
    all_countable c.args.ends.now c.args.acts.now c.in_ok-sessions.sessions.items c.requires.ends
    c.requires.acts c.in_ok-sessions.ensures

pub returns-in-Ok : goal.returns-in-Ok
returns-in-Ok g c =
    let acts = map (λ own. own.items) c.args.acts.now in
    let zipped = subst (λ (numbers : List ℕ).
    AllZip (λ number total. total ≡ total_at c.args.ends.now acts number) numbers
    c.in-Ok.all.items) c.in_ok-sessions.ensures c.in-Ok.ensures.ok in
    totals_of_all c.args.ends.now acts (length c.args.acts.now) c.in-Ok.all.items c.requires.ends
    (length-map c.args.acts.now (λ own. own.items)) zipped
