-- One standing was changed.
use Rattle.std.proofs.Common.{ap}
use Rattle.admit_core.specs.Admitted.{after_post}
use Rattle.admit_core.specs.Admitted.{Standing as OwnStanding}
use Rattle.tree_check.proofs.Standings.{changed_at}
use Rattle.tree_check.proofs.standing.take_line.Goals as goal

pub returns-clause-taken : goal.returns-clause-taken
returns-clause-taken c = λ limit.
    let posted = c.args.line.now.value in
    changed_at (after_post posted) c.args.standings.now c.args.line.now.session
    (record { posted = posted; admitted = c.min.result })
    (ap (λ admitted. let own : OwnStanding = record { posted = posted; admitted = admitted } in own)
    c.min.ensures)
