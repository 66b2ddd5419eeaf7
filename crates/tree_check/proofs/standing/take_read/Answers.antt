-- One standing was changed.
use Rattle.std.proofs.Common.{◌≡◌, cond, get_or, ap, arith}
use Rattle.std.specs.Prelude.{nat_le}
use Rattle.std.proofs.lemmas.Bool.Decides.{nat_tests}
use Rattle.admit_core.specs.Admitted.{after_read}
use Rattle.admit_core.specs.Admitted.{Standing as OwnStanding}
use Rattle.tree_check.proofs.Standings.{changed_at, none}
use Rattle.tree_check.proofs.standing.take_read.Goals as goal
use Rattle.tree_check.proofs.standing.take_read.Goals.{then-read-limit, else-read-limit}

pub returns-clause-taken : goal.returns-clause-taken
returns-clause-taken c =
    let value = c.args.read.now.value in
    let before = get_or c.args.standings.now c.args.read.now.session none in
    let admitted : c.if-read-limit.admitted
    ≡ cond (nat_le value c.args.limit) before.posted before.admitted =
    elim c.if-read-limit.branch [
      | then-read-limit w ↦ grind (arith, nat_tests)
      | else-read-limit w ↦ grind (arith, nat_tests)
    ] in
    changed_at (after_read c.args.limit value) c.args.standings.now c.args.read.now.session
    (record { posted = before.posted; admitted = c.if-read-limit.admitted })
    (ap (λ a. let own : OwnStanding = record { posted = before.posted; admitted = a } in own)
    admitted)
