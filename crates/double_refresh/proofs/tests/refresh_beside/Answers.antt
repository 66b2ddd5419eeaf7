use Rattle.std.proofs.Common.{◌∙◌}
use Rattle.double_refresh.proofs.Attempts.{first_try, first_lost, second_try}
use Rattle.double_refresh.proofs.tests.refresh_beside.Goals as goal

pub attempt_beside-requires-clause-late : goal.attempt_beside-requires-clause-late
attempt_beside-requires-clause-late g c =
    let kept = c.first_load.ensures.table in (
      (kept.0 ∙ c.requires.late.0.0, kept.1 ∙ c.requires.late.0.1),
      first_try c.args.late.now c.first_load.new.climb kept c.requires.late.1
          c.first_load.ensures.view,
    )

pub attempt-requires-clause-stage : goal.attempt-requires-clause-stage
attempt-requires-clause-stage g c =
    let lost = first_lost c.args.late.now c.first_load.new.climb c.attempt_beside.new.late
    c.first_load.ensures.table c.if-attempt_beside.ensures.late c.requires.late.1
    c.first_load.ensures.view c.if-attempt_beside.ensures.lost in
    second_try c.attempt_beside.new.late c.second_load.new.climb c.second_load.ensures.table lost
    c.second_load.ensures.view
