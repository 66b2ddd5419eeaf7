use Rattle.double_refresh.proofs.Attempts.{first_try, first_lost, second_try}
use Rattle.double_refresh.proofs.rise.refresh.Goals as goal

pub attempt-requires-clause-stage : goal.attempt-requires-clause-stage
attempt-requires-clause-stage g c =
    first_try c.args.climb.now c.first_load.new.climb c.first_load.ensures.table c.requires.stage
    c.first_load.ensures.view

pub attempt-requires-2-clause-stage : goal.attempt-requires-2-clause-stage
attempt-requires-2-clause-stage g c =
    let lost = first_lost c.args.climb.now c.first_load.new.climb c.attempt.new.climb
    c.first_load.ensures.table c.if-attempt.ensures.table c.requires.stage c.first_load.ensures.view
    c.if-attempt.ensures.lost in
    second_try c.attempt.new.climb c.second_load.new.climb c.second_load.ensures.table lost
    c.second_load.ensures.view
