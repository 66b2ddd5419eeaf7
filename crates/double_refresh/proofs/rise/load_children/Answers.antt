use Rattle.double_refresh.proofs.Attempts.{left_keeps_try, full_try}
use Rattle.double_refresh.proofs.rise.load_children.Goals as goal

pub load_right-requires-clause-stage : goal.load_right-requires-clause-stage
load_right-requires-clause-stage g c =
    left_keeps_try c.args.climb.now c.load_left.new.climb c.load_left.ensures.table c.requires.stage
    c.load_left.ensures.view

pub returns-clause-full : goal.returns-clause-full
returns-clause-full g c =
    full_try c.args.climb.now c.load_left.new.climb c.load_right.new.climb
    c.load_left.ensures.table c.load_right.ensures.table c.requires.stage c.load_left.ensures.view
    c.load_right.ensures.view
