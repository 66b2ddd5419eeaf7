use Rattle.stamp_word.specs.Stepping.{loading}
use Rattle.stamp_word.proofs.Uncounted.{counted_step}
use Rattle.stamp_word.proofs.step.load.Goals as goal

pub load-requires : goal.load-requires
load-requires g c =
    let shared = c.table.inside.table.shared in
    let seat = c.seat.inside.seat in
    counted_step g.R.TableRule.holds shared.table_id shared.key c.args.table.now c.table.view_is
    seat.table_id seat.id seat.me c.args.seat.now c.seat.view_is c.args.place
    (λ found. found)
    (λ slots me. g.M.Play.then (loading slots c.args.place) me)
    c.requires.seat c.requires.place c.requires.allowed
