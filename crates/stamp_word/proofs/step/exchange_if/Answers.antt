use Rattle.std.specs.Prelude.{◌==◌}
use prog.Atomic.{either}
use Rattle.stamp_word.specs.Stepping.{exchanging}
use Rattle.stamp_word.proofs.Uncounted.{counted_step}
use Rattle.stamp_word.proofs.step.exchange_if.Goals as goal

pub compare_exchange-found-requires : goal.compare_exchange-found-requires
compare_exchange-found-requires g c =
    let shared = c.table.inside.table.shared in
    let seat = c.seat.inside.seat in
    counted_step g.R.TableRule.holds shared.table_id shared.key c.args.table.now c.table.view_is
    seat.table_id seat.id seat.me c.args.seat.now c.seat.view_is c.args.place
    (λ found. either (found == c.args.old) c.args.new found)
    (λ slots me. g.M.Play.then (exchanging slots c.args.place c.args.old c.args.new) me)
    c.requires.seat c.requires.place c.requires.allowed
