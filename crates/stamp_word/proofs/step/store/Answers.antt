use Rattle.stamp_word.specs.Stepping.{storing}
use Rattle.stamp_word.proofs.Uncounted.{counted_step}
use Rattle.stamp_word.proofs.step.store.Goals as goal

pub store-requires : goal.store-requires
store-requires g c =
    let shared = c.table.inside.table.shared in
    let seat = c.seat.inside.seat in
    counted_step g.R.TableRule.holds shared.table_id shared.key c.args.table.now c.table.view_is
    seat.table_id seat.id seat.me c.args.seat.now c.seat.view_is c.args.place
    (λ _. c.args.word)
    (λ slots me _. g.M.Play.then (storing slots c.args.place c.args.word) me c.args.word)
    c.requires.seat c.requires.place c.requires.allowed
