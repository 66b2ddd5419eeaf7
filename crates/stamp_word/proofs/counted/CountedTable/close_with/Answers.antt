use Rattle.std.proofs.Common.{subst}
use Rattle.std.specs.Slots.{slots_items}
use Rattle.atomic_table.specs.Table.{Final, Seen}
use Rattle.stamp_word.proofs.Uncounted.{counted_final}
use Rattle.stamp_word.proofs.counted.CountedTable.close_with.Goals as goal

pub returns-clause-rule : goal.returns-clause-rule
returns-clause-rule g c =
    let seat = c.seat.inside.seat in
    let holds = g.R.TableRule.holds in
    let words = slots_items c.close_with.result.words in
    let slots = slots_items c.close_with.result.slots in
    subst (λ t. Final (Seen (holds t.key) c.args.seat.id c.args.seat.me.0) words slots)
    c.self.view_is
    (subst (λ s. Final (Seen (holds c.self.inside.table.shared.key) s.id s.me.0) words slots)
    c.seat.view_is
    (counted_final (holds c.self.inside.table.shared.key) seat.id seat.me.0 words slots
    c.close_with.ensures.values.2))
