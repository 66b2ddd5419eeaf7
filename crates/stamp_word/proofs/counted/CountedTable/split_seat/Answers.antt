use Rattle.std.proofs.Common.{ap, ◌∙◌, sym, subst, ◌<◌, suc}
use Rattle.atomic_table.specs.Table.{Splits}
use Rattle.stamp_word.proofs.Uncounted.{counted_splits}
use Rattle.stamp_word.proofs.counted.CountedTable.split_seat.Goals as goal

pub split_seat-right-requires : goal.split_seat-right-requires
split_seat-right-requires g c =
    let seat = c.seat.inside.seat in
    let holds = g.R.TableRule.holds in
    let left = g.M.Split.left in
    let right = g.M.Split.right in (
      ap (λ s. s.table_id) c.seat.view_is
          ∙ (c.requires.seat ∙ sym (ap (λ t. t.table_id) c.self.view_is)),
      subst (λ t. 0 < t.table_id.words) (sym c.self.view_is) c.requires.some,
      counted_splits (holds c.self.inside.table.shared.key) seat.id seat.me.0
          (left seat.me.0.0) (right seat.me.0.0) (suc seat.me.0.1) 0
          (subst (λ t. Splits (holds t.key) seat.id seat.me.0.0 (left seat.me.0.0)
          (right seat.me.0.0)) (sym c.self.view_is)
          (subst (λ s. Splits (holds c.args.self.now.key) s.id s.me.0 (left s.me.0)
          (right s.me.0)) (sym c.seat.view_is) c.requires.allowed)),
    )
