use Rattle.std.proofs.Common.{ap, ◌∙◌, sym, subst, ◌<◌, suc}
use Rattle.atomic_table.specs.Table.{Joins}
use Rattle.stamp_word.proofs.Uncounted.{counted_joins}
use Rattle.stamp_word.proofs.counted.CountedTable.join_seat.Goals as goal

pub join_seat-requires : goal.join_seat-requires
join_seat-requires g c =
    let seat = c.seat.inside.seat in
    let other = c.other.inside.seat in
    let holds = g.R.TableRule.holds in
    let both = g.M.Join.both in
    let spent = g.M.Join.spent in
    let table = sym (ap (λ t. t.table_id) c.self.view_is) in (
      ap (λ s. s.table_id) c.seat.view_is ∙ (c.requires.seat ∙ table),
      ap (λ s. s.table_id) c.other.view_is ∙ (c.requires.other.0 ∙ table),
      ap (λ s. s.me.1) c.other.view_is ∙ c.requires.other.1,
      subst (λ t. 0 < t.table_id.words) (sym c.self.view_is) c.requires.some,
      counted_joins (holds c.self.inside.table.shared.key) seat.id seat.me.0 other.id other.me.0
          (both seat.me.0.0 other.me.0.0) spent (suc seat.me.0.1) 0
          (subst (λ t. Joins (holds t.key) seat.id seat.me.0.0 other.id other.me.0.0
          (both seat.me.0.0 other.me.0.0) spent) (sym c.self.view_is)
          (subst (λ s. Joins (holds c.args.self.now.key) s.id s.me.0 other.id other.me.0.0
          (both s.me.0 other.me.0.0) spent) (sym c.seat.view_is)
          (subst (λ o. Joins (holds c.args.self.now.key) c.args.seat.now.id c.args.seat.now.me.0
          o.id o.me.0 (both c.args.seat.now.me.0 o.me.0) spent) (sym c.other.view_is)
          c.requires.allowed))),
    )
