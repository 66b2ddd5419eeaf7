-- Whether all values were lowered tells the effect.
use Rattle.std.proofs.Common.{refl}
use Rattle.order_desk.proofs.settling.post_lower.Goals as goal

pub returns-in-Applied-clause-settled : goal.returns-in-Applied-clause-settled
returns-in-Applied-clause-settled g c = λ book.
    rw (
      c.in-Applied.is,
      c.effect_of.ensures,
      c.lower_all.ensures.acts,
      c.lower_all.ensures.done,
      c.rows_told.ensures,
      c.values_told.ensures,
    )
    refl
