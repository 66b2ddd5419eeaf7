-- The line was taken, and nothing is behind it.
use Rattle.std.proofs.Common.{◌≡◌, Bool, true, false, ◌&&◌, refl, ap, ◌∙◌}
use Rattle.std.specs.Prelude.{nat_le}
use Rattle.tree_check.specs.Staying.{admitted_by}
use Rattle.tree_check.proofs.staying.line_stays.Goals as goal

and_true : (b : Bool) → b ≡ (b && true)
and_true true = refl
and_true false = refl

pub returns-clause-stays : goal.returns-clause-stays
returns-clause-stays c =
    c.is_within.ensures
    ∙ ap (λ s. nat_le (admitted_by s) c.args.limit) (c.take_line.ensures.taken c.args.limit)
    ∙ and_true _

pub returns-clause-after : goal.returns-clause-after
returns-clause-after c = c.take_line.ensures.taken c.args.limit
