-- Where no term has the id, all stay.
use Rattle.std.proofs.Common.{sym, ◌∙◌}
use Rattle.cross_guard.proofs.Lasts.{from_none}
use Rattle.cross_guard.proofs.resting.keep_from_first.Goals as goal

pub returns-else-has_term : goal.returns-else-has_term
returns-else-has_term c =
    let none = rw c.deref.ensures.value at c.has_term.ensures in
    sym (from_none _ _ (sym none ∙ c.if-has_term.false))
