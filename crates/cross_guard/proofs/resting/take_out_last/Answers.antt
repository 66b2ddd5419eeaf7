-- The last term with the id goes, where there is one.
use Rattle.std.proofs.Common.{sym, ◌∙◌}
use Rattle.cross_guard.proofs.Lasts.{without_at, without_none}
use Rattle.cross_guard.proofs.resting.take_out_last.Goals as goal

pub returns-in-Some : goal.returns-in-Some
returns-in-Some c =
    let last = rw c.deref.ensures.value at c.in-Some.ensures.some in
    c.remove.ensures.items ∙ without_at _ _ _ c.remove.result last

pub returns-in-None : goal.returns-in-None
returns-in-None c =
    let none = rw c.deref.ensures.value at c.in-None.ensures.none in
    sym (without_none _ _ none)
