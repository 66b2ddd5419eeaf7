-- The last term with the id goes, where there is one behind the first.
use Rattle.std.proofs.Common.{sym, ◌∙◌}
use Rattle.cross_guard.proofs.Lasts.{later_at, later_first, later_none}
use Rattle.cross_guard.proofs.resting.take_out_later.Goals as goal

pub returns-then-place-gt0 : goal.returns-then-place-gt0
returns-then-place-gt0 c =
    let last = rw c.deref.ensures.value at c.in-Some.ensures.some in
    c.remove.ensures.items ∙ later_at _ _ _ c.remove.result last c.if-place-gt0.true

pub returns-else-place-gt0 : goal.returns-else-place-gt0
returns-else-place-gt0 c =
    let last = rw c.deref.ensures.value at c.in-Some.ensures.some in
    sym (later_first _ _ _ c.if-place-gt0.false last)

pub returns-in-None : goal.returns-in-None
returns-in-None c =
    let none = rw c.deref.ensures.value at c.in-None.ensures.none in
    sym (later_none _ _ none)
