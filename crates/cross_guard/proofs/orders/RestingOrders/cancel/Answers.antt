-- The last order that is open with the id gets one more, or there is none.
use Rattle.std.proofs.Common.{◌≡◌, sym, ap, ◌∙◌, slice_set}
use Rattle.cross_guard.specs.Resting.{after_cancel, with_id}
use Rattle.cross_guard.proofs.Lasts.{changed_at, changed_none}
use Rattle.cross_guard.proofs.Places.{on_ok}
use Rattle.cross_guard.proofs.orders.RestingOrders.cancel.Goals as goal

pub returns-in-Some-clause-ok : goal.returns-in-Some-clause-ok
returns-in-Some-clause-ok c =
    let last = rw (c.bytes.ensures.same, c.deref.ensures.value) at c.in-Some.ensures.some in
    let old = c.index_mut.result.now in
    let items = c.self.inside.orders.items in
    rw (← c.self.view_is)
    (on_ok c.add_id.result (c.add_id.new.self ≡ with_id c.owned.result old)
    (slice_set items c.in-Some.place c.add_id.new.self ≡ after_cancel c.args.request.now items)
    (λ is. changed_at _ _ items c.in-Some.place c.add_id.new.self old last
    (is ∙ ap (λ i. with_id i old) c.owned.ensures
    ∙ ap (λ o. with_id c.args.request.now.id o) c.index_mut.ensures.value))
    c.add_id.ensures.ok)

pub returns-in-None-clause-ok : goal.returns-in-None-clause-ok
returns-in-None-clause-ok c =
    let none = rw (c.bytes.ensures.same, c.deref.ensures.value) at c.in-None.ensures.none in
    rw (← c.self.view_is) (sym (changed_none _ _ _ none))
