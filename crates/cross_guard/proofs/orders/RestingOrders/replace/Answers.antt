-- The last order that the replace names gets a term, or there is one order more.
use Rattle.std.proofs.Common.{ap, ◌∙◌}
use Rattle.cross_guard.specs.Resting.{with_term, term_of_replace}
use Rattle.cross_guard.proofs.Places.{replaced_at}
use Rattle.cross_guard.proofs.Undone.{has_term}
use Rattle.cross_guard.proofs.orders.RestingOrders.replace.Goals as goal

pub returns-in_ok-add_term-in-Some-clause-ok : goal.returns-in_ok-add_term-in-Some-clause-ok
returns-in_ok-add_term-in-Some-clause-ok c =
    let last = rw c.deref.ensures.value at c.in-Some.ensures.some in
    let old = c.index_mut.result.now in
    let items = c.self.inside.orders.items in
    let request = c.args.request.now in
    rw (← c.self.view_is)
    (replaced_at c.args.symbol request c.args.value items c.in-Some.place c.add_term.new.self old last
    (c.in_ok-add_term-in-Some.ensures.ok
    ∙ ap (λ i. with_term (record { id = i; value = c.args.value; total = request.quantity }) old)
    c.owned.ensures
    ∙ ap (λ o. with_term (term_of_replace request c.args.value) o) c.index_mut.ensures.value))

pub returns-in_ok-add_term-in-Some-clause-added : goal.returns-in_ok-add_term-in-Some-clause-added
returns-in_ok-add_term-in-Some-clause-added c =
    let last = rw c.deref.ensures.value at c.in-Some.ensures.some in
    rw (← c.self.view_is)
    (has_term c.in-Some.place c.self.inside.orders.items c.index_mut.result.now c.add_term.new.self _
    last.inside c.index_mut.ensures.value c.in_ok-add_term-in-Some.ensures.ok)
