-- The last order that is open with the id is changed, or there is none.
use Rattle.std.proofs.Common.{sym, ap, ◌∙◌}
use Rattle.std.specs.Prelude.{Some}
use Rattle.cross_guard.specs.Resting.{RestingValue, reported}
use Rattle.cross_guard.proofs.Lasts.{changed_at, changed_none}
use Rattle.cross_guard.proofs.Places.{open_last, symbol_at, symbol_none}
use Rattle.cross_guard.proofs.orders.RestingOrders.report.Goals as goal

pub report-requires : goal.report-requires
report-requires c =
    let last = rw (c.bytes.ensures.same, c.deref.ensures.value) at c.in-Some.ensures.some in
    open_last _ _ _ c.index_mut-order.result.now last c.index_mut-order.ensures.value

pub returns-in-Some-clause-orders : goal.returns-in-Some-clause-orders
returns-in-Some-clause-orders c =
    let last = rw (c.bytes.ensures.same, c.deref.ensures.value) at c.in-Some.ensures.some in
    let old = c.index_mut-order.result.now in
    rw (← c.self.view_is)
    (changed_at _ _ c.self.inside.orders.items c.in-Some.place c.report.new.self old last
    (c.report.ensures ∙ ap (λ i. reported i c.args.exec old) c.bytes-in-Some.ensures.same
    ∙ ap (reported c.args.id.now c.args.exec) c.index_mut-order.ensures.value))

pub returns-in-Some-clause-symbol : goal.returns-in-Some-clause-symbol
returns-in-Some-clause-symbol c =
    let last = rw (c.bytes.ensures.same, c.deref.ensures.value) at c.in-Some.ensures.some in
    let old = c.index_mut-order.result.now in
    rw (← c.self.view_is)
    (ap Some c.symbol-tree.ensures
    ∙ ap (λ (o : RestingValue). Some o.symbol) c.index_mut-order.ensures.value
    ∙ symbol_at _ c.self.inside.orders.items c.in-Some.place old last)

pub returns-in-None-clause-orders : goal.returns-in-None-clause-orders
returns-in-None-clause-orders c =
    let none = rw (c.bytes.ensures.same, c.deref.ensures.value) at c.in-None.ensures.none in
    rw (← c.self.view_is) (sym (changed_none _ _ _ none))

pub returns-in-None-clause-symbol : goal.returns-in-None-clause-symbol
returns-in-None-clause-symbol c =
    let none = rw (c.bytes.ensures.same, c.deref.ensures.value) at c.in-None.ensures.none in
    rw (← c.self.view_is) (symbol_none c.args.id.now c.self.inside.orders.items none)
