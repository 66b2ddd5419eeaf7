-- The last term of the order at its place goes.
use Rattle.std.proofs.Common.{◌∙◌, ap, arith}
use Rattle.cross_guard.specs.Resting.{without_term}
use Rattle.cross_guard.proofs.Undone.{inside_now, undone}
use Rattle.cross_guard.proofs.orders.RestingOrders.take_back.Goals as goal

pub index_mut-requires : goal.index_mut-requires
index_mut-requires c =
    let has = rw (c.in-Term.is, ← c.self.view_is) at c.requires.1 in
    let inside = inside_now c.in-Term.place c.requires.0 c.self.inside.orders.items has in
    omega (arith, inside, c.self.inside.orders.ok)

pub returns-in-Term : goal.returns-in-Term
returns-in-Term c = λ before is.
    let has = rw (c.in-Term.is, ← c.self.view_is) at is in
    undone c.in-Term.place before c.self.inside.orders.items c.index_mut.result.now
    c.drop_term.new.self has (c.drop_term.ensures ∙ ap without_term c.index_mut.ensures.value)
