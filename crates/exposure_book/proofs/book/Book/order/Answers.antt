use Rattle.std.proofs.Common.{◌<◌, length, subst, sym}
use Rattle.exposure_book.specs.Books.{BookInMemory}
use Rattle.exposure_book.proofs.Kept.{order_found, placed_at, order_fits, firm_capped}
use Rattle.exposure_book.proofs.book.Book.order.Goals as goal

pub returns : goal.returns
returns c =
    let orders = c.self.inside.orders.items in
    let ids = c.self.inside.ids.entries in
    let table = c.self.inside.table in
    let within : c.args.place < length orders =
    subst (λ (b : BookInMemory). c.args.place < length b.value.orders) (sym c.self.view_is)
    c.requires in
    let found = order_found orders c.args.place c.index.result.now within c.index.ensures in
    rw (← c.self.view_is) (record {
      found = found;
      placed = placed_at orders ids table c.self.invariant.has c.args.place c.index.result.now found;
      fits = order_fits orders ids table c.self.invariant c.args.place c.index.result.now found;
      whole = firm_capped orders ids table c.self.invariant;
    })
