use Rattle.std.proofs.Common.{◌≡◌, subst, sym}
use Rattle.exposure_book.specs.Books.{BookInMemory, terms_of}
use Rattle.exposure_book.specs.Totals.{IsPlaced}
use Rattle.exposure_book.proofs.Kept.{terms_are, terms_by}
use Rattle.exposure_book.proofs.book.Book.terms.Goals as goal

pub returns : goal.returns
returns c =
    let orders = c.self.inside.orders.items in
    let ids = c.self.inside.ids.entries in
    let table = c.self.inside.table in
    let placed = subst (λ (b : BookInMemory).
    IsPlaced b.value.accounts b.value.symbols c.args.order.now) (sym c.self.view_is) c.requires in
    subst (λ (b : BookInMemory).
    terms_by c.args.order.now c.units.result c.units-2.result c.units-3.result
    ≡ terms_of b.value c.args.order.now) c.self.view_is
    (terms_are orders ids table c.self.invariant.has c.args.order.now placed c.sums-sums.result
    c.units.result c.units-2.result c.units-3.result c.sums-sums.ensures.value c.units.ensures
    c.units-2.ensures c.units-3.ensures)
