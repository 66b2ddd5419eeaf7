use Rattle.std.proofs.Common.{◌≡◌, ◌<◌, subst, sym, ◌++◌, ◌∷◌, [], ◌∙◌, Err}
use Rattle.exposure_book.specs.declared.answer.BookFault.TheVariants as fault
use Rattle.exposure_book.specs.Books.{BookInMemory, proposal_of, with_orders}
use Rattle.exposure_book.specs.Proposals.{capped}
use Rattle.exposure_book.specs.Totals.{IsPlaced, most_left}
use Rattle.exposure_book.proofs.Kept.{book_of, firm_capped, values_push}
use Rattle.exposure_book.proofs.Lowered.{beyond-push}
use Rattle.exposure_book.proofs.book.Book.values_with_one.Goals as goal

pub returns-then-left-gt-MOST_LEFT-clause-value : goal.returns-then-left-gt-MOST_LEFT-clause-value
returns-then-left-gt-MOST_LEFT-clause-value c =
    let orders = c.self.inside.orders.items in
    let ids = c.self.inside.ids.entries in
    let table = c.self.inside.table in
    let placed = subst (λ (b : BookInMemory).
    IsPlaced b.value.accounts b.value.symbols c.args.next.now) (sym c.self.view_is)
    c.requires.placed in
    let large : most_left < c.left.result = c.if-left-gt-MOST_LEFT.true in
    subst (λ (b : BookInMemory). Err fault.Cap ≡ capped (proposal_of (with_orders
    (b.value.orders ++ c.args.next.now ∷ []) b.value) c.args.next.now.account
    c.args.next.now.symbol)) c.self.view_is
    (beyond-push (book_of table orders ids) c.args.next.now c.requires.unfilled placed.account
    placed.symbol (firm_capped orders ids table c.self.invariant)
    (subst (λ n. most_left < n) c.left.ensures large))

pub returns-clause-value : goal.returns-clause-value
returns-clause-value c =
    let orders = c.self.inside.orders.items in
    let ids = c.self.inside.ids.entries in
    let table = c.self.inside.table in
    let placed = subst (λ (b : BookInMemory).
    IsPlaced b.value.accounts b.value.symbols c.args.next.now) (sym c.self.view_is)
    c.requires.placed in
    let values = values_push orders ids table c.self.invariant.has c.args.next.now placed
    c.pair-rest.result c.with-pair.result c.sums_with.result c.pair-rest.ensures.value
    c.with-pair.ensures c.sums_with.ensures.value in
    subst (λ (b : BookInMemory). c.capped.result ≡ capped (proposal_of (with_orders
    (b.value.orders ++ c.args.next.now ∷ []) b.value) c.args.next.now.account
    c.args.next.now.symbol)) c.self.view_is (c.capped.ensures.value ∙ values)
