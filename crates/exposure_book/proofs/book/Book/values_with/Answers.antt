use Rattle.std.proofs.Common.{◌≡◌, ◌<◌, subst, sym, Some, slice_get, set, ◌∙◌}
use Rattle.exposure_book.specs.Books.{BookInMemory, proposal_of, with_orders}
use Rattle.exposure_book.specs.Proposals.{capped}
use Rattle.exposure_book.specs.Totals.{most_left}
use Rattle.exposure_book.proofs.Kept.{pair_has, values_set}
use Rattle.exposure_book.proofs.Lowered.{beyond-set}
use Rattle.exposure_book.proofs.book.Book.values_with.Goals as goal

pub returns-then-left-gt-MOST_LEFT-clause-value : goal.returns-then-left-gt-MOST_LEFT-clause-value
returns-then-left-gt-MOST_LEFT-clause-value c =
    let book = c.args.self.now.value in
    let asks = c.requires.asks in
    let placed = c.requires.order.placed in
    let large : most_left < c.left.result = c.if-left-gt-MOST_LEFT.true in
    beyond-set book c.args.place c.args.old.now c.args.next.now c.requires.order.found asks.account
    asks.symbol asks.side asks.filled (subst (λ n. n < book.accounts) (sym asks.account) placed.account)
    (subst (λ n. n < book.symbols) (sym asks.symbol) placed.symbol) c.requires.order.whole
    (subst (λ n. most_left < n) c.left.ensures large)

pub changed-pair-requires-clause-has : goal.changed-pair-requires-clause-has
changed-pair-requires-clause-has c =
    let orders = c.self.inside.orders.items in
    let ids = c.self.inside.ids.entries in
    let table = c.self.inside.table in
    let found : slice_get orders c.args.place ≡ Some c.args.old.now =
    subst (λ (b : BookInMemory). slice_get b.value.orders c.args.place ≡ Some c.args.old.now)
    (sym c.self.view_is) c.requires.order.found in
    let asks = c.requires.asks in
    pair_has orders table c.self.invariant.has c.args.place c.args.old.now c.args.next.now found
    asks.account asks.symbol asks.side

pub returns-clause-value : goal.returns-clause-value
returns-clause-value c =
    let orders = c.self.inside.orders.items in
    let ids = c.self.inside.ids.entries in
    let table = c.self.inside.table in
    let found : slice_get orders c.args.place ≡ Some c.args.old.now =
    subst (λ (b : BookInMemory). slice_get b.value.orders c.args.place ≡ Some c.args.old.now)
    (sym c.self.view_is) c.requires.order.found in
    let asks = c.requires.asks in
    let values = values_set orders table c.self.invariant.has c.args.place c.args.old.now
    c.args.next.now found asks.account asks.symbol asks.side ids c.changed-pair.result
    c.sums_with.result c.changed-pair.ensures.value c.sums_with.ensures.value in
    subst (λ (b : BookInMemory). c.capped.result ≡ capped (proposal_of (with_orders
    (set b.value.orders c.args.place c.args.next.now) b.value) c.args.next.now.account
    c.args.next.now.symbol)) c.self.view_is (c.capped.ensures.value ∙ values)
