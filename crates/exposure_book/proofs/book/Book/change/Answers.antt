use Rattle.std.proofs.Common.{◌≡◌, ◌≤◌, ◌<◌, ◌+◌, ◌++◌, ◌^◌, [], ◌∷◌, ℕ, List, Some, None, nat_eq}
use Rattle.std.proofs.Common.{refl}
use Rattle.std.proofs.Common.{slice_get, set, subst, sym, ap, ◌∙◌, arith, length}
use Rattle.std.proofs.lemmas.Option.{slice_get_within}
use Rattle.std.specs.Cmp.Lexicographic.{pointwise}
use Rattle.indexmap.specs.IndexMap.{get, spare}
use Rattle.exposure_book.specs.declared.order.Order.{Order}
use Rattle.exposure_book.specs.Books.{BookInMemory, firm_sum, with_orders, place_of}
use Rattle.exposure_book.specs.Orders.{worth_of, left_of}
use Rattle.exposure_book.specs.PairTables.{most_exposure}
use Rattle.exposure_book.specs.Totals.{most_left}
use Rattle.exposure_book.proofs.Inserted.{entries-insert}
use Rattle.exposure_book.proofs.Kept.{book_of, pair_has, set_fits, set_capped, next_fits}
use Rattle.exposure_book.proofs.Kept.{kept_set_named}
use Rattle.exposure_book.proofs.Lowered.{left-set}
use Rattle.exposure_book.proofs.book.Book.change.Goals as goal
use Rattle.exposure_book.proofs.book.Book.change.Goals.{After-len-count}

itself : most_left ≤ most_left
itself = omega arith

asked_more : (old next : Order) → next.notional ≡ old.notional → left_of next ≤ most_left
    → worth_of next ≤ worth_of old + most_left
asked_more old next filled left = omega (arith, filled, left)

pub change-requires-clause-has : goal.change-requires-clause-has
change-requires-clause-has c =
    let orders = c.self.inside.orders.items in
    let ids = c.self.inside.ids.entries in
    let table = c.self.inside.table in
    let found : slice_get orders c.args.place ≡ Some c.args.old.now =
    subst (λ (b : BookInMemory). slice_get b.value.orders c.args.place ≡ Some c.args.old.now)
    (sym c.self.view_is) c.requires.order.found in
    let asks = c.requires.asks in
    pair_has orders table c.self.invariant.has c.args.place c.args.old.now c.args.next.now found
    asks.account asks.symbol asks.side

pub change-requires-clause-next : goal.change-requires-clause-next
change-requires-clause-next c =
    let orders = c.self.inside.orders.items in
    let ids = c.self.inside.ids.entries in
    let table = c.self.inside.table in
    let found : slice_get orders c.args.place ≡ Some c.args.old.now =
    subst (λ (b : BookInMemory). slice_get b.value.orders c.args.place ≡ Some c.args.old.now)
    (sym c.self.view_is) c.requires.order.found in
    let asks = c.requires.asks in
    let placed = c.requires.order.placed in
    let left : left_of c.args.next.now ≤ most_left =
    left-set c.args.self.now.value c.args.place c.args.old.now c.args.next.now
    c.requires.order.found asks.account asks.symbol asks.side asks.filled
    (subst (λ n. n < c.args.self.now.value.accounts) (sym asks.account) placed.account)
    (subst (λ n. n < c.args.self.now.value.symbols) (sym asks.symbol) placed.symbol)
    c.requires.order.whole c.requires.capped in
    let less : worth_of c.args.next.now ≤ worth_of c.args.old.now + most_left =
    asked_more c.args.old.now c.args.next.now asks.filled left in
    let after : firm_sum (book_of table (set orders c.args.place c.args.next.now) ids) ≤ most_exposure =
    subst (λ (b : BookInMemory).
    firm_sum (with_orders (set b.value.orders c.args.place c.args.next.now) b.value) ≤ most_exposure)
    (sym c.self.view_is) c.requires.capped in
    next_fits orders ids table c.self.invariant c.args.place c.args.old.now c.args.next.now found
    asks.account asks.symbol asks.side most_left itself less after

pub change-requires-clause-fits : goal.change-requires-clause-fits
change-requires-clause-fits c =
    let orders = c.self.inside.orders.items in
    let ids = c.self.inside.ids.entries in
    let table = c.self.inside.table in
    let found : slice_get orders c.args.place ≡ Some c.args.old.now =
    subst (λ (b : BookInMemory). slice_get b.value.orders c.args.place ≡ Some c.args.old.now)
    (sym c.self.view_is) c.requires.order.found in
    let asks = c.requires.asks in
    let placed = c.requires.order.placed in
    let left : left_of c.args.next.now ≤ most_left =
    left-set c.args.self.now.value c.args.place c.args.old.now c.args.next.now
    c.requires.order.found asks.account asks.symbol asks.side asks.filled
    (subst (λ n. n < c.args.self.now.value.accounts) (sym asks.account) placed.account)
    (subst (λ n. n < c.args.self.now.value.symbols) (sym asks.symbol) placed.symbol)
    c.requires.order.whole c.requires.capped in
    let less : worth_of c.args.next.now ≤ worth_of c.args.old.now + most_left =
    asked_more c.args.old.now c.args.next.now asks.filled left in
    let after : firm_sum (book_of table (set orders c.args.place c.args.next.now) ids) ≤ most_exposure =
    subst (λ (b : BookInMemory).
    firm_sum (with_orders (set b.value.orders c.args.place c.args.next.now) b.value) ≤ most_exposure)
    (sym c.self.view_is) c.requires.capped in
    set_fits orders ids table c.self.invariant c.args.place c.args.old.now c.args.next.now found
    asks.account asks.symbol asks.side most_left itself less after

pub change-requires-clause-capped : goal.change-requires-clause-capped
change-requires-clause-capped c =
    let orders = c.self.inside.orders.items in
    let ids = c.self.inside.ids.entries in
    let table = c.self.inside.table in
    let found : slice_get orders c.args.place ≡ Some c.args.old.now =
    subst (λ (b : BookInMemory). slice_get b.value.orders c.args.place ≡ Some c.args.old.now)
    (sym c.self.view_is) c.requires.order.found in
    let asks = c.requires.asks in
    let placed = c.requires.order.placed in
    let left : left_of c.args.next.now ≤ most_left =
    left-set c.args.self.now.value c.args.place c.args.old.now c.args.next.now
    c.requires.order.found asks.account asks.symbol asks.side asks.filled
    (subst (λ n. n < c.args.self.now.value.accounts) (sym asks.account) placed.account)
    (subst (λ n. n < c.args.self.now.value.symbols) (sym asks.symbol) placed.symbol)
    c.requires.order.whole c.requires.capped in
    let less : worth_of c.args.next.now ≤ worth_of c.args.old.now + most_left =
    asked_more c.args.old.now c.args.next.now asks.filled left in
    let after : firm_sum (book_of table (set orders c.args.place c.args.next.now) ids) ≤ most_exposure =
    subst (λ (b : BookInMemory).
    firm_sum (with_orders (set b.value.orders c.args.place c.args.next.now) b.value) ≤ most_exposure)
    (sym c.self.view_is) c.requires.capped in
    set_capped orders ids table c.self.invariant c.args.place c.args.old.now c.args.next.now found
    asks.account asks.symbol asks.side most_left itself less after

pub index_mut-requires : goal.index_mut-requires
index_mut-requires c =
    let orders = c.self.inside.orders.items in
    let ids = c.self.inside.ids.entries in
    let table = c.self.inside.table in
    let found : slice_get orders c.args.place ≡ Some c.args.old.now =
    subst (λ (b : BookInMemory). slice_get b.value.orders c.args.place ≡ Some c.args.old.now)
    (sym c.self.view_is) c.requires.order.found in
    let within : c.args.place < length orders = slice_get_within orders c.args.place c.args.old.now found in
    let ok = c.self.inside.orders.ok in
    omega arith

inserted : (c : After-len-count) → c.insert-known.new.self.entries
    ≡ c.self.inside.ids.entries ++ (c.args.id.now, c.args.place) ∷ []
inserted c =
    let room = subst (λ (b : BookInMemory). 1 ≤ b.room) (sym c.self.view_is) c.requires.room in
    let spare_one : 0 < spare c.self.inside.ids = omega (arith, room) in
    let new : place_of c.args.id.now c.self.inside.ids.entries ≡ None =
    subst (λ (b : BookInMemory). place_of c.args.id.now b.value.ids ≡ None) (sym c.self.view_is)
    c.requires.new in
    let new_key : get (pointwise nat_eq) c.self.inside.ids c.new.result ≡ None =
    rw c.new.ensures new in
    let put = entries-insert c.self.inside.ids c.insert-known.new.self c.new.result c.args.place
    c.insert-known.result (c.insert-known.ensures.succeeds spare_one) new_key
    c.insert-known.ensures.entries in
    rw c.new.ensures at put

pub invariant_of-self : goal.invariant_of-self
invariant_of-self c =
    let orders = c.self.inside.orders.items in
    let ids = c.self.inside.ids.entries in
    let table = c.self.inside.table in
    let found : slice_get orders c.args.place ≡ Some c.args.old.now =
    subst (λ (b : BookInMemory). slice_get b.value.orders c.args.place ≡ Some c.args.old.now)
    (sym c.self.view_is) c.requires.order.found in
    let asks = c.requires.asks in
    let placed = c.requires.order.placed in
    let left : left_of c.args.next.now ≤ most_left =
    left-set c.args.self.now.value c.args.place c.args.old.now c.args.next.now
    c.requires.order.found asks.account asks.symbol asks.side asks.filled
    (subst (λ n. n < c.args.self.now.value.accounts) (sym asks.account) placed.account)
    (subst (λ n. n < c.args.self.now.value.symbols) (sym asks.symbol) placed.symbol)
    c.requires.order.whole c.requires.capped in
    let less : worth_of c.args.next.now ≤ worth_of c.args.old.now + most_left =
    asked_more c.args.old.now c.args.next.now asks.filled left in
    let after : firm_sum (book_of table (set orders c.args.place c.args.next.now) ids) ≤ most_exposure =
    subst (λ (b : BookInMemory).
    firm_sum (with_orders (set b.value.orders c.args.place c.args.next.now) b.value) ≤ most_exposure)
    (sym c.self.view_is) c.requires.capped in
    let few : length c.insert-known.new.self.entries < 2 ^ 63 =
    subst (λ n. n < 2 ^ 63) c.len-count.ensures.len c.len-count.ensures.small in
    let few_ids = subst (λ (xs : List (List ℕ × ℕ)). length xs < 2 ^ 63) (inserted c) few in
    rw (inserted c, c.change.ensures)
    (kept_set_named orders ids table c.self.invariant c.args.place c.args.old.now c.args.next.now found
    asks.account asks.symbol asks.side most_left itself less after c.args.id.now few_ids)

pub returns-clause-book : goal.returns-clause-book
returns-clause-book c = rw (← c.self.view_is, inserted c, c.change.ensures) refl
