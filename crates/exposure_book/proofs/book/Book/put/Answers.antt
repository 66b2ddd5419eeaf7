use Rattle.std.proofs.Common.{◌≡◌, ◌≤◌, ◌<◌, ◌+◌, ℕ, Some, refl, slice_get, set, subst, sym, arith, length}
use Rattle.std.proofs.lemmas.Option.{slice_get_within}
use Rattle.exposure_book.specs.Books.{BookInMemory, firm_sum}
use Rattle.exposure_book.specs.Orders.{worth_of}
use Rattle.exposure_book.specs.PairTables.{most_exposure}
use Rattle.exposure_book.specs.Totals.{most_left}
use Rattle.exposure_book.proofs.Kept.{book_of, firm_capped, pair_has, set_fits, set_capped}
use Rattle.exposure_book.proofs.Kept.{next_fits, kept_set}
use Rattle.exposure_book.proofs.Lowered.{lowered_capped}
use Rattle.exposure_book.proofs.book.Book.put.Goals as goal

no_more : (n m : ℕ) → n ≤ m → n ≤ m + 0
no_more n m h = omega arith

none_left : 0 ≤ most_left
none_left = omega arith

pub change-requires-clause-has : goal.change-requires-clause-has
change-requires-clause-has c =
    let orders = c.self.inside.orders.items in
    let ids = c.self.inside.ids.entries in
    let table = c.self.inside.table in
    let found : slice_get orders c.args.place ≡ Some c.args.old.now =
    subst (λ (b : BookInMemory). slice_get b.value.orders c.args.place ≡ Some c.args.old.now)
    (sym c.self.view_is) c.requires.order.found in
    let low = c.requires.lowers in
    pair_has orders table c.self.invariant.has c.args.place c.args.old.now c.args.next.now found
    low.account low.symbol low.side

pub change-requires-clause-next : goal.change-requires-clause-next
change-requires-clause-next c =
    let orders = c.self.inside.orders.items in
    let ids = c.self.inside.ids.entries in
    let table = c.self.inside.table in
    let found : slice_get orders c.args.place ≡ Some c.args.old.now =
    subst (λ (b : BookInMemory). slice_get b.value.orders c.args.place ≡ Some c.args.old.now)
    (sym c.self.view_is) c.requires.order.found in
    let low = c.requires.lowers in
    let after : firm_sum (book_of table (set orders c.args.place c.args.next.now) ids) ≤ most_exposure =
    lowered_capped (book_of table orders ids) c.args.place c.args.old.now c.args.next.now found low
    (firm_capped orders ids table c.self.invariant) in
    let less : worth_of c.args.next.now ≤ worth_of c.args.old.now + 0 =
    no_more (worth_of c.args.next.now) (worth_of c.args.old.now) low.worth in
    next_fits orders ids table c.self.invariant c.args.place c.args.old.now c.args.next.now found
    low.account low.symbol low.side 0 none_left less after

pub change-requires-clause-fits : goal.change-requires-clause-fits
change-requires-clause-fits c =
    let orders = c.self.inside.orders.items in
    let ids = c.self.inside.ids.entries in
    let table = c.self.inside.table in
    let found : slice_get orders c.args.place ≡ Some c.args.old.now =
    subst (λ (b : BookInMemory). slice_get b.value.orders c.args.place ≡ Some c.args.old.now)
    (sym c.self.view_is) c.requires.order.found in
    let low = c.requires.lowers in
    let after : firm_sum (book_of table (set orders c.args.place c.args.next.now) ids) ≤ most_exposure =
    lowered_capped (book_of table orders ids) c.args.place c.args.old.now c.args.next.now found low
    (firm_capped orders ids table c.self.invariant) in
    let less : worth_of c.args.next.now ≤ worth_of c.args.old.now + 0 =
    no_more (worth_of c.args.next.now) (worth_of c.args.old.now) low.worth in
    set_fits orders ids table c.self.invariant c.args.place c.args.old.now c.args.next.now found
    low.account low.symbol low.side 0 none_left less after

pub change-requires-clause-capped : goal.change-requires-clause-capped
change-requires-clause-capped c =
    let orders = c.self.inside.orders.items in
    let ids = c.self.inside.ids.entries in
    let table = c.self.inside.table in
    let found : slice_get orders c.args.place ≡ Some c.args.old.now =
    subst (λ (b : BookInMemory). slice_get b.value.orders c.args.place ≡ Some c.args.old.now)
    (sym c.self.view_is) c.requires.order.found in
    let low = c.requires.lowers in
    let after : firm_sum (book_of table (set orders c.args.place c.args.next.now) ids) ≤ most_exposure =
    lowered_capped (book_of table orders ids) c.args.place c.args.old.now c.args.next.now found low
    (firm_capped orders ids table c.self.invariant) in
    let less : worth_of c.args.next.now ≤ worth_of c.args.old.now + 0 =
    no_more (worth_of c.args.next.now) (worth_of c.args.old.now) low.worth in
    set_capped orders ids table c.self.invariant c.args.place c.args.old.now c.args.next.now found
    low.account low.symbol low.side 0 none_left less after

pub index_mut-requires : goal.index_mut-requires
index_mut-requires c =
    let orders = c.self.inside.orders.items in
    let ids = c.self.inside.ids.entries in
    let table = c.self.inside.table in
    let found : slice_get orders c.args.place ≡ Some c.args.old.now =
    subst (λ (b : BookInMemory). slice_get b.value.orders c.args.place ≡ Some c.args.old.now)
    (sym c.self.view_is) c.requires.order.found in
    let within : c.args.place < length orders = slice_get_within orders c.args.place c.args.old.now found in
    let ok = c.self.inside.orders.ok in
    omega arith

pub invariant_of-self : goal.invariant_of-self
invariant_of-self c =
    let orders = c.self.inside.orders.items in
    let ids = c.self.inside.ids.entries in
    let table = c.self.inside.table in
    let found : slice_get orders c.args.place ≡ Some c.args.old.now =
    subst (λ (b : BookInMemory). slice_get b.value.orders c.args.place ≡ Some c.args.old.now)
    (sym c.self.view_is) c.requires.order.found in
    let low = c.requires.lowers in
    let after : firm_sum (book_of table (set orders c.args.place c.args.next.now) ids) ≤ most_exposure =
    lowered_capped (book_of table orders ids) c.args.place c.args.old.now c.args.next.now found low
    (firm_capped orders ids table c.self.invariant) in
    let less : worth_of c.args.next.now ≤ worth_of c.args.old.now + 0 =
    no_more (worth_of c.args.next.now) (worth_of c.args.old.now) low.worth in
    rw c.change.ensures (kept_set orders ids table c.self.invariant c.args.place c.args.old.now c.args.next.now found
    low.account low.symbol low.side 0 none_left less after refl)
