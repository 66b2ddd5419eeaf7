use Rattle.std.proofs.Common.{◌≡◌, ◌≤◌, ◌<◌, ◌+◌, ◌++◌, ◌^◌, [], ◌∷◌, length, subst, sym, ap, ◌∙◌}
use Rattle.std.proofs.Common.{arith, refl, None, nat_eq, List, ℕ}
use Rattle.std.specs.Cmp.Lexicographic.{pointwise}
use Rattle.indexmap.specs.IndexMap.{get, spare}
use Rattle.exposure_book.specs.declared.pair_sums.PairSums.{PairSums}
use Rattle.exposure_book.specs.Books.{BookInMemory, firm_sum, with_orders, place_of}
use Rattle.exposure_book.specs.Orders.{worth_of}
use Rattle.exposure_book.specs.Pairs.{all_of, plus}
use Rattle.exposure_book.specs.PairTables.{in_firm, pair_at, with_pair, most_exposure}
use Rattle.exposure_book.specs.Totals.{IsPlaced}
use Rattle.exposure_book.proofs.Inserted.{entries-insert}
use Rattle.exposure_book.proofs.Kept.{book_of, push_fits, push_capped, push_next_fits, kept_push}
use Rattle.exposure_book.proofs.book.Book.add.Goals as goal
use Rattle.exposure_book.proofs.book.Book.add.Goals.{After-push_reserved}

pub with-pair-requires : goal.with-pair-requires
with-pair-requires c =
    let orders = c.self.inside.orders.items in
    let ids = c.self.inside.ids.entries in
    let table = c.self.inside.table in
    let placed = subst (λ (b : BookInMemory).
    IsPlaced b.value.accounts b.value.symbols c.args.next.now) (sym c.self.view_is)
    c.requires.placed in
    let after : firm_sum (book_of table (orders ++ c.args.next.now ∷ []) ids) ≤ most_exposure =
    subst (λ (b : BookInMemory).
    firm_sum (with_orders (b.value.orders ++ c.args.next.now ∷ []) b.value) ≤ most_exposure)
    (sym c.self.view_is) c.requires.capped in
    let next = push_next_fits orders ids table c.self.invariant c.args.next.now placed c.requires.unfilled after in
    let rest = c.pair-rest.ensures.fits in
    omega (arith, next, rest)

pub put-requires-clause-fits : goal.put-requires-clause-fits
put-requires-clause-fits c =
    let orders = c.self.inside.orders.items in
    let ids = c.self.inside.ids.entries in
    let table = c.self.inside.table in
    let placed = subst (λ (b : BookInMemory).
    IsPlaced b.value.accounts b.value.symbols c.args.next.now) (sym c.self.view_is)
    c.requires.placed in
    let after : firm_sum (book_of table (orders ++ c.args.next.now ∷ []) ids) ≤ most_exposure =
    subst (λ (b : BookInMemory).
    firm_sum (with_orders (b.value.orders ++ c.args.next.now ∷ []) b.value) ≤ most_exposure)
    (sym c.self.view_is) c.requires.capped in
    let is = c.with-pair.ensures ∙ ap (plus c.args.next.now) c.pair-rest.ensures.value in
    subst (λ (p : PairSums). all_of p < 2 ^ 120) (sym is) (push_fits orders ids table c.self.invariant c.args.next.now placed c.requires.unfilled after)

pub put-requires-clause-capped : goal.put-requires-clause-capped
put-requires-clause-capped c =
    let orders = c.self.inside.orders.items in
    let ids = c.self.inside.ids.entries in
    let table = c.self.inside.table in
    let placed = subst (λ (b : BookInMemory).
    IsPlaced b.value.accounts b.value.symbols c.args.next.now) (sym c.self.view_is)
    c.requires.placed in
    let after : firm_sum (book_of table (orders ++ c.args.next.now ∷ []) ids) ≤ most_exposure =
    subst (λ (b : BookInMemory).
    firm_sum (with_orders (b.value.orders ++ c.args.next.now ∷ []) b.value) ≤ most_exposure)
    (sym c.self.view_is) c.requires.capped in
    let is = c.with-pair.ensures ∙ ap (plus c.args.next.now) c.pair-rest.ensures.value in
    subst (λ (p : PairSums). in_firm (with_pair c.args.next.now.account c.args.next.now.symbol p table)
    ≤ most_exposure) (sym is) (push_capped orders ids table c.self.invariant c.args.next.now placed c.requires.unfilled after)

inserted : (c : After-push_reserved) → c.insert-known.new.self.entries
    ≡ c.self.inside.ids.entries ++ (c.args.next.now.current, length c.self.inside.orders.items) ∷ []
inserted c =
    let room = subst (λ (b : BookInMemory). 1 ≤ b.room) (sym c.self.view_is) c.requires.room in
    let spare_one : 0 < spare c.self.inside.ids = omega (arith, room) in
    let new : place_of c.args.next.now.current c.self.inside.ids.entries ≡ None =
    subst (λ (b : BookInMemory). place_of c.args.next.now.current b.value.ids ≡ None) (sym c.self.view_is)
    c.requires.new in
    let new_key : get (pointwise nat_eq) c.self.inside.ids c.new.result ≡ None =
    rw c.new.ensures new in
    let put = entries-insert c.self.inside.ids c.insert-known.new.self c.new.result c.len.result
    c.insert-known.result (c.insert-known.ensures.succeeds spare_one) new_key
    c.insert-known.ensures.entries in
    let ok = c.self.inside.orders.ok in
    let len_is : c.len.result ≡ length c.self.inside.orders.items = omega (arith, c.len.ensures) in
    rw (c.new.ensures, len_is) at put

-- the table with the order's pair
put_table : (c : After-push_reserved) → c.put.new.self
    ≡ with_pair c.args.next.now.account c.args.next.now.symbol (plus c.args.next.now
    (pair_at c.self.inside.table c.args.next.now.account c.args.next.now.symbol)) c.self.inside.table
put_table c =
    let is = c.with-pair.ensures ∙ ap (plus c.args.next.now) c.pair-rest.ensures.value in
    c.put.ensures
    ∙ ap (λ (p : PairSums).
    with_pair c.args.next.now.account c.args.next.now.symbol p c.self.inside.table) is

pub invariant_of-self : goal.invariant_of-self
invariant_of-self c =
    let orders = c.self.inside.orders.items in
    let ids = c.self.inside.ids.entries in
    let table = c.self.inside.table in
    let placed = subst (λ (b : BookInMemory).
    IsPlaced b.value.accounts b.value.symbols c.args.next.now) (sym c.self.view_is)
    c.requires.placed in
    let after : firm_sum (book_of table (orders ++ c.args.next.now ∷ []) ids) ≤ most_exposure =
    subst (λ (b : BookInMemory).
    firm_sum (with_orders (b.value.orders ++ c.args.next.now ∷ []) b.value) ≤ most_exposure)
    (sym c.self.view_is) c.requires.capped in
    let few : length c.insert-known.new.self.entries < 2 ^ 63 =
    subst (λ n. n < 2 ^ 63) c.len-count.ensures.len c.len-count.ensures.small in
    let few_ids = subst (λ (xs : List (List ℕ × ℕ)). length xs < 2 ^ 63) (inserted c) few in
    rw (c.push_reserved.ensures.items, inserted c, put_table c)
    (kept_push orders ids table c.self.invariant c.args.next.now placed c.requires.unfilled after
    c.args.next.now.current few_ids)

pub returns-clause-book : goal.returns-clause-book
returns-clause-book c =
    rw (← c.self.view_is, c.push_reserved.ensures.items, inserted c, put_table c) refl
