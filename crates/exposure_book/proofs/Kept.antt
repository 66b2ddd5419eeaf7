-- The table stays that of the orders, as orders are added or changed, and so do its totals.
use Rattle.std.proofs.Common.{◌≡◌, ◌≤◌, ◌<◌, ◌+◌, ◌-◌, ◌*◌, ◌^◌, ◌++◌, ℕ, List, [], ◌∷◌, length}
use Rattle.std.proofs.Common.{Some, slice_get, refl, sym, ap, subst, ◌∙◌, sum_by, ◌⊎◌, inl, inr}
use Rattle.std.proofs.Common.{arith, get_or, set, length-set, length-append, All, IfSome, Bool, true}
use Rattle.std.proofs.Common.{false, cond, eqb, eqb-true, eq-eqb}
use Rattle.std.specs.Prelude.{◌==◌, ◌&&◌}
use Rattle.std.proofs.lemmas.Bool.{cases_Bool, and_parts}
use Rattle.std.proofs.lemmas.List.Sums.{sum_by_push}
use Rattle.std.proofs.lemmas.List.Elements.{All-set, All-push, All-weaker, All-get_or, All-head}
use Rattle.std.proofs.lemmas.List.Elements.{All-tail, All-nil}
use Rattle.std.proofs.lemmas.List.{length-replicate}
use Rattle.std.proofs.lemmas.Option.{slice_get_within, slice_get-get_or}
use Rattle.std.specs.Map.{lookup}
use Rattle.exposure_book.specs.declared.order.Order.{Order}
use Rattle.exposure_book.specs.declared.answer.Proposal.{Proposal}
use Rattle.exposure_book.specs.declared.answer.Terms3.{Terms3}
use Rattle.exposure_book.specs.declared.pair_sums.PairSums.{PairSums}
use Rattle.exposure_book.specs.declared.pair_table.TreeSums.{TreeSums}
use Rattle.exposure_book.specs.Orders.{worth_of, left_of, is_buy}
use Rattle.exposure_book.specs.Pairs.{is_of, pair_of, plus, minus, Has, all_of, exposure_of_pair}
use Rattle.exposure_book.specs.Pairs.{no_sums}
use Rattle.exposure_book.specs.PairTables.{TableValue, pair_at, exposure_at, in_firm, in_account}
use Rattle.exposure_book.specs.PairTables.{in_symbol, sums_at, with_pair, IsPair, most_exposure}
use Rattle.exposure_book.specs.Books.{BookValue, firm_sum, account_sum, symbol_sum, units_up}
use Rattle.exposure_book.specs.Books.{proposal_of, terms_of, pair_exposure}
use Rattle.exposure_book.specs.Proposals.{capped, is_within_cap}
use Rattle.exposure_book.specs.Totals.{HasPairs, AreKept, IsPlaced, IsHeld, most_left}
use Rattle.exposure_book.proofs.Sums.{item_at, part-le-sum, sum-set}
use Rattle.exposure_book.proofs.Pairs.{pair_of-push, pair_of-push_other, pair_of-set, has_order}
use Rattle.exposure_book.proofs.Pairs.{pair_of-set_other, same_pair, all_of-le-sum}
use Rattle.exposure_book.proofs.Lowered.{own_pair, sum-changed, left-push}
use Rattle.exposure_book.proofs.PairTotals.{account-same, symbol-same, all-same, all-none}
use Rattle.exposure_book.proofs.TableKept.{pair_at-own, pair_at-other, fresh, none_at, nothing}

-- the place that a look-up gives is that of an order
pub lookup_within : (test : List ℕ → Bool) (n : ℕ) (ids : List (List ℕ × ℕ))
    → All (λ entry. entry.1 < n) ids
    → IfSome (lookup test ids) (λ place. place < n)
lookup_within test n [] all = tt
lookup_within test n (entry ∷ ids) all =
    by (test entry.0) (lookup_within test n ids (All-tail (λ entry. entry.1 < n) entry ids all))
  where
    by : (b : Bool) → IfSome (lookup test ids) (λ place. place < n)
        → IfSome (cond b (Some entry.1) (lookup test ids)) (λ place. place < n)
    by true rest = All-head (λ entry. entry.1 < n) entry ids all
    by false rest = rest

-- the order that stands at a place
pub order_found : (orders : List Order) (place : ℕ) (o : Order) → place < length orders
    → o ≡ get_or orders place o → slice_get orders place ≡ Some o
order_found orders place o within is =
    slice_get-get_or orders place o within ∙ ap Some (sym is)

-- the book of a table with these orders and ids
abbrev pub book_of : TableValue → List Order → List (List ℕ × ℕ) → BookValue
book_of table orders ids = record {
  accounts = length table.nets;
  symbols = table.symbols;
  nets = table.nets;
  orders = orders;
  ids = ids;
}

-- what is told of an order, with these values of its trees
abbrev pub terms_by : Order → ℕ → ℕ → ℕ → Terms3
terms_by o firm account symbol = record {
  account = o.account;
  symbol = o.symbol;
  firm_value = firm;
  account_value = account;
  symbol_value = symbol;
}

-- the values of the three trees of a pair, by their sums
abbrev pub values_in : TreeSums → Proposal
values_in sums = record {
  firm = units_up sums.firm;
  account = units_up sums.account;
  symbol = units_up sums.symbol;
}

proposal_by : {f f' a a' s s' : ℕ} → f ≡ f' → a ≡ a' → s ≡ s'
    → values_in (record { firm = f; account = a; symbol = s })
    ≡ values_in (record { firm = f'; account = a'; symbol = s' })
proposal_by firm account symbol i =
    values_in (record { firm = firm i; account = account i; symbol = symbol i })

-- the sums of a table that has the pairs of the orders are those from scratch
module _ (orders : List Order) (ids : List (List ℕ × ℕ)) (table : TableValue)
    (has : HasPairs orders table) where
  same : (a s : ℕ) → a < length table.nets → s < table.symbols
      → exposure_at table a s ≡ pair_exposure (book_of table orders ids) a s
  same a s in_accounts in_symbols =
      ap (exposure_of_pair (get_or table.nets a false)) (has.pairs a s in_accounts in_symbols)

  pub firm_is : in_firm table ≡ firm_sum (book_of table orders ids)
  firm_is =
      all-same (length table.nets) table.symbols (pair_exposure (book_of table orders ids))
      (exposure_at table) same

  pub account_is : (a : ℕ) → a < length table.nets
      → in_account table a ≡ account_sum a (book_of table orders ids)
  account_is a inside =
      account-same (length table.nets) table.symbols (pair_exposure (book_of table orders ids))
      (exposure_at table) a (λ s below. same a s inside below)

  pub symbol_is : (s : ℕ) → s < table.symbols
      → in_symbol table s ≡ symbol_sum s (book_of table orders ids)
  symbol_is s inside =
      symbol-same (length table.nets) table.symbols (pair_exposure (book_of table orders ids))
      (exposure_at table) s (λ a below. same a s below inside)

  pub values_are : (a s : ℕ) → IsPair table a s
      → values_in (sums_at table a s) ≡ proposal_of (book_of table orders ids) a s
  values_are a s own = proposal_by firm_is (account_is a own.in_accounts) (symbol_is s own.in_symbols)

  -- an order of the book, and its pair
  pub placed_at : (place : ℕ) (o : Order) → slice_get orders place ≡ Some o
      → IsPlaced (length table.nets) table.symbols o
  placed_at place o found =
      subst (IsPlaced (length table.nets) table.symbols) (item_at orders place o found)
      (All-get_or (IsPlaced (length table.nets) table.symbols) orders place o
      (slice_get_within orders place o found) has.placed)

-- a placed order has a pair
pub pair_of_placed : (table : TableValue) (o : Order)
    → IsPlaced (length table.nets) table.symbols o → IsPair table o.account o.symbol
pair_of_placed table o placed = record { in_accounts = placed.account; in_symbols = placed.symbol }

module _ (orders : List Order) (table : TableValue) (has : HasPairs orders table) where
  shape : length table.pairs ≡ length table.nets * table.symbols
  shape = has.shape

  -- one order more
  module _ (o : Order) (placed : IsPlaced (length table.nets) table.symbols o) where
    abbrev pub added_table : TableValue
    added_table =
        with_pair o.account o.symbol (plus o (pair_at table o.account o.symbol)) table

    added_pairs : (a s : ℕ) → a < length table.nets → s < table.symbols → (own : Bool)
        → is_of a s o ≡ own → pair_at added_table a s ≡ pair_of a s (orders ++ o ∷ [])
    added_pairs a s in_accounts in_symbols true own =
        let both = and_parts (o.account == a) (o.symbol == s) own in
        let account : o.account ≡ a = eqb-true o.account a both.0 in
        let symbol : o.symbol ≡ s = eqb-true o.symbol s both.1 in
        let here = pair_at-own table shape o.account o.symbol (pair_of_placed table o placed)
        (plus o (pair_at table o.account o.symbol)) in
        let was = has.pairs o.account o.symbol placed.account placed.symbol in
        let is = pair_of-push o.account o.symbol orders o (own_pair o) in
        subst (λ n. pair_at added_table n s ≡ pair_of n s (orders ++ o ∷ [])) account
        (subst (λ n. pair_at added_table o.account n ≡ pair_of o.account n (orders ++ o ∷ [])) symbol
        (here ∙ ap (plus o) was ∙ sym is))
    added_pairs a s in_accounts in_symbols false other =
        let apart : a ≡ o.account → s ≡ o.symbol → ⊥ = λ e f.
        not_both (sym other ∙ subst (λ n. is_of n s o ≡ true) (sym e)
        (subst (λ n. is_of o.account n o ≡ true) (sym f) (own_pair o))) in
        pair_at-other table shape o.account o.symbol (pair_of_placed table o placed)
        (plus o (pair_at table o.account o.symbol)) a s in_symbols apart
        ∙ has.pairs a s in_accounts in_symbols
        ∙ sym (pair_of-push_other a s orders o other)
      where
        not_both : false ≡ true → ⊥
        not_both h = cc h

    pub has_push : HasPairs (orders ++ o ∷ []) added_table
    has_push = record {
      shape = length-set table.pairs (o.account * table.symbols + o.symbol) _ ∙ shape;
      pairs = λ a s in_accounts in_symbols.
          added_pairs a s in_accounts in_symbols (is_of a s o) refl;
      placed = All-push (IsPlaced (length table.nets) table.symbols) orders o has.placed placed;
    }

  -- an order takes the place of another, of the same account, symbol and side
  module _ (place : ℕ) (old next : Order) (found : slice_get orders place ≡ Some old)
      (same_account : next.account ≡ old.account) (same_symbol : next.symbol ≡ old.symbol)
      (side : next.side ≡ old.side) where
    old_placed : IsPlaced (length table.nets) table.symbols old
    old_placed = placed_at orders [] table has place old found

    pub next_placed : IsPlaced (length table.nets) table.symbols next
    next_placed = record {
      account = subst (λ n. n < length table.nets) (sym same_account) old_placed.account;
      symbol = subst (λ n. n < table.symbols) (sym same_symbol) old_placed.symbol;
    }

    pub next_pair : IsPair table next.account next.symbol
    next_pair = pair_of_placed table next next_placed

    -- the order that stands there is one of the pair
    next_of_old : is_of next.account next.symbol old ≡ true
    next_of_old =
        sym (same_pair next.account next.symbol old next same_account same_symbol) ∙ own_pair next

    pub pair_has : Has old (pair_at table next.account next.symbol)
    pair_has =
        subst (Has old)
        (sym (has.pairs next.account next.symbol next_placed.account next_placed.symbol))
        (has_order orders place old next found next.account next.symbol next_of_old)

    abbrev pub changed_pair : PairSums
    changed_pair = plus next (minus old (pair_at table next.account next.symbol))

    abbrev pub changed_table : TableValue
    changed_table = with_pair next.account next.symbol changed_pair table

    same_side : is_buy next ≡ is_buy old
    same_side = ap (λ x. x == 49) side

    changed_pairs : (a s : ℕ) → a < length table.nets → s < table.symbols → (own : Bool)
        → is_of a s next ≡ own
        → pair_at changed_table a s ≡ pair_of a s (set orders place next)
    changed_pairs a s in_accounts in_symbols true own =
        let both = and_parts (next.account == a) (next.symbol == s) own in
        let account : next.account ≡ a = eqb-true next.account a both.0 in
        let symbol : next.symbol ≡ s = eqb-true next.symbol s both.1 in
        let here = pair_at-own table shape next.account next.symbol next_pair changed_pair in
        let was = has.pairs next.account next.symbol next_placed.account next_placed.symbol in
        let is = pair_of-set orders place old next found next.account next.symbol next_of_old
        (own_pair next) same_side in
        subst (λ n. pair_at changed_table n s ≡ pair_of n s (set orders place next)) account
        (subst (λ n. pair_at changed_table next.account n
        ≡ pair_of next.account n (set orders place next)) symbol
        (here ∙ ap (λ (p : PairSums). plus next (minus old p)) was ∙ sym is))
    changed_pairs a s in_accounts in_symbols false other =
        let apart : a ≡ next.account → s ≡ next.symbol → ⊥ = λ e f.
        not_both (sym other ∙ subst (λ n. is_of n s next ≡ true) (sym e)
        (subst (λ n. is_of next.account n next ≡ true) (sym f) (own_pair next))) in
        let was = sym (same_pair a s old next same_account same_symbol) ∙ other in
        pair_at-other table shape next.account next.symbol next_pair changed_pair a s in_symbols
        apart
        ∙ has.pairs a s in_accounts in_symbols
        ∙ sym (pair_of-set_other orders place old next found a s was other)
      where
        not_both : false ≡ true → ⊥
        not_both h = cc h

    pub has_set : HasPairs (set orders place next) changed_table
    has_set = record {
      shape = length-set table.pairs (next.account * table.symbols + next.symbol) _ ∙ shape;
      pairs = λ a s in_accounts in_symbols.
          changed_pairs a s in_accounts in_symbols (is_of a s next) refl;
      placed = All-set (IsPlaced (length table.nets) table.symbols) orders place next next_placed
          has.placed;
    }

    -- the values with the order in its place
    pub values_set : (ids : List (List ℕ × ℕ)) (pair : PairSums) (sums : TreeSums)
        → pair ≡ changed_pair
        → sums ≡ sums_at (with_pair next.account next.symbol pair table) next.account next.symbol
        → capped (values_in sums)
        ≡ capped (proposal_of (book_of table (set orders place next) ids) next.account next.symbol)
    values_set ids pair sums is told =
        let at : sums ≡ sums_at changed_table next.account next.symbol =
        told ∙ ap (λ (p : PairSums).
        sums_at (with_pair next.account next.symbol p table) next.account next.symbol) is in
        ap capped (ap values_in at
        ∙ values_are (set orders place next) ids changed_table has_set next.account next.symbol
        (record { in_accounts = next_placed.account; in_symbols = next_placed.symbol }))

    -- the sums of the pair are no more than what all orders count for
    changed_fits : (more : ℕ) → worth_of next ≤ worth_of old + more
        → all_of changed_pair ≤ sum_by worth_of orders + more
    changed_fits more less =
        let all = all_of-le-sum next.account next.symbol (set orders place next) in
        let here = has_set.pairs next.account next.symbol next_placed.account next_placed.symbol in
        let own = pair_at-own table shape next.account next.symbol next_pair changed_pair in
        let sum = sum-changed orders place old next more found less in
        let is : all_of changed_pair ≡ all_of (pair_of next.account next.symbol (set orders place next)) =
        ap all_of (sym own ∙ here) in
        omega (arith, all, sum, is)

    changed_firm : (ids : List (List ℕ × ℕ))
        → firm_sum (book_of table (set orders place next) ids) ≤ most_exposure
        → in_firm changed_table ≤ most_exposure
    changed_firm ids capped =
        subst (λ n. n ≤ most_exposure)
        (sym (firm_is (set orders place next) ids changed_table has_set)) capped

-- the values with one order more
pub values_push : (orders : List Order) (ids : List (List ℕ × ℕ)) (table : TableValue)
    (has : HasPairs orders table) (o : Order) (placed : IsPlaced (length table.nets) table.symbols o)
    (rest pair : PairSums) (sums : TreeSums) → rest ≡ pair_at table o.account o.symbol
    → pair ≡ plus o rest → sums ≡ sums_at (with_pair o.account o.symbol pair table) o.account o.symbol
    → capped (values_in sums)
    ≡ capped (proposal_of (book_of table (orders ++ o ∷ []) ids) o.account o.symbol)
values_push orders ids table has o placed rest pair sums was is told =
    let at : sums ≡ sums_at (added_table orders table has o placed) o.account o.symbol =
    told ∙ ap (λ (p : PairSums). sums_at (with_pair o.account o.symbol p table) o.account o.symbol)
    (is ∙ ap (plus o) was) in
    ap capped (ap values_in at
    ∙ values_are (orders ++ o ∷ []) ids (added_table orders table has o placed)
    (has_push orders table has o placed) o.account o.symbol
    (record { in_accounts = placed.account; in_symbols = placed.symbol }))

-- what is told of an order's trees
pub terms_are : (orders : List Order) (ids : List (List ℕ × ℕ)) (table : TableValue)
    (has : HasPairs orders table) (o : Order) (placed : IsPlaced (length table.nets) table.symbols o)
    (sums : TreeSums) (f a s : ℕ) → sums ≡ sums_at table o.account o.symbol
    → f ≡ units_up sums.firm → a ≡ units_up sums.account → s ≡ units_up sums.symbol
    → terms_by o f a s ≡ terms_of (book_of table orders ids) o
terms_are orders ids table has o placed sums f a s told firm account symbol =
    let firm_now = firm ∙ ap (λ (x : TreeSums). units_up x.firm) told
    ∙ ap units_up (firm_is orders ids table has) in
    let account_now = account ∙ ap (λ (x : TreeSums). units_up x.account) told
    ∙ ap units_up (account_is orders ids table has o.account placed.account) in
    let symbol_now = symbol ∙ ap (λ (x : TreeSums). units_up x.symbol) told
    ∙ ap units_up (symbol_is orders ids table has o.symbol placed.symbol) in
    λ i. terms_by o (firm_now i) (account_now i) (symbol_now i)

-- a book with no order
pub kept_none : (nets : List Bool) (symbols : ℕ) (table : TableValue) → table ≡ fresh nets symbols
    → AreKept [] [] table
kept_none nets symbols table is =
    subst (λ (t : TableValue). AreKept [] [] t) (sym is) (record {
      has = record {
        shape = length-replicate (length nets * symbols) no_sums;
        pairs = λ a s in_accounts in_symbols.
            none_at nets symbols (length nets * symbols) (a * symbols + s);
        placed = All-nil (IsPlaced (length nets) symbols);
      };
      capped = omega (
        arith,
        all-none (length nets) symbols (exposure_at (fresh nets symbols))
            (nothing nets symbols),
      );
      held = omega arith;
      few = omega arith;
      named = All-nil (λ entry. entry.1 < 0);
    })

module _ (orders : List Order) (ids : List (List ℕ × ℕ)) (table : TableValue)
    (kept : AreKept orders ids table) where
  -- what all orders count for is far below what 128 bits hold
  pub orders_fit : sum_by worth_of orders + most_left < 2 ^ 119
  orders_fit = let held = kept.held in let few = kept.few in omega (arith, held, few)

  pub order_fits : (place : ℕ) (o : Order) → slice_get orders place ≡ Some o
      → worth_of o < 2 ^ 120
  order_fits place o found =
      let part = part-le-sum worth_of orders place o found in
      let all = orders_fit in
      omega (arith, part, all)

  pub firm_capped : firm_sum (book_of table orders ids) ≤ most_exposure
  firm_capped =
      subst (λ n. n ≤ most_exposure) (firm_is orders ids table kept.has) kept.capped

  -- an order of the book counts for no more in another's place
  module _ (place : ℕ) (old next : Order) (found : slice_get orders place ≡ Some old)
      (same_account : next.account ≡ old.account) (same_symbol : next.symbol ≡ old.symbol)
      (side : next.side ≡ old.side) (more : ℕ) (small : more ≤ most_left)
      (less : worth_of next ≤ worth_of old + more)
      (capped_after : firm_sum (book_of table (set orders place next) ids) ≤ most_exposure) where
    pub set_fits : all_of (changed_pair orders table kept.has place old next found same_account
        same_symbol side) < 2 ^ 120
    set_fits =
        let all = changed_fits orders table kept.has place old next found same_account same_symbol side
        more less in
        let fit = orders_fit in
        omega (arith, all, fit, small)

    pub next_fits : worth_of next < 2 ^ 124
    next_fits =
        let part = part-le-sum worth_of orders place old found in
        let fit = orders_fit in
        omega (arith, part, fit, small, less)

    pub set_capped : in_firm (changed_table orders table kept.has place old next found same_account
        same_symbol side) ≤ most_exposure
    set_capped =
        changed_firm orders table kept.has place old next found same_account same_symbol side ids
        capped_after

    -- with no id more, or with one
    pub kept_set : more ≡ 0 → AreKept (set orders place next) ids
        (changed_table orders table kept.has place old next found same_account same_symbol side)
    kept_set none = record {
      has = has_set orders table kept.has place old next found same_account same_symbol side;
      capped = set_capped;
      held =
          let sum = sum-changed orders place old next more found less in
          let held = kept.held in
          omega (arith, sum, held, none);
      few = kept.few;
      named = rw length-set kept.named;
    }

    pub kept_set_named : (id : List ℕ) → length (ids ++ (id, place) ∷ []) < 2 ^ 63
        → AreKept (set orders place next) (ids ++ (id, place) ∷ [])
        (changed_table orders table kept.has place old next found same_account same_symbol side)
    kept_set_named id few = record {
      has = has_set orders table kept.has place old next found same_account same_symbol side;
      capped = set_capped;
      held =
          let sum = sum-changed orders place old next more found less in
          let held = kept.held in
          let many : length (ids ++ (id, place) ∷ []) ≡ length ids + 1 =
          length-append ids ((id, place) ∷ []) in
          subst (λ n. sum_by worth_of (set orders place next) ≤ most_left * n) (sym many)
          (omega (arith, sum, held, small));
      few = few;
      named = rw length-set
          (All-push (λ entry. entry.1 < length orders) ids (id, place) kept.named
          (slice_get_within orders place old found));
    }

  -- one order more
  module _ (o : Order) (placed : IsPlaced (length table.nets) table.symbols o)
      (unfilled : o.notional ≡ 0)
      (capped_after : firm_sum (book_of table (orders ++ o ∷ []) ids) ≤ most_exposure) where
    small_left : left_of o ≤ most_left
    small_left =
        left-push (book_of table orders ids) o unfilled placed.account placed.symbol firm_capped
        capped_after

    sum_more : sum_by worth_of (orders ++ o ∷ []) ≤ sum_by worth_of orders + most_left
    sum_more =
        let push = sum_by_push worth_of orders o in
        let left = small_left in
        omega (arith, push, left, unfilled)

    pub push_next_fits : worth_of o < 2 ^ 120
    push_next_fits = let left = small_left in omega (arith, left, unfilled)

    pub push_fits : all_of (plus o (pair_at table o.account o.symbol)) < 2 ^ 120
    push_fits =
        let all = all_of-le-sum o.account o.symbol (orders ++ o ∷ []) in
        let has = has_push orders table kept.has o placed in
        let here = has.pairs o.account o.symbol placed.account placed.symbol in
        let own = pair_at-own table kept.has.shape o.account o.symbol (pair_of_placed table o placed)
        (plus o (pair_at table o.account o.symbol)) in
        let is : all_of (plus o (pair_at table o.account o.symbol))
        ≡ all_of (pair_of o.account o.symbol (orders ++ o ∷ [])) = ap all_of (sym own ∙ here) in
        let sum = sum_more in
        let fit = orders_fit in
        omega (arith, all, is, sum, fit)

    pub push_capped : in_firm (added_table orders table kept.has o placed) ≤ most_exposure
    push_capped =
        subst (λ n. n ≤ most_exposure)
        (sym (firm_is (orders ++ o ∷ []) ids (added_table orders table kept.has o placed)
        (has_push orders table kept.has o placed))) capped_after

    pub kept_push : (id : List ℕ) → length (ids ++ (id, length orders) ∷ []) < 2 ^ 63
        → AreKept (orders ++ o ∷ []) (ids ++ (id, length orders) ∷ [])
        (added_table orders table kept.has o placed)
    kept_push id few = record {
      has = has_push orders table kept.has o placed;
      capped = push_capped;
      held =
          let sum = sum_more in
          let held = kept.held in
          let many : length (ids ++ (id, length orders) ∷ []) ≡ length ids + 1 =
          length-append ids ((id, length orders) ∷ []) in
          subst (λ n. sum_by worth_of (orders ++ o ∷ []) ≤ most_left * n) (sym many)
          (omega (arith, sum, held));
      few = few;
      named =
          let more : length (orders ++ o ∷ []) ≡ length orders + 1 =
          length-append orders (o ∷ []) in
          All-push (λ entry. entry.1 < length (orders ++ o ∷ [])) ids (id, length orders)
          (All-weaker (λ entry. entry.1 < length orders)
          (λ entry. entry.1 < length (orders ++ o ∷ []))
          (λ entry below. omega arith) ids kept.named)
          (omega arith);
    }
