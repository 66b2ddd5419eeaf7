-- The sums of a pair, as orders are added or changed.
use Rattle.std.proofs.Common.{◌≡◌, ◌≤◌, ◌+◌, ◌-◌, ◌*◌, ◌++◌, ℕ, Bool, true, false, List, [], ◌∷◌}
use Rattle.std.proofs.Common.{Some, slice_get, set, sum_by, refl, sym, ap, subst, ◌∙◌, arith}
use Rattle.std.specs.Prelude.{◌==◌, ◌&&◌}
use Rattle.std.proofs.lemmas.List.Sums.{sum_by_push, sum_by-cons}
use Rattle.exposure_book.specs.declared.order.Order.{Order}
use Rattle.exposure_book.specs.declared.pair_sums.PairSums.{PairSums}
use Rattle.exposure_book.specs.Orders.{left_of, worth_of, is_buy, Lowers}
use Rattle.exposure_book.specs.Pairs.{is_of, of_buy, of_sell, pair_of, all_of, exposure_of_pair}
use Rattle.exposure_book.specs.Pairs.{plus, minus, no_sums, Has}
use Rattle.exposure_book.proofs.Sums.{part-le-sum, sum-set}

-- four sums
abbrev pub sums : ℕ → ℕ → ℕ → ℕ → PairSums
sums bought sold to_buy to_sell = record {
  bought = bought;
  sold = sold;
  to_buy = to_buy;
  to_sell = to_sell;
}

sums_by : {b b' s s' l l' r r' : ℕ} → b ≡ b' → s ≡ s' → l ≡ l' → r ≡ r'
    → sums b s l r ≡ sums b' s' l' r'
sums_by bought sold to_buy to_sell i = sums (bought i) (sold i) (to_buy i) (to_sell i)

-- what an order adds to the sums of buys and to those of sells
module _ (amount : Order → ℕ) (a s : ℕ) (o : Order) where
  pub buy_adds : is_of a s o ≡ true → is_buy o ≡ true
      → (of_buy amount a s o ≡ amount o) × (of_sell amount a s o ≡ 0)
  buy_adds own buys = (rw (own, buys) refl, rw (own, buys) refl)

  pub sell_adds : is_of a s o ≡ true → is_buy o ≡ false
      → (of_buy amount a s o ≡ 0) × (of_sell amount a s o ≡ amount o)
  sell_adds own sells = (rw (own, sells) refl, rw (own, sells) refl)

  pub other_adds : is_of a s o ≡ false
      → (of_buy amount a s o ≡ 0) × (of_sell amount a s o ≡ 0)
  other_adds other = (rw other refl, rw other refl)

-- what was filled of an order
abbrev notional_of : Order → ℕ
notional_of o = o.notional

-- one order more
module _ (a s : ℕ) (orders : List Order) (o : Order) where
  more : (f : Order → ℕ) → sum_by f (orders ++ o ∷ []) ≡ sum_by f orders + f o
  more f = sum_by_push f orders o

  push_by : is_of a s o ≡ true → (buys : Bool) → is_buy o ≡ buys
      → pair_of a s (orders ++ o ∷ []) ≡ plus o (pair_of a s orders)
  push_by own true is =
      let filled = buy_adds notional_of a s o own is in
      let left = buy_adds left_of a s o own is in
      rw is (sums_by (omega (arith, more (of_buy notional_of a s), filled.0)) (omega (arith, more (of_sell notional_of a s), filled.1))
      (omega (arith, more (of_buy left_of a s), left.0)) (omega (arith, more (of_sell left_of a s), left.1)))
  push_by own false is =
      let filled = sell_adds notional_of a s o own is in
      let left = sell_adds left_of a s o own is in
      rw is (sums_by (omega (arith, more (of_buy notional_of a s), filled.0)) (omega (arith, more (of_sell notional_of a s), filled.1))
      (omega (arith, more (of_buy left_of a s), left.0)) (omega (arith, more (of_sell left_of a s), left.1)))

  -- of the pair
  pub pair_of-push : is_of a s o ≡ true
      → pair_of a s (orders ++ o ∷ []) ≡ plus o (pair_of a s orders)
  pair_of-push own = push_by own (is_buy o) refl

  -- of another pair
  pub pair_of-push_other : is_of a s o ≡ false
      → pair_of a s (orders ++ o ∷ []) ≡ pair_of a s orders
  pair_of-push_other other =
      let filled = other_adds notional_of a s o other in
      let left = other_adds left_of a s o other in
      sums_by (omega (arith, more (of_buy notional_of a s), filled.0)) (omega (arith, more (of_sell notional_of a s), filled.1))
      (omega (arith, more (of_buy left_of a s), left.0)) (omega (arith, more (of_sell left_of a s), left.1))

-- a sum with an order in place of another
record Replaced (f : Order → ℕ) (orders : List Order) (place : ℕ) (old new : Order) : Type 0 where
  pub within : f old ≤ sum_by f orders
  pub is : sum_by f (set orders place new) ≡ sum_by f orders - f old + f new

-- an order takes the place of another
module _ (orders : List Order) (place : ℕ) (old new : Order)
    (found : slice_get orders place ≡ Some old) where
  replaced : (f : Order → ℕ) → Replaced f orders place old new
  replaced f = record {
    within = part-le-sum f orders place old found;
    is = sum-set f orders place old found new;
  }

  -- of the pair and of the same side
  module _ (a s : ℕ) (own : is_of a s old ≡ true) where
    has_by : (buys : Bool) → is_buy old ≡ buys → Has old (pair_of a s orders)
    has_by true is =
        let filled = buy_adds notional_of a s old own is in
        let left = buy_adds left_of a s old own is in
        let fill = (replaced (of_buy notional_of a s)).within in
        let rest = (replaced (of_buy left_of a s)).within in
        rw is (omega (arith, filled.0, fill), omega (arith, left.0, rest))
    has_by false is =
        let filled = sell_adds notional_of a s old own is in
        let left = sell_adds left_of a s old own is in
        let fill = (replaced (of_sell notional_of a s)).within in
        let rest = (replaced (of_sell left_of a s)).within in
        rw is (omega (arith, filled.1, fill), omega (arith, left.1, rest))

    -- the pair has the order
    pub has_order : Has old (pair_of a s orders)
    has_order = has_by (is_buy old) refl

    module _ (same : is_of a s new ≡ true) where
      set_by : (buys : Bool) → is_buy old ≡ buys → is_buy new ≡ buys
          → pair_of a s (set orders place new) ≡ plus new (minus old (pair_of a s orders))
      set_by true was is =
          let n = buy_adds notional_of a s old own was in
          let l = buy_adds left_of a s old own was in
          let m = buy_adds notional_of a s new same is in
          let k = buy_adds left_of a s new same is in
          let bought = (replaced (of_buy notional_of a s)).is in
          let sold = (replaced (of_sell notional_of a s)).is in
          let to_buy = (replaced (of_buy left_of a s)).is in
          let to_sell = (replaced (of_sell left_of a s)).is in
          rw (was, is) (sums_by (rw (n.0, m.0) at bought) (omega (arith, sold, n.1, m.1))
          (rw (l.0, k.0) at to_buy) (omega (arith, to_sell, l.1, k.1)))
      set_by false was is =
          let n = sell_adds notional_of a s old own was in
          let l = sell_adds left_of a s old own was in
          let m = sell_adds notional_of a s new same is in
          let k = sell_adds left_of a s new same is in
          let bought = (replaced (of_buy notional_of a s)).is in
          let sold = (replaced (of_sell notional_of a s)).is in
          let to_buy = (replaced (of_buy left_of a s)).is in
          let to_sell = (replaced (of_sell left_of a s)).is in
          rw (was, is) (sums_by (omega (arith, bought, n.0, m.0)) (rw (n.1, m.1) at sold)
          (omega (arith, to_buy, l.0, k.0)) (rw (l.1, k.1) at to_sell))

      pub pair_of-set : is_buy new ≡ is_buy old
          → pair_of a s (set orders place new) ≡ plus new (minus old (pair_of a s orders))
      pair_of-set side = set_by (is_buy old) refl side

  -- of another pair
  pub pair_of-set_other : (a s : ℕ) → is_of a s old ≡ false → is_of a s new ≡ false
      → pair_of a s (set orders place new) ≡ pair_of a s orders
  pair_of-set_other a s was is =
      let n = other_adds notional_of a s old was in
      let l = other_adds left_of a s old was in
      let m = other_adds notional_of a s new is in
      let k = other_adds left_of a s new is in
      sums_by (omega (arith, (replaced (of_buy notional_of a s)).is, n.0, m.0))
      (omega (arith, (replaced (of_sell notional_of a s)).is, n.1, m.1))
      (omega (arith, (replaced (of_buy left_of a s)).is, l.0, k.0))
      (omega (arith, (replaced (of_sell left_of a s)).is, l.1, k.1))

-- what was filled and what is left of the buys is replaced, so that no more of it counts and no fill is
-- taken back
buys_lower : (net : Bool) (b s l r b' l' n k m j : ℕ) → b' + n ≡ b + m → l' + k ≡ l + j → n ≤ m
    → m + j ≤ n + k
    → exposure_of_pair net (sums b' s l' r) ≤ exposure_of_pair net (sums b s l r)
buys_lower true b s l r b' l' n k m j filled left more less = omega arith
buys_lower false b s l r b' l' n k m j filled left more less = omega arith

-- the same of the sells
sells_lower : (net : Bool) (b s l r s' r' n k m j : ℕ) → s' + n ≡ s + m → r' + k ≡ r + j → n ≤ m
    → m + j ≤ n + k
    → exposure_of_pair net (sums b s' l r') ≤ exposure_of_pair net (sums b s l r)
sells_lower true b s l r s' r' n k m j filled left more less = omega arith
sells_lower false b s l r s' r' n k m j filled left more less = omega arith

-- a pair with one of its orders replaced by one that counts for no more
replaced_lowers : (net : Bool) (pair : PairSums) (old new : Order) (buys : Bool) → is_buy old ≡ buys
    → is_buy new ≡ buys → Has old pair → old.notional ≤ new.notional
    → worth_of new ≤ worth_of old
    → exposure_of_pair net (plus new (minus old pair)) ≤ exposure_of_pair net pair
replaced_lowers net pair old new true was is has filled less =
    let within = rw was at has in
    rw (was, is) (buys_lower net pair.bought pair.sold pair.to_buy pair.to_sell
    (pair.bought - old.notional + new.notional) (pair.to_buy - left_of old + left_of new)
    old.notional (left_of old) new.notional (left_of new) (omega (arith, within.0))
    (omega (arith, within.1)) filled less)
replaced_lowers net pair old new false was is has filled less =
    let within = rw was at has in
    rw (was, is) (sells_lower net pair.bought pair.sold pair.to_buy pair.to_sell
    (pair.sold - old.notional + new.notional) (pair.to_sell - left_of old + left_of new)
    old.notional (left_of old) new.notional (left_of new) (omega (arith, within.0))
    (omega (arith, within.1)) filled less)

-- a pair with one of its orders replaced by one that counts for no less
replaced_raises : (net : Bool) (pair : PairSums) (old new : Order) (buys : Bool) → is_buy old ≡ buys
    → is_buy new ≡ buys → Has old pair → new.notional ≤ old.notional
    → worth_of old ≤ worth_of new
    → exposure_of_pair net pair ≤ exposure_of_pair net (plus new (minus old pair))
replaced_raises net pair old new true was is has filled less =
    let within = rw was at has in
    rw (was, is) (buys_lower net (pair.bought - old.notional + new.notional) pair.sold
    (pair.to_buy - left_of old + left_of new) pair.to_sell pair.bought pair.to_buy
    new.notional (left_of new) old.notional (left_of old) (omega (arith, within.0))
    (omega (arith, within.1)) filled less)
replaced_raises net pair old new false was is has filled less =
    let within = rw was at has in
    rw (was, is) (sells_lower net pair.bought (pair.sold - old.notional + new.notional)
    pair.to_buy (pair.to_sell - left_of old + left_of new) pair.sold pair.to_sell
    new.notional (left_of new) old.notional (left_of old) (omega (arith, within.0))
    (omega (arith, within.1)) filled less)

-- an order of the same account and symbol is of the same pairs
pub same_pair : (a s : ℕ) (old new : Order) → new.account ≡ old.account → new.symbol ≡ old.symbol
    → is_of a s new ≡ is_of a s old
same_pair a s old new account symbol =
    ap (λ x. (x == a) && (new.symbol == s)) account
    ∙ ap (λ y. (old.account == a) && (y == s)) symbol

-- an order takes the place of another, of the same account, symbol and side
module _ (orders : List Order) (place : ℕ) (old new : Order)
    (found : slice_get orders place ≡ Some old) (account : new.account ≡ old.account)
    (symbol : new.symbol ≡ old.symbol) (side : new.side ≡ old.side) (net : Bool) (a s : ℕ) where
  same_side : is_buy new ≡ is_buy old
  same_side = ap (λ x. x == 49) side

  lowers_by : (own : Bool) → is_of a s old ≡ own → old.notional ≤ new.notional
      → worth_of new ≤ worth_of old
      → exposure_of_pair net (pair_of a s (set orders place new))
      ≤ exposure_of_pair net (pair_of a s orders)
  lowers_by true own filled less =
      let same = same_pair a s old new account symbol ∙ own in
      subst (λ (p : PairSums). exposure_of_pair net p ≤ exposure_of_pair net (pair_of a s orders))
      (sym (pair_of-set orders place old new found a s own same same_side))
      (replaced_lowers net (pair_of a s orders) old new (is_buy old) refl same_side
      (has_order orders place old new found a s own) filled less)
  lowers_by false other filled less =
      let same = same_pair a s old new account symbol ∙ other in
      subst (λ (p : PairSums). exposure_of_pair net p ≤ exposure_of_pair net (pair_of a s orders))
      (sym (pair_of-set_other orders place old new found a s other same)) (omega arith)

  raises_by : (own : Bool) → is_of a s old ≡ own → new.notional ≤ old.notional
      → worth_of old ≤ worth_of new
      → exposure_of_pair net (pair_of a s orders)
      ≤ exposure_of_pair net (pair_of a s (set orders place new))
  raises_by true own filled less =
      let same = same_pair a s old new account symbol ∙ own in
      subst (λ (p : PairSums). exposure_of_pair net (pair_of a s orders) ≤ exposure_of_pair net p)
      (sym (pair_of-set orders place old new found a s own same same_side))
      (replaced_raises net (pair_of a s orders) old new (is_buy old) refl same_side
      (has_order orders place old new found a s own) filled less)
  raises_by false other filled less =
      let same = same_pair a s old new account symbol ∙ other in
      subst (λ (p : PairSums). exposure_of_pair net (pair_of a s orders) ≤ exposure_of_pair net p)
      (sym (pair_of-set_other orders place old new found a s other same)) (omega arith)

  -- that counts for no more
  pub exposure-set_le : old.notional ≤ new.notional → worth_of new ≤ worth_of old
      → exposure_of_pair net (pair_of a s (set orders place new))
      ≤ exposure_of_pair net (pair_of a s orders)
  exposure-set_le filled less = lowers_by (is_of a s old) refl filled less

  -- that counts for no less
  pub exposure-set_ge : new.notional ≤ old.notional → worth_of old ≤ worth_of new
      → exposure_of_pair net (pair_of a s orders)
      ≤ exposure_of_pair net (pair_of a s (set orders place new))
  exposure-set_ge filled less = raises_by (is_of a s old) refl filled less

-- one order more, of which nothing is filled
module _ (orders : List Order) (o : Order) (unfilled : o.notional ≡ 0) (net : Bool) (a s : ℕ) where
  plus_raises : (pair : PairSums) (buys : Bool) → is_buy o ≡ buys
      → exposure_of_pair net pair ≤ exposure_of_pair net (plus o pair)
  plus_raises pair true is = rw is (by net)
    where
      by : (own : Bool) → exposure_of_pair own pair ≤ exposure_of_pair own
          (sums (pair.bought + o.notional) pair.sold (pair.to_buy + left_of o) pair.to_sell)
      by true = omega (arith, unfilled)
      by false = omega arith
  plus_raises pair false is = rw is (by net)
    where
      by : (own : Bool) → exposure_of_pair own pair ≤ exposure_of_pair own
          (sums pair.bought (pair.sold + o.notional) pair.to_buy (pair.to_sell + left_of o))
      by true = omega (arith, unfilled)
      by false = omega arith

  push_raises : (own : Bool) → is_of a s o ≡ own
      → exposure_of_pair net (pair_of a s orders)
      ≤ exposure_of_pair net (pair_of a s (orders ++ o ∷ []))
  push_raises true own =
      subst (λ (p : PairSums). exposure_of_pair net (pair_of a s orders) ≤ exposure_of_pair net p)
      (sym (pair_of-push a s orders o own)) (plus_raises (pair_of a s orders) (is_buy o) refl)
  push_raises false other =
      subst (λ (p : PairSums). exposure_of_pair net (pair_of a s orders) ≤ exposure_of_pair net p)
      (sym (pair_of-push_other a s orders o other)) (omega arith)

  -- counts for no less
  pub exposure-push_le : exposure_of_pair net (pair_of a s orders)
      ≤ exposure_of_pair net (pair_of a s (orders ++ o ∷ []))
  exposure-push_le = push_raises (is_of a s o) refl

-- no exposure is more than all that its pair comes to
pub exposure-le-all : (net : Bool) (pair : PairSums) → exposure_of_pair net pair ≤ all_of pair
exposure-le-all true pair = omega arith
exposure-le-all false pair = omega arith

-- one order more adds no more to a pair than it counts for
module _ (a s : ℕ) (o : Order) (orders : List Order)
    (rest : all_of (pair_of a s orders) ≤ sum_by worth_of orders) where
  add_all : (n m l k : ℕ) → of_buy notional_of a s o ≡ n → of_sell notional_of a s o ≡ m
      → of_buy left_of a s o ≡ l → of_sell left_of a s o ≡ k → n + m + l + k ≤ worth_of o
      → all_of (pair_of a s (o ∷ orders)) ≤ sum_by worth_of (o ∷ orders)
  add_all n m l k bought sold to_buy to_sell few =
      omega (
        arith,
        rest,
        bought,
        sold,
        to_buy,
        to_sell,
        few,
        sum_by-cons (of_buy notional_of a s) o orders,
        sum_by-cons (of_sell notional_of a s) o orders,
        sum_by-cons (of_buy left_of a s) o orders,
        sum_by-cons (of_sell left_of a s) o orders,
        sum_by-cons worth_of o orders,
      )

  add_by : (own : Bool) → is_of a s o ≡ own → (buys : Bool) → is_buy o ≡ buys
      → all_of (pair_of a s (o ∷ orders)) ≤ sum_by worth_of (o ∷ orders)
  add_by true own true is =
      let n = buy_adds notional_of a s o own is in
      let l = buy_adds left_of a s o own is in
      add_all o.notional 0 (left_of o) 0 n.0 n.1 l.0 l.1 (omega arith)
  add_by true own false is =
      let n = sell_adds notional_of a s o own is in
      let l = sell_adds left_of a s o own is in
      add_all 0 o.notional 0 (left_of o) n.0 n.1 l.0 l.1 (omega arith)
  add_by false other buys is =
      let n = other_adds notional_of a s o other in
      let l = other_adds left_of a s o other in
      add_all 0 0 0 0 n.0 n.1 l.0 l.1 (omega arith)

-- a pair has no more than all orders count for
pub all_of-le-sum : (a s : ℕ) (orders : List Order)
    → all_of (pair_of a s orders) ≤ sum_by worth_of orders
all_of-le-sum a s [] = omega arith
all_of-le-sum a s (o ∷ orders) =
    add_by a s o orders (all_of-le-sum a s orders) (is_of a s o) refl (is_buy o) refl

-- the largest reserve of an order whose pair stays within a most: what was sold is at most so much more
-- than what was bought, and the other way round
near_buys : (net : Bool) (b s l r l' most : ℕ) → exposure_of_pair net (sums b s l r) ≤ most
    → exposure_of_pair net (sums b s l' r) ≤ most → l' ≤ 2 * most
near_buys true b s l r l' most was is = omega arith
near_buys false b s l r l' most was is = omega arith

near_sells : (net : Bool) (b s l r r' most : ℕ) → exposure_of_pair net (sums b s l r) ≤ most
    → exposure_of_pair net (sums b s l r') ≤ most → r' ≤ 2 * most
near_sells true b s l r r' most was is = omega arith
near_sells false b s l r r' most was is = omega arith

-- an order with other terms
pub replaced_left : (net : Bool) (pair : PairSums) (old new : Order) (most : ℕ) (buys : Bool)
    → is_buy old ≡ buys → is_buy new ≡ buys → Has old pair → new.notional ≡ old.notional
    → exposure_of_pair net pair ≤ most
    → exposure_of_pair net (plus new (minus old pair)) ≤ most → left_of new ≤ 2 * most
replaced_left net pair old new most true was is has filled before after =
    let within = rw was at has in
    let same : pair.bought - old.notional + new.notional ≡ pair.bought =
    omega (arith, within.0, filled) in
    let now : exposure_of_pair net (sums (pair.bought - old.notional + new.notional) pair.sold
    (pair.to_buy - left_of old + left_of new) pair.to_sell) ≤ most = rw (was, is) at after in
    let near = near_buys net pair.bought pair.sold pair.to_buy pair.to_sell
    (pair.to_buy - left_of old + left_of new) most before
    (subst (λ n. exposure_of_pair net (sums n pair.sold
    (pair.to_buy - left_of old + left_of new) pair.to_sell) ≤ most) same now) in
    omega (arith, near)
replaced_left net pair old new most false was is has filled before after =
    let within = rw was at has in
    let same : pair.sold - old.notional + new.notional ≡ pair.sold =
    omega (arith, within.0, filled) in
    let now : exposure_of_pair net (sums pair.bought (pair.sold - old.notional + new.notional)
    pair.to_buy (pair.to_sell - left_of old + left_of new)) ≤ most = rw (was, is) at after in
    let near = near_sells net pair.bought pair.sold pair.to_buy pair.to_sell
    (pair.to_sell - left_of old + left_of new) most before
    (subst (λ n. exposure_of_pair net (sums pair.bought n pair.to_buy
    (pair.to_sell - left_of old + left_of new)) ≤ most) same now) in
    omega (arith, near)

-- an order more, of which nothing is filled
pub added_left : (net : Bool) (pair : PairSums) (new : Order) (most : ℕ) (buys : Bool)
    → is_buy new ≡ buys → new.notional ≡ 0 → exposure_of_pair net pair ≤ most
    → exposure_of_pair net (plus new pair) ≤ most → left_of new ≤ 2 * most
added_left net pair new most true is filled before after =
    let same : pair.bought + new.notional ≡ pair.bought = omega (arith, filled) in
    let now : exposure_of_pair net (sums (pair.bought + new.notional) pair.sold
    (pair.to_buy + left_of new) pair.to_sell) ≤ most = rw is at after in
    let near = near_buys net pair.bought pair.sold pair.to_buy pair.to_sell
    (pair.to_buy + left_of new) most before
    (subst (λ n. exposure_of_pair net (sums n pair.sold
    (pair.to_buy + left_of new) pair.to_sell) ≤ most) same now) in
    omega (arith, near)
added_left net pair new most false is filled before after =
    let same : pair.sold + new.notional ≡ pair.sold = omega (arith, filled) in
    let now : exposure_of_pair net (sums pair.bought (pair.sold + new.notional)
    pair.to_buy (pair.to_sell + left_of new)) ≤ most = rw is at after in
    let near = near_sells net pair.bought pair.sold pair.to_buy pair.to_sell
    (pair.to_sell + left_of new) most before
    (subst (λ n. exposure_of_pair net (sums pair.bought n pair.to_buy
    (pair.to_sell + left_of new)) ≤ most) same now) in
    omega (arith, near)
