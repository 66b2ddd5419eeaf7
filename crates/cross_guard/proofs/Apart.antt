-- A buy of a lower level than a sell has a lower price.
use Rattle.std.proofs.Common.{◌≡◌, ◌≢◌, ℕ, suc, ◌+◌, ◌-◌, ◌*◌, ◌/◌, ◌≤◌, ◌<◌, arith, Bool, true, false}
use Rattle.std.proofs.Common.{cond, refl, subst}
use Rattle.std.specs.Prelude.{◌==◌, nat_lt, ◌||◌}
use Rattle.std.specs.Int.{div_ceil}
use Rattle.std.proofs.lemmas.Grind.{div_ceil_times}
use Rattle.std.proofs.lemmas.Bool.{ltb-false, ltb-true, ne_eqb}
use Rattle.std.proofs.Math.Nat.{mul-le-mul_right, div-mul-le_self}
use Rattle.fix_orders.specs.declared.message.OrderKind.{OrderKind}
use Rattle.fix_orders.specs.declared.message.OrderKind.TheVariants.{Market, Limit}
use Rattle.limit_table.specs.declared.kind.SymbolRow.{SymbolRow}
use Rattle.cross_guard.specs.declared.cross.TheConstants.{HALF}
use Rattle.cross_guard.specs.declared.level.TheConstants.{TOP, BUY}
use Rattle.cross_guard.specs.Halves.{upper, lower, cross_le, is_clear}
use Rattle.cross_guard.specs.HalvesLaws.{le-halves}
use Rattle.cross_guard.specs.Levels.{step_of, level_of, value_of_order}
use Rattle.cross_guard.specs.Laws.{PricedOrder, AreOpposed, AreApart, IsCovered}
use Rattle.cross_guard.proofs.LevelBounds.{level_most, level_some, step_some}

-- both kinds are limits, and the one price is below the other
abbrev PricesApart : OrderKind → ℕ → OrderKind → ℕ → Type 0
PricesApart buy_kind buy sell_kind sell = (buy_kind ≡ Limit) × (sell_kind ≡ Limit) × (buy < sell)

-- of a value with both halves that is clear they are together below HALF
sum_below : (p q P Q : ℕ) → 1 ≤ p → 1 ≤ q → p ≤ P → q ≤ Q
    → (P == 0 || (Q == 0 || nat_lt (P + Q) HALF)) ≡ true → p + q < HALF
sum_below p q P Q some some_too one two clear = grind arith

-- prices within the collars
inner_apart : (row : SymbolRow) (buy sell : ℕ)
    → 1 + div_ceil (buy - row.low) (step_of row) < 1 + (sell - row.low) / step_of row → buy < sell
inner_apart row buy sell less =
    let u : ℕ = step_of row in
    let c : ℕ = div_ceil (buy - row.low) u in
    let d : ℕ = (sell - row.low) / u in
    let over : suc c ≤ d = omega arith in
    let times = mul-le-mul_right u over in
    let bounds = div_ceil_times (buy - row.low) u (step_some row) in
    let under = div-mul-le_self (sell - row.low) u in
    let some = step_some row in
    omega (arith, times, bounds.0, under, some)

-- a sell by where its price stands
sell_level : SymbolRow → ℕ → Bool → Bool → ℕ
sell_level row sell under over =
    cond under 1 (cond over TOP (1 + (sell - row.low) / step_of row))

buy_level : SymbolRow → ℕ → Bool → Bool → ℕ
buy_level row buy under over =
    cond under 1 (cond over TOP (1 + div_ceil (buy - row.low) (step_of row)))

prices_apart : (row : SymbolRow) (buy sell : ℕ) (bu bo su so : Bool) → row.low ≤ row.high
    → nat_lt buy row.low ≡ bu → nat_lt row.high buy ≡ bo
    → nat_lt sell row.low ≡ su → nat_lt row.high sell ≡ so
    → cond bu 1 (cond bo TOP (1 + div_ceil (buy - row.low) (step_of row)))
    < cond su 1 (cond so TOP (1 + (sell - row.low) / step_of row))
    → cond su 1 (cond so TOP (1 + (sell - row.low) / step_of row)) ≤ TOP
    → 1 ≤ cond bu 1 (cond bo TOP (1 + div_ceil (buy - row.low) (step_of row)))
    → buy < sell
prices_apart row buy sell bu bo true so band b1 b2 s1 s2 less most some = absurd (omega arith)
prices_apart row buy sell true bo false true band b1 b2 s1 s2 less most some =
    let below : buy < row.low = ltb-true _ _ b1 in
    let above : row.high < sell = ltb-true _ _ s2 in omega arith
prices_apart row buy sell true bo false false band b1 b2 s1 s2 less most some =
    let below : buy < row.low = ltb-true _ _ b1 in
    let within : row.low ≤ sell = ltb-false _ _ s1 in omega arith
prices_apart row buy sell false true false so band b1 b2 s1 s2 less most some = absurd (omega arith)
prices_apart row buy sell false false false true band b1 b2 s1 s2 less most some =
    let within : buy ≤ row.high = ltb-false _ _ b2 in
    let above : row.high < sell = ltb-true _ _ s2 in omega arith
prices_apart row buy sell false false false false band b1 b2 s1 s2 less most some =
    inner_apart row buy sell less

levels_apart : (row : SymbolRow) (side : ℕ) (buy_kind sell_kind : OrderKind) (buy sell : ℕ)
    → row.low ≤ row.high → (side == BUY) ≡ false
    → level_of row BUY buy_kind buy < level_of row side sell_kind sell
    → level_of row side sell_kind sell ≤ TOP → 1 ≤ level_of row BUY buy_kind buy
    → PricesApart buy_kind buy sell_kind sell
levels_apart row side Market sell_kind buy sell band other less most some = absurd (omega arith)
levels_apart row side Limit Market buy sell band other less most some =
    let one : level_of row side Market sell ≡ 1 = rw other refl in absurd (omega arith)
levels_apart row side Limit Limit buy sell band other less most some =
    let P : Bool → Type 0 = λ b. level_of row BUY Limit buy
    < cond (nat_lt sell row.low) 1 (cond (nat_lt row.high sell) TOP
    (cond b (1 + div_ceil (sell - row.low) (step_of row)) (1 + (sell - row.low) / step_of row))) in
    let Q : Bool → Type 0 = λ b. cond (nat_lt sell row.low) 1 (cond (nat_lt row.high sell) TOP
    (cond b (1 + div_ceil (sell - row.low) (step_of row)) (1 + (sell - row.low) / step_of row)))
    ≤ TOP in (
      refl,
      refl,
      prices_apart row buy sell (nat_lt buy row.low) (nat_lt row.high buy) (nat_lt sell row.low)
          (nat_lt row.high sell) band refl refl refl refl (subst P other less) (subst Q other most)
          some,
    )

prices_of_clear : (row : SymbolRow) (value : ℕ) (buy_kind sell_kind : OrderKind)
    (side buy sell : ℕ) → row.low ≤ row.high → side ≢ BUY → is_clear value ≡ true
    → cross_le (value_of_order row BUY buy_kind buy) value ≡ true
    → cross_le (value_of_order row side sell_kind sell) value ≡ true
    → PricesApart buy_kind buy sell_kind sell
prices_of_clear row value buy_kind sell_kind side buy sell band other clear buys sells =
    let b : ℕ = level_of row BUY buy_kind buy in
    let s : ℕ = level_of row side sell_kind sell in
    let b_some = level_some row BUY buy_kind buy in
    let s_some = level_some row side sell_kind sell in
    let s_most = level_most row side sell_kind sell in
    let P : Bool → Type 0 = λ c. cross_le (cond c (s * HALF) (HALF - s)) value ≡ true in
    let sells_value : cross_le (HALF - s) value ≡ true = subst P (ne_eqb side BUY other) sells in
    let high = le-halves (b * HALF) value buys in
    let low = le-halves (HALF - s) value sells_value in
    let b_low : b ≤ upper value = omega (arith, high.0) in
    let s_low : HALF - s ≤ lower value = omega (arith, low.1, s_some) in
    let below = sum_below b (HALF - s) (upper value) (lower value) b_some (omega arith) b_low s_low
    clear in
    levels_apart row side buy_kind sell_kind buy sell band (ne_eqb side BUY other) (omega arith)
    s_most b_some

pub orders_apart : (row : SymbolRow) (value : ℕ) (buy sell : PricedOrder)
    → AreOpposed row buy sell → is_clear value ≡ true → IsCovered row buy value
    → IsCovered row sell value → AreApart buy sell
orders_apart row value buy sell opposed clear buys sells =
    let P : ℕ → Type 0 =
    λ side. cross_le (value_of_order row side buy.kind buy.price) value ≡ true in
    let apart = prices_of_clear row value buy.kind sell.kind sell.side buy.price sell.price
    opposed.band opposed.sells clear (subst P opposed.buys buys) sells in
    record { buy_limit = apart.0; sell_limit = apart.1; prices = apart.2 }
