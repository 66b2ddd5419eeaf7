-- Worked messages, computed from the definitions: prices are ten-thousandths, values whole units.
use Rattle.std.proofs.Common.{◌≡◌, ℕ, Bool, true, false, List, [], ◌∷◌, Some, codes, refl}
use Rattle.fix_orders.specs.declared.message.Exec.TheVariants.{Trade, Replaced, Rejected}
use Rattle.fix_orders.specs.declared.message.OrderKind.TheVariants.{Limit}
use Rattle.exposure_book.specs.declared.order.Order.{Order}
use Rattle.exposure_book.specs.declared.answer.Applied.{Applied}
use Rattle.exposure_book.specs.declared.answer.Applied.TheVariants as applied
use Rattle.exposure_book.specs.declared.pending.Pending.{Pending}
use Rattle.exposure_book.specs.declared.pending.Pending.TheVariants as pending
use Rattle.exposure_book.specs.Orders.{reserve_price}
use Rattle.exposure_book.specs.Books.{BookValue, units_up, firm_sum}
use Rattle.exposure_book.specs.Reports.{outcome_by}

-- a limit order of 100 with the id a1, in the first account and the first symbol, whose upper collar
-- price is 12.0000
order : ℕ → ℕ → Pending → Order
order side price asked = record {
  account = 0;
  symbol = 0;
  side = side;
  total = 100;
  price = reserve_price side Limit price 120000;
  filled = 0;
  notional = 0;
  current = codes "a1";
  pending = asked;
  ended = false;
}

-- the book that has it, and the id of its request
book : Order → BookValue
book one = record {
  accounts = 1;
  symbols = 1;
  nets = false ∷ [];
  orders = one ∷ [];
  ids = (codes "a1", 0) ∷ (codes "b1", 0) ∷ [];
}

-- the value of the firm
value : Order → ℕ
value one = units_up (firm_sum (book one))

-- the same value in the three trees
all : ℕ → Applied
all units = applied.Applied (record {
  account = 0;
  symbol = 0;
  firm_value = units;
  account_value = units;
  symbol_value = units;
})

-- sell 100 @ 9.00 counts at the upper collar price
sell : value (order 50 90000 pending.Nothing) ≡ 1200
unfolding order book value
sell = refl

-- a trade of 40 @ 9.50 of it: 380 and 720
fill : (outcome_by (book (order 50 90000 pending.Nothing)) (Trade 40 95000) (Some (codes "a1"))).answer
    ≡ all 1100
unfolding order book all
fill = refl

-- a trade of 10 @ 12.0001 is beyond the reserve
beyond : (outcome_by (book (order 50 90000 pending.Nothing)) (Trade 10 120001) (Some (codes "a1"))).answer
    ≡ applied.Over
unfolding order book
beyond = refl

-- buy 100 @ 10.00 with a replace to 150 pending
raised : value (order 49 100000 (pending.Replace (codes "b1") 150 100000)) ≡ 1500
unfolding order book value
raised = refl

-- the replace is rejected
rejected : (outcome_by (book (order 49 100000 (pending.Replace (codes "b1") 150 100000))) Rejected
    (Some (codes "b1"))).answer ≡ all 1000
unfolding order book all
rejected = refl

-- a replace to 80 pending raises and lowers nothing until it takes place
lowering : value (order 49 100000 (pending.Replace (codes "b1") 80 100000)) ≡ 1000
unfolding order book value
lowering = refl

lowered : (outcome_by (book (order 49 100000 (pending.Replace (codes "b1") 80 100000))) Replaced
    (Some (codes "b1"))).answer ≡ all 800
unfolding order book all
lowered = refl

-- the book of a net account with these orders, and that of a gross one
pair_book : Bool → List Order → BookValue
pair_book net orders = record {
  accounts = 1;
  symbols = 1;
  nets = net ∷ [];
  orders = orders;
  ids = [];
}

-- an order of 100 of which all was filled, for so much
filled : ℕ → ℕ → ℕ → Order
filled side price notional =
    record (order side price pending.Nothing) { filled = 100; notional = notional }

-- buy 100 @ 10.00 and its trade at that price: 1,000 before and after
bought : units_up (firm_sum (pair_book true (order 49 100000 pending.Nothing ∷ []))) ≡ 1000
unfolding order pair_book
bought = refl

bought_filled : units_up (firm_sum (pair_book true (filled 49 100000 10000000 ∷ []))) ≡ 1000
unfolding order pair_book filled
bought_filled = refl

-- sell 100 @ 9.00 behind it: the larger of 1,000 and 1,200 less 1,000
sold : units_up (firm_sum (pair_book true
    (filled 49 100000 10000000 ∷ order 50 90000 pending.Nothing ∷ []))) ≡ 1000
unfolding order pair_book filled
sold = refl

-- of a gross account: 1,000 and 1,200
sold_gross : units_up (firm_sum (pair_book false
    (filled 49 100000 10000000 ∷ order 50 90000 pending.Nothing ∷ []))) ≡ 2200
unfolding order pair_book filled
sold_gross = refl

-- its trade of 100 @ 9.50: 1,000 less 950
sold_filled : units_up (firm_sum (pair_book true
    (filled 49 100000 10000000 ∷ filled 50 90000 9500000 ∷ []))) ≡ 50
unfolding order pair_book filled
sold_filled = refl
