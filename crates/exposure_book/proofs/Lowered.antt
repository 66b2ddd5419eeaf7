-- An order that counts for no more raises no sum, one that counts for no less lowers none, and other
-- pairs count for the same.
use Rattle.std.proofs.Common.{◌≡◌, ◌≤◌, ◌<◌, ◌+◌, ◌-◌, ◌++◌, ℕ, Bool, true, false, List, [], ◌∷◌, Some}
use Rattle.std.proofs.Common.{slice_get, set, sum_by, refl, sym, subst, ap, ◌∙◌, inl, inr}
use Rattle.std.proofs.Common.{arith, eqb-true, eq-eqb, Ok, Err, Result}
use Rattle.std.proofs.lemmas.Bool.{cases_Bool, and_parts, leb-true}
use Rattle.std.specs.Prelude.{◌==◌, ◌&&◌, nat_le}
use Rattle.fold_law.specs.declared.limits.TheConstants.{LEAF}
use Rattle.fix_orders.specs.declared.message.Report.{Report}
use Rattle.fix_orders.specs.declared.message.CancelReject.{CancelReject}
use Rattle.exposure_book.specs.declared.order.Order.{Order}
use Rattle.exposure_book.specs.declared.pair_sums.PairSums.{PairSums}
use Rattle.exposure_book.specs.Orders.{worth_of, left_of, is_buy, Lowers}
use Rattle.exposure_book.specs.Pairs.{is_of, pair_of, exposure_of_pair}
use Rattle.exposure_book.specs.Books.{BookValue, units_up, firm_sum, is_net, pair_exposure}
use Rattle.exposure_book.specs.Books.{with_orders, proposal_of}
use Rattle.exposure_book.specs.PairTables.{most_exposure}
use Rattle.exposure_book.specs.Proposals.{is_within_cap, capped}
use Rattle.exposure_book.specs.declared.answer.BookFault.{BookFault}
use Rattle.exposure_book.specs.declared.answer.BookFault.TheVariants as fault
use Rattle.exposure_book.specs.declared.answer.Proposal.{Proposal}
use Rattle.exposure_book.specs.Reports.{RaisesNothing, outcome_of_report, outcome_of_reject}
use Rattle.exposure_book.specs.Totals.{Asks, IsPlaced, most_left}
use Rattle.exposure_book.proofs.Outcomes.{report_comes, reject_comes}
use Rattle.exposure_book.proofs.Pairs.{exposure-set_le, exposure-set_ge, exposure-push_le}
use Rattle.exposure_book.proofs.Pairs.{pair_of-set, pair_of-set_other, pair_of-push}
use Rattle.exposure_book.proofs.Pairs.{pair_of-push_other, same_pair, has_order, replaced_left}
use Rattle.exposure_book.proofs.Pairs.{added_left}
use Rattle.exposure_book.proofs.PairTotals.{all-le, account-le, symbol-le, pair-le-account}
use Rattle.exposure_book.proofs.PairTotals.{account-le-all}
use Rattle.exposure_book.proofs.Sums.{part-le-sum, sum-set}

pub units_up-le : (m n : ℕ) → m ≤ n → units_up m ≤ units_up n
units_up-le m n h = omega arith

-- an order is one of its own pair, and of no other
pub own_pair : (o : Order) → is_of o.account o.symbol o ≡ true
own_pair o = rw (eq-eqb o.account o.account refl, eq-eqb o.symbol o.symbol refl) refl

pub other_pair : (a s : ℕ) (o : Order) → (a ≡ o.account → s ≡ o.symbol → ⊥) → is_of a s o ≡ false
other_pair a s o apart = elim (cases_Bool (is_of a s o)) [
  | inl own ↦
      let both = and_parts (o.account == a) (o.symbol == s) own in
      absurd (apart (sym (eqb-true o.account a both.0)) (sym (eqb-true o.symbol s both.1)))
  | inr other ↦ other
]

-- a pair counts for no more than the firm
pair-le-firm : (book : BookValue) (a s : ℕ) → a < book.accounts → s < book.symbols
    → pair_exposure book a s ≤ firm_sum book
pair-le-firm book a s in_accounts in_symbols =
    let account = pair-le-account book.accounts book.symbols (pair_exposure book) a s in_symbols in
    let firm = account-le-all book.accounts book.symbols (pair_exposure book) a in_accounts in
    omega (arith, account, firm)

-- values within the cap are of exposure that a leaf can hold
pub within_most : (values : Proposal) (sum : ℕ) → values.firm ≡ units_up sum
    → is_within_cap values ≡ true → sum ≤ most_exposure
within_most values sum is within =
    let first = and_parts (nat_le values.firm LEAF && nat_le values.account LEAF)
    (nat_le values.symbol LEAF) within in
    let both = and_parts (nat_le values.firm LEAF) (nat_le values.account LEAF) first.0 in
    let low = leb-true values.firm LEAF both.0 in
    omega (arith, is, low)

-- a leaf can't hold one of the values
pub beyond_cap : (values : Proposal) → (is_within_cap values ≡ true → ⊥)
    → Err fault.Cap ≡ capped values
beyond_cap values beyond = elim (cases_Bool (is_within_cap values)) [
  | inl within ↦ absurd (beyond within)
  | inr other ↦ rw other refl
]

-- an order takes the place of another, of the same account, symbol and side
module _ (book : BookValue) (place : ℕ) (old next : Order)
    (found : slice_get book.orders place ≡ Some old) (account : next.account ≡ old.account)
    (symbol : next.symbol ≡ old.symbol) (side : next.side ≡ old.side) where
  abbrev pub changed : BookValue
  changed = with_orders (set book.orders place next) book

  -- that counts for no more
  pub pair-set_le : Lowers old next → (a s : ℕ) → pair_exposure changed a s ≤ pair_exposure book a s
  pair-set_le lowers a s =
      exposure-set_le book.orders place old next found account symbol side (is_net book.nets a) a s
      lowers.filled lowers.worth

  -- that counts for no less
  pub pair-set_ge : Lowers next old → (a s : ℕ) → pair_exposure book a s ≤ pair_exposure changed a s
  pair-set_ge lowers a s =
      exposure-set_ge book.orders place old next found account symbol side (is_net book.nets a) a s
      lowers.filled lowers.worth

  -- another pair
  pub pair-set_other : (a s : ℕ) → (a ≡ next.account → s ≡ next.symbol → ⊥)
      → pair_exposure changed a s ≡ pair_exposure book a s
  pair-set_other a s apart =
      let now = other_pair a s next apart in
      let was = sym (same_pair a s old next account symbol) ∙ now in
      ap (exposure_of_pair (is_net book.nets a))
      (pair_of-set_other book.orders place old next found a s was now)

  pub firm-set_le : Lowers old next → firm_sum changed ≤ firm_sum book
  firm-set_le lowers =
      all-le book.accounts book.symbols (pair_exposure book) (pair_exposure changed)
      (pair-set_le lowers)

  -- where nothing more is filled, and a leaf can hold both, the reserve isn't above the largest
  pub left-set : next.notional ≡ old.notional → next.account < book.accounts
      → next.symbol < book.symbols → firm_sum book ≤ most_exposure
      → firm_sum changed ≤ most_exposure → left_of next ≤ most_left
  left-set filled in_accounts in_symbols before after =
      let a = next.account in
      let s = next.symbol in
      let of_old : is_of a s old ≡ true =
      sym (same_pair a s old next account symbol) ∙ own_pair next in
      let same_side : is_buy next ≡ is_buy old = ap (λ x. x == 49) side in
      let was = pair-le-firm book a s in_accounts in_symbols in
      let now = pair-le-firm changed a s in_accounts in_symbols in
      let is = pair_of-set book.orders place old next found a s of_old (own_pair next) same_side in
      let within : pair_exposure changed a s ≤ most_exposure = omega (arith, now, after) in
      replaced_left (is_net book.nets a) (pair_of a s book.orders) old next most_exposure
      (is_buy old) refl same_side (has_order book.orders place old next found a s of_old) filled
      (omega (arith, was, before))
      (subst (λ (p : PairSums). exposure_of_pair (is_net book.nets a) p ≤ most_exposure) is within)

  -- a reserve above the largest is beyond the cap
  pub beyond-set : next.notional ≡ old.notional → next.account < book.accounts
      → next.symbol < book.symbols → firm_sum book ≤ most_exposure → most_left < left_of next
      → Err fault.Cap ≡ capped (proposal_of changed next.account next.symbol)
  beyond-set filled in_accounts in_symbols before large =
      beyond_cap (proposal_of changed next.account next.symbol) (λ within.
      let after = within_most (proposal_of changed next.account next.symbol) (firm_sum changed) refl
      within in
      let left = left-set filled in_accounts in_symbols before after in
      absurd (omega (arith, left, large)))

-- one order more
module _ (book : BookValue) (o : Order) where
  abbrev pub more : BookValue
  more = with_orders (book.orders ++ o ∷ []) book

  -- of which nothing is filled
  pub pair-push_le : o.notional ≡ 0 → (a s : ℕ) → pair_exposure book a s ≤ pair_exposure more a s
  pair-push_le unfilled a s = exposure-push_le book.orders o unfilled (is_net book.nets a) a s

  -- another pair
  pub pair-push_other : (a s : ℕ) → (a ≡ o.account → s ≡ o.symbol → ⊥)
      → pair_exposure more a s ≡ pair_exposure book a s
  pair-push_other a s apart =
      ap (exposure_of_pair (is_net book.nets a))
      (pair_of-push_other a s book.orders o (other_pair a s o apart))

  -- where a leaf can hold both, the reserve isn't above the largest
  pub left-push : o.notional ≡ 0 → o.account < book.accounts → o.symbol < book.symbols
      → firm_sum book ≤ most_exposure → firm_sum more ≤ most_exposure → left_of o ≤ most_left
  left-push unfilled in_accounts in_symbols before after =
      let a = o.account in
      let s = o.symbol in
      let was = pair-le-firm book a s in_accounts in_symbols in
      let now = pair-le-firm more a s in_accounts in_symbols in
      let within : pair_exposure more a s ≤ most_exposure = omega (arith, now, after) in
      added_left (is_net book.nets a) (pair_of a s book.orders) o most_exposure (is_buy o) refl
      unfilled (omega (arith, was, before))
      (subst (λ (p : PairSums). exposure_of_pair (is_net book.nets a) p ≤ most_exposure)
      (pair_of-push a s book.orders o (own_pair o)) within)

  -- a reserve above the largest is beyond the cap
  pub beyond-push : o.notional ≡ 0 → o.account < book.accounts → o.symbol < book.symbols
      → firm_sum book ≤ most_exposure → most_left < left_of o
      → Err fault.Cap ≡ capped (proposal_of more o.account o.symbol)
  beyond-push unfilled in_accounts in_symbols before large =
      beyond_cap (proposal_of more o.account o.symbol) (λ within.
      let after = within_most (proposal_of more o.account o.symbol) (firm_sum more) refl within in
      let left = left-push unfilled in_accounts in_symbols before after in
      absurd (omega (arith, left, large)))

-- what all orders count for, with one in place of another
pub sum-changed : (orders : List Order) (place : ℕ) (old next : Order) (more : ℕ)
    → slice_get orders place ≡ Some old → worth_of next ≤ worth_of old + more
    → sum_by worth_of (set orders place next) ≤ sum_by worth_of orders + more
sum-changed orders place old next more found less =
    let changed = sum-set worth_of orders place old found next in
    let part = part-le-sum worth_of orders place old found in
    omega (arith, changed, part, less)

-- where a leaf can hold the sum, it can hold it after
pub lowered_capped : (book : BookValue) (place : ℕ) (old next : Order)
    → slice_get book.orders place ≡ Some old → Lowers old next → firm_sum book ≤ most_exposure
    → firm_sum (with_orders (set book.orders place next) book) ≤ most_exposure
lowered_capped book place old next found lowers whole =
    let less = firm-set_le book place old next found lowers.account lowers.symbol lowers.side lowers in
    omega (arith, less, whole)

lowered_raises_nothing : (book : BookValue) (place : ℕ) (old next : Order)
    → slice_get book.orders place ≡ Some old
    → Lowers old next → RaisesNothing book (set book.orders place next)
lowered_raises_nothing book place old next found lowers =
    let after = changed book place old next found lowers.account lowers.symbol lowers.side in
    let less = pair-set_le book place old next found lowers.account lowers.symbol lowers.side lowers in
    record {
      firm = units_up-le _ _
          (all-le book.accounts book.symbols (pair_exposure book) (pair_exposure after) less);
      accounts = λ a. units_up-le _ _
          (account-le book.accounts book.symbols (pair_exposure book) (pair_exposure after) a
          (less a));
      symbols = λ s. units_up-le _ _
          (symbol-le book.accounts book.symbols (pair_exposure book) (pair_exposure after) s
          (λ a. less a s));
    }

same_raises_nothing : (book : BookValue) → RaisesNothing book book.orders
same_raises_nothing book = record {
  firm = omega arith;
  accounts = λ a. omega arith;
  symbols = λ s. omega arith;
}

pub report_raises_nothing : (book : BookValue) (report : Report)
    → RaisesNothing book (outcome_of_report book report).orders
report_raises_nothing book report =
    report_comes book (λ outcome. RaisesNothing book outcome.orders)
    (same_raises_nothing book) (same_raises_nothing book)
    (λ place old next found lowers. lowered_raises_nothing book place old next found lowers)
    report

pub reject_raises_nothing : (book : BookValue) (reject : CancelReject)
    → RaisesNothing book (outcome_of_reject book reject).orders
reject_raises_nothing book reject =
    reject_comes book (λ outcome. RaisesNothing book outcome.orders)
    (same_raises_nothing book) (same_raises_nothing book)
    (λ place old next found lowers. lowered_raises_nothing book place old next found lowers)
    reject
