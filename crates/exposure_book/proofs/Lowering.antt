-- No report makes an order count for more.
use Rattle.std.proofs.Common.{◌≡◌, ◌≤◌, ◌+◌, ◌-◌, ◌*◌, ℕ, Bool, true, false, List, max}
use Rattle.std.proofs.Common.{Some, None, IfSome, refl, sym, ap, ◌∙◌}
use Rattle.std.proofs.Common.{arith, leb, leb-true, if◌then◌else◌}
use Rattle.std.proofs.Math.Nat.{mul-le-mul, mul-le-mul_left, add-mul}
use Rattle.fix_orders.specs.declared.message.Exec.{Exec}
use Rattle.fix_orders.specs.declared.message.Exec.TheVariants.{New, Canceled, Replaced, Rejected}
use Rattle.fix_orders.specs.declared.message.Exec.TheVariants.{Expired, Trade, Else}
use Rattle.exposure_book.specs.declared.order.Order.{Order}
use Rattle.exposure_book.specs.declared.pending.Pending.{Pending}
use Rattle.exposure_book.specs.declared.pending.Pending.TheVariants as pending
use Rattle.exposure_book.specs.Pendings.{is_same_id, pending_total, pending_price, has_id_pending}
use Rattle.exposure_book.specs.Orders.{Lowers, open_total, leaves_of, reserve_of, worth_of}
use Rattle.exposure_book.specs.Reports.{ended_order, without_pending, without_request}
use Rattle.exposure_book.specs.Reports.{rejected_order, replaced_by, traded_order, is_covered}
use Rattle.exposure_book.specs.Reports.{order_after}
use Rattle.std.proofs.lemmas.Bool.{and_parts}

pub lowers_itself : (o : Order) → Lowers o o
lowers_itself o = record {
  account = refl;
  symbol = refl;
  side = refl;
  filled = omega arith;
  worth = omega arith;
}

-- leaves by a total, a quantity filled and whether the order has ended
abbrev leaves_by : Bool → ℕ → ℕ → ℕ
leaves_by ended total filled = if ended then 0 else total - filled

leaves_by-le : (ended : Bool) (low high filled : ℕ) → low ≤ high
    → leaves_by ended low filled ≤ leaves_by ended high filled
leaves_by-le true low high filled h = omega arith
leaves_by-le false low high filled h = omega arith

-- fewer leaves at a lower reserve price count for no more
counts_less : (notional leaves more low high : ℕ) → leaves ≤ more → low ≤ high
    → notional + leaves * low ≤ notional + more * high
counts_less notional leaves more low high fewer lower =
    let product : leaves * low ≤ more * high = mul-le-mul fewer lower in omega arith

pub lowers_ended : (o : Order) → Lowers o (ended_order o)
lowers_ended o = record {
  account = refl;
  symbol = refl;
  side = refl;
  filled = omega arith;
  worth = counts_less o.notional 0 (leaves_of o) (max o.price 0) (reserve_of o) (omega arith)
      (omega arith);
}

pub lowers_without_pending : (o : Order) → Lowers o (without_pending o)
lowers_without_pending o = record {
  account = refl;
  symbol = refl;
  side = refl;
  filled = omega arith;
  worth = counts_less o.notional (leaves_by o.ended (max o.total 0) o.filled) (leaves_of o)
      (max o.price 0) (reserve_of o)
      (leaves_by-le o.ended (max o.total 0) (open_total o) o.filled (omega arith)) (omega arith);
}

-- with the terms of a replace that was pending on it, an order counts for no more
replaced_counts_less : (o : Order) (total price : ℕ) → pending_total o.pending ≡ total
    → pending_price o.pending ≡ price
    → o.notional + leaves_by o.ended (max total 0) o.filled * max price 0 ≤ worth_of o
replaced_counts_less o total price of_total of_price =
    counts_less o.notional (leaves_by o.ended (max total 0) o.filled) (leaves_of o)
    (max price 0) (reserve_of o)
    (leaves_by-le o.ended (max total 0) (open_total o) o.filled (omega arith)) (omega arith)

replaced_if : (o : Order) (own : List ℕ) (total price : ℕ) → pending_total o.pending ≡ total
    → pending_price o.pending ≡ price → (same : Bool)
    → Lowers o (if same
    then record o { total = total; price = price; current = own; pending = pending.Nothing }
    else o)
replaced_if o own total price of_total of_price true = record {
  account = refl;
  symbol = refl;
  side = refl;
  filled = omega arith;
  worth = replaced_counts_less o total price of_total of_price;
}
replaced_if o own total price of_total of_price false = lowers_itself o

lowers_replaced_by : (o : Order) (id : List ℕ) (p : Pending) → o.pending ≡ p
    → Lowers o (replaced_by p id o)
lowers_replaced_by o id pending.Nothing is = lowers_itself o
lowers_replaced_by o id (pending.Cancel own) is = lowers_itself o
lowers_replaced_by o id (pending.Replace own total price) is =
    replaced_if o own total price (ap pending_total is) (ap pending_price is) (is_same_id own id)

pub lowers_without_request : (o : Order) (id : List ℕ) → Lowers o (without_request id o)
lowers_without_request o id = by (has_id_pending o.pending id)
  where
    by : (same : Bool) → Lowers o (if same then without_pending o else o)
    by true = lowers_without_pending o
    by false = lowers_itself o

lowers_rejected : (o : Order) (id : List ℕ) → Lowers o (rejected_order id o)
lowers_rejected o id = by (is_same_id id o.current)
  where
    by : (same : Bool) → Lowers o (if same then ended_order o else without_request id o)
    by true = lowers_ended o
    by false = lowers_without_request o id

-- a fill takes its quantity from the leaves
leaves_by-fill : (ended : Bool) (total filled quantity : ℕ)
    → quantity ≤ leaves_by ended total filled
    → leaves_by ended total (filled + quantity) + quantity ≡ leaves_by ended total filled
leaves_by-fill true total filled quantity h = omega arith
leaves_by-fill false total filled quantity h = omega arith

-- what is filled at no more than the reserve price counts for no more than it did while it was left
fill_counts_less : (notional quantity price left leaves reserve : ℕ) → left + quantity ≡ leaves
    → price ≤ reserve
    → (notional + quantity * price) + left * reserve ≤ notional + leaves * reserve
fill_counts_less notional quantity price left leaves reserve whole cheap =
    let filled : quantity * price ≤ quantity * reserve = mul-le-mul_left quantity cheap in
    let split : (left + quantity) * reserve ≡ left * reserve + quantity * reserve =
    add-mul left quantity reserve in
    let all : leaves * reserve ≡ left * reserve + quantity * reserve =
    ap (λ n. n * reserve) (sym whole) ∙ split in
    omega arith

lowers_traded : (o : Order) (quantity price : ℕ) → quantity ≤ leaves_of o → price ≤ reserve_of o
    → Lowers o (traded_order quantity price o)
lowers_traded o quantity price few cheap = record {
  account = refl;
  symbol = refl;
  side = refl;
  filled = omega arith;
  worth = fill_counts_less o.notional quantity price
      (leaves_by o.ended (open_total o) (o.filled + quantity)) (leaves_of o) (reserve_of o)
      (leaves_by-fill o.ended (open_total o) o.filled quantity few) cheap;
}

lowers_if_covered : (o : Order) (quantity price : ℕ) (covered : Bool)
    → is_covered quantity price o ≡ covered
    → IfSome (if covered then Some (traded_order quantity price o) else None) (Lowers o)
lowers_if_covered o quantity price true is =
    let both = and_parts (leb quantity (leaves_of o)) (leb price (reserve_of o)) is in
    lowers_traded o quantity price (leb-true _ _ both.0) (leb-true _ _ both.1)
lowers_if_covered o quantity price false is = tt

-- no report makes an order count for more
pub order_after_lowers : (o : Order) (id : List ℕ) (exec : Exec)
    → IfSome (order_after id exec o) (Lowers o)
order_after_lowers o id New = lowers_itself o
order_after_lowers o id Canceled = lowers_ended o
order_after_lowers o id Replaced = lowers_replaced_by o id o.pending refl
order_after_lowers o id Rejected = lowers_rejected o id
order_after_lowers o id Expired = lowers_ended o
order_after_lowers o id (Trade quantity price) =
    lowers_if_covered o quantity price (is_covered quantity price o) refl
order_after_lowers o id Else = lowers_itself o

-- a cancel that is pending adds nothing
pub lowers_with_cancel : (o : Order) (id : List ℕ)
    → Lowers o (record o { pending = pending.Cancel id })
lowers_with_cancel o id = record {
  account = refl;
  symbol = refl;
  side = refl;
  filled = omega arith;
  worth = counts_less o.notional (leaves_by o.ended (max o.total 0) o.filled) (leaves_of o)
      (max o.price 0) (reserve_of o)
      (leaves_by-le o.ended (max o.total 0) (open_total o) o.filled (omega arith)) (omega arith);
}
