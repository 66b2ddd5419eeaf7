-- Sums over the orders of a book, as orders are added or changed.
use Rattle.std.proofs.Common.{◌≡◌, ◌≤◌, ◌<◌, ◌+◌, ◌-◌, ◌++◌, ℕ, Bool, true, false, List, [], ◌∷◌}
use Rattle.std.proofs.Common.{length, Some, slice_get, refl, sym, ap, subst, ◌∙◌}
use Rattle.std.proofs.Common.{arith, eqb, eqb-true, eq-eqb, if◌then◌else◌, get_or, set, length-set}
use Rattle.std.proofs.Common.{get_or-set_same, get_or-set_other, sum_by, ◌≢◌}
use Rattle.std.proofs.lemmas.List.Sums.{sum_by-set, sum_by_push, sum_by-cons, get_or-le-sum_by}
use Rattle.std.proofs.lemmas.Option.{slice_get_within, slice_get-get_or}
use Rattle.exposure_book.specs.declared.order.Order.{Order}
use Rattle.exposure_book.specs.Orders.{worth_of}

-- the item that `slice_get` finds is the one at its place
pub item_at : {X : Type 0} (xs : List X) (i : ℕ) (x : X) → slice_get xs i ≡ Some x → get_or xs i x
    ≡ x
item_at xs i x found = let at = slice_get-get_or xs i x (slice_get_within xs i x found) in cc

module _ (f : Order → ℕ) (xs : List Order) (i : ℕ) (x : Order) (found : slice_get xs i ≡ Some x)
  where
    pub part-le-sum : f x ≤ sum_by f xs
    part-le-sum =
        let below = get_or-le-sum_by f xs i x (slice_get_within xs i x found) in
        rw (item_at xs i x found) at below

    pub sum-set : (y : Order) → sum_by f (set xs i y) ≡ sum_by f xs - f x + f y
    sum-set y =
        let whole = sum_by-set f xs i y x (slice_get_within xs i x found) in
        let one = rw (item_at xs i x found) at whole in
        let part : f x ≤ sum_by f xs = part-le-sum in
        omega arith
