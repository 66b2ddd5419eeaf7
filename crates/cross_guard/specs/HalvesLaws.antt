-- The laws of the fold of two halves.
use Rattle.std.specs.Prelude.{◌≡◌, ℕ, ◌≤◌, ◌<◌, true, max, nat_le, ◌&&◌, Bool}
use Rattle.std.proofs.Common.{arith, false, refl}
use Rattle.std.proofs.lemmas.Bool.{leb-true, le-leb}
use Rattle.fold_law.specs.Laws.{FoldLaws}
use Rattle.cross_guard.specs.declared.cross.TheConstants.{HALF, PACKED}
use Rattle.cross_guard.specs.Halves.{upper, lower, packed, cross_join, cross_cap, cross_le, IsPacked}

pub upper-packed : (high low : ℕ) → low < HALF → upper (packed high low) ≡ high
upper-packed high low few = omega arith

pub lower-packed : (high low : ℕ) → low < HALF → lower (packed high low) ≡ low
lower-packed high low few = omega arith

pub lower-below : (a : ℕ) → lower a < HALF
lower-below a = omega arith

pub upper-join : (a b : ℕ) → upper (cross_join a b) ≡ max (upper a) (upper b)
upper-join a b = upper-packed (max (upper a) (upper b)) (max (lower a) (lower b)) (omega arith)

pub lower-join : (a b : ℕ) → lower (cross_join a b) ≡ max (lower a) (lower b)
lower-join a b = lower-packed (max (upper a) (upper b)) (max (lower a) (lower b)) (omega arith)

-- two values with the same halves are one
pub same_halves : (a b : ℕ) → upper a ≡ upper b → lower a ≡ lower b → a ≡ b
same_halves a b high low = omega arith

-- the order as two facts
both : (a b : Bool) → a && b ≡ true → (a ≡ true) × (b ≡ true)
both true true e = (refl, refl)
both true false e = absurd (grind arith)
both false b e = absurd (grind arith)

and : (a b : Bool) → a ≡ true → b ≡ true → a && b ≡ true
and a b one two = rw (one, two) refl

pub le-halves : (a b : ℕ) → cross_le a b ≡ true → (upper a ≤ upper b) × (lower a ≤ lower b)
le-halves a b e =
    let two = both (nat_le (upper a) (upper b)) (nat_le (lower a) (lower b)) e in
    (leb-true _ _ two.0, leb-true _ _ two.1)

pub halves-le : (a b : ℕ) → upper a ≤ upper b → lower a ≤ lower b → cross_le a b ≡ true
halves-le a b high low = and _ _ (le-leb _ _ high) (le-leb _ _ low)

join-packed : (a b : ℕ) → a < PACKED → b < PACKED → cross_join a b < PACKED
join-packed a b first second = omega arith

join-unit_left : (a : ℕ) → cross_join 0 a ≡ a
join-unit_left a = omega arith

join-unit_right : (a : ℕ) → cross_join a 0 ≡ a
join-unit_right a = omega arith

pub join_regroups : (a b c : ℕ) → cross_join (cross_join a b) c ≡ cross_join a (cross_join b c)
join_regroups a b c =
    same_halves _ _ (
    rw (upper-join (cross_join a b) c, upper-join a b, upper-join a (cross_join b c), upper-join b c)
    (omega arith)
    ) (
    rw (lower-join (cross_join a b) c, lower-join a b, lower-join a (cross_join b c), lower-join b c)
    (omega arith)
    )

pub join_unit : (a : ℕ) → (cross_join 0 a ≡ a) × (cross_join a 0 ≡ a)
join_unit a = (join-unit_left a, join-unit_right a)

pub le-through : (a b c : ℕ) → cross_le a b ≡ true → cross_le b c ≡ true → cross_le a c ≡ true
le-through a b c first then =
    let one = le-halves a b first in let two = le-halves b c then in
    halves-le a c (omega (arith, one.0, two.0)) (omega (arith, one.1, two.1))

le-both : (a b : ℕ) → cross_le a b ≡ true → cross_le b a ≡ true → a ≡ b
le-both a b first then =
    let one = le-halves a b first in let two = le-halves b a then in
    same_halves a b (omega (arith, one.0, two.0)) (omega (arith, one.1, two.1))

pub join-rises : (a b c d : ℕ) → cross_le a b ≡ true → cross_le c d ≡ true
    → cross_le (cross_join a c) (cross_join b d) ≡ true
join-rises a b c d first second =
    let one = le-halves a b first in let two = le-halves c d second in
    halves-le (cross_join a c) (cross_join b d)
    (rw (upper-join a c, upper-join b d) (omega (arith, one.0, two.0)))
    (rw (lower-join a c, lower-join b d) (omega (arith, one.1, two.1)))

pub cross_laws : FoldLaws 0 cross_cap cross_join cross_le IsPacked
cross_laws = record {
  unit_under = λ m. omega arith;
  leaf_under = λ x capped. omega arith;
  under_more = λ m n x more under. under;
  under_values = λ m x few under. omega arith;
  join_under = λ m n a b few left right. join-packed a b left right;
  unit_left = λ m a few under. join-unit_left a;
  unit_right = λ m a few under. join-unit_right a;
  regroups = λ m n o a b c few first second third. join_regroups a b c;
  le_itself = λ m a few under. halves-le a a (omega arith) (omega arith);
  le_through = λ m a b c few first second third. le-through a b c;
  le_both = λ m a b few first second. le-both a b;
  join_rises = λ m n a b c d few p q r s. join-rises a b c d;
}
