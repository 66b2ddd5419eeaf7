-- What rests on both sides of a symbol as one value of two halves.
use Rattle.std.specs.Prelude.{ℕ, ◌+◌, ◌-◌, ◌*◌, ◌/◌, ◌%◌, ◌<◌, max, min, nat_le, nat_lt, ◌==◌, Bool}
use Rattle.std.specs.Prelude.{◌&&◌, ◌||◌}
use Rattle.cross_guard.specs.declared.cross.TheConstants.{HALF, PACKED}

-- the highest level of a buy, 0 without one
abbrev pub upper : ℕ → ℕ
upper value = value / HALF

-- HALF less the lowest level of a sell, 0 without one
abbrev pub lower : ℕ → ℕ
lower value = value % HALF

abbrev pub packed : ℕ → ℕ → ℕ
packed high low = high * HALF + low

-- the larger of both halves
abbrev pub cross_join : ℕ → ℕ → ℕ
cross_join a b = packed (max (upper a) (upper b)) (max (lower a) (lower b))

-- the smaller of both halves
abbrev pub cross_meet : ℕ → ℕ → ℕ
cross_meet a b = packed (min (upper a) (upper b)) (min (lower a) (lower b))

-- no half is above the other's
abbrev pub cross_le : ℕ → ℕ → Bool
cross_le a b = nat_le (upper a) (upper b) && nat_le (lower a) (lower b)

-- the largest value of a leaf
abbrev pub cross_cap : ℕ
cross_cap = PACKED - 1

-- a value of two halves, of however many sessions
abbrev pub IsPacked : ℕ → ℕ → Type 0
IsPacked m x = x < PACKED

-- without a buy, without a sell, or with the highest buy below the lowest sell
abbrev pub is_clear : ℕ → Bool
is_clear value = upper value == 0 || (lower value == 0 || nat_lt (upper value + lower value) HALF)
