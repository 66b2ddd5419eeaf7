-- When a session trips the halt tree: where the requests that it refused as Firm are as many as the
-- limits' trip number.
use Rattle.std.specs.Prelude.{ℕ, ◌+◌, ◌==◌, ◌&&◌, List, Option, Some, None, Bool, true, false}
use Rattle.std.specs.Prelude.{nat_le, nat_lt, if◌then◌else◌}
use Rattle.risk_journal.specs.declared.acts.Act.{Act}
use Rattle.admit_core.specs.Tapes.{with_post}
use Rattle.limit_table.specs.Trees.{LimitsValue, halt_tree}
use Rattle.order_desk.specs.declared.refusal.Refusal.{Refusal}
use Rattle.order_desk.specs.declared.refusal.Refusal.TheVariants.{Firm}

-- the request is refused as Firm
abbrev pub is_firm : Option Refusal → Bool
is_firm (Some Firm) = true
is_firm other = false

-- how many requests were refused as Firm, with this one
abbrev pub firms_after : Option Refusal → ℕ → ℕ
firms_after refusal firms = if is_firm refusal then firms + 1 else firms

-- there is a trip number, and it is this
abbrev pub is_trip_number : Option ℕ → ℕ → Bool
is_trip_number None firms = false
is_trip_number (Some number) firms = firms == number

-- this refusal trips the halt tree
abbrev pub is_trip : LimitsValue → Option Refusal → ℕ → Bool
is_trip limits refusal firms = is_firm refusal && is_trip_number limits.trip (firms + 1)

-- the acts with a post of 1 in the halt tree, where this refusal trips it
abbrev pub acts_tripped : LimitsValue → Option Refusal → ℕ → List Act → List Act
acts_tripped limits refusal firms acts =
    if is_trip limits refusal firms then with_post (halt_tree limits) 1 acts else acts

-- there is a trip number, and it is one of 1 up to this
abbrev pub is_reached : Option ℕ → ℕ → Bool
is_reached None firms = false
is_reached (Some number) firms = nat_le number firms && nat_lt 0 number

-- how often the halt tree was tripped after so many refusals: once, from the trip number on
abbrev pub trips_by : Option ℕ → ℕ → ℕ
trips_by trip firms = if is_reached trip firms then 1 else 0
