-- The kinds of rows, and what one row sets.
use Rattle.std.specs.Prelude.{ℕ, List, codes, Option, Some, None, Bool, true, false, ◌==◌}
use Rattle.std.specs.Prelude.{if◌then◌else◌, nat_eq, nat_lt}
use Rattle.std.specs.Cmp.Lexicographic.{pointwise}
use Rattle.limit_table.specs.declared.kind.Kind.{Kind}
use Rattle.limit_table.specs.declared.kind.Kind.TheVariants as kind
use Rattle.limit_table.specs.declared.kind.Entry.{Entry}
use Rattle.limit_table.specs.declared.kind.Entry.TheVariants as entry

-- the texts are the same
abbrev pub same_text : List ℕ → List ℕ → Bool
same_text = pointwise nat_eq

-- the kind with this name
abbrev pub kind_named : List ℕ → Option Kind
kind_named word =
    if same_text word (codes "firm") then Some kind.Firm
    else if same_text word (codes "account") then Some kind.Account
    else if same_text word (codes "symbol") then Some kind.Symbol
    else if same_text word (codes "trip") then Some kind.Trip
    else if same_text word (codes "quota") then Some kind.Quota
    else if same_text word (codes "repeat") then Some kind.Repeat
    else if same_text word (codes "off") then Some kind.Off
    else None

-- where a kind stands in the list of kinds
abbrev pub kind_place : Kind → ℕ
kind_place kind.Firm = 0
kind_place kind.Account = 1
kind_place kind.Symbol = 2
kind_place kind.Trip = 3
kind_place kind.Quota = 4
kind_place kind.Repeat = 5
kind_place kind.Off = 6

-- the kinds are the same
abbrev pub same_kind : Kind → Kind → Bool
same_kind a b = kind_place a == kind_place b

-- the most rows of a kind
abbrev pub rows_most : Kind → ℕ
rows_most kind.Firm = 1
rows_most kind.Account = 100
rows_most kind.Symbol = 400
rows_most kind.Trip = 1
rows_most kind.Quota = 1
rows_most kind.Repeat = 1
rows_most kind.Off = 16

-- the kind of a row
abbrev pub kind_of : Entry → Kind
kind_of (entry.Firm limit) = kind.Firm
kind_of (entry.Account row) = kind.Account
kind_of (entry.Symbol row) = kind.Symbol
kind_of (entry.Trip count) = kind.Trip
kind_of (entry.Quota count) = kind.Quota
kind_of (entry.Repeat count) = kind.Repeat
kind_of (entry.Off row) = kind.Off

-- the name in a row, if its kind has one
abbrev pub name_of : Entry → Option (List ℕ)
name_of (entry.Firm limit) = None
name_of (entry.Account row) = Some row.name
name_of (entry.Symbol row) = Some row.name
name_of (entry.Trip count) = None
name_of (entry.Quota count) = None
name_of (entry.Repeat count) = None
name_of (entry.Off row) = Some row.name

-- both have the same name, or neither has one
abbrev pub same_name : Option (List ℕ) → Option (List ℕ) → Bool
same_name None None = true
same_name None (Some b) = false
same_name (Some a) None = false
same_name (Some a) (Some b) = same_text a b

-- the lowest price is above the highest
abbrev pub is_crossed : Entry → Bool
is_crossed (entry.Firm limit) = false
is_crossed (entry.Account row) = false
is_crossed (entry.Symbol row) = nat_lt row.high row.low
is_crossed (entry.Trip count) = false
is_crossed (entry.Quota count) = false
is_crossed (entry.Repeat count) = false
is_crossed (entry.Off row) = false
