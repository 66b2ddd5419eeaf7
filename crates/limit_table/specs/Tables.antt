-- The limits that rows set.
use Rattle.std.specs.Prelude.{ℕ, ◌≤◌, List, Option, Some, None, unwrap_or, option_map, find}
use Rattle.std.specs.Prelude.{filter_map, count_by}
use Rattle.limit_table.specs.Kinds.{kind_of, same_kind, rows_most}
use Rattle.limit_table.specs.declared.kind.Kind.{Kind}
use Rattle.limit_table.specs.declared.kind.Kind.TheVariants as kind
use Rattle.limit_table.specs.declared.kind.Entry.{Entry}
use Rattle.limit_table.specs.declared.kind.Entry.TheVariants as entry
use Rattle.limit_table.specs.declared.kind.AccountRow.{AccountRow}
use Rattle.limit_table.specs.declared.kind.SymbolRow.{SymbolRow}
use Rattle.limit_table.specs.declared.kind.OffRow.{OffRow}
use Rattle.limit_table.specs.declared.limits.Limits.{Limits}

-- the first row of a kind
abbrev pub first_of : Kind → List Entry → Option Entry
first_of k entries = find (λ row. same_kind (kind_of row) k) entries

-- the limit in a row of the firm
abbrev pub firm_in : Option Entry → Option ℕ
firm_in (Some (entry.Firm limit)) = Some limit
firm_in _ = None

-- the number in a row that trips the halt
abbrev pub trip_in : Option Entry → Option ℕ
trip_in (Some (entry.Trip count)) = Some count
trip_in _ = None

-- the number in a row of the quota
abbrev pub quota_in : Option Entry → Option ℕ
quota_in (Some (entry.Quota count)) = Some count
quota_in _ = None

-- the number in a row of the screen of repeats
abbrev pub repeat_in : Option Entry → Option ℕ
repeat_in (Some (entry.Repeat count)) = Some count
repeat_in _ = None

-- the account in a row of one
abbrev pub account_in : Entry → Option AccountRow
account_in (entry.Account row) = Some row
account_in _ = None

-- the symbol in a row of one
abbrev pub symbol_in : Entry → Option SymbolRow
symbol_in (entry.Symbol row) = Some row
symbol_in _ = None

-- the dropped screen in a row of one
abbrev pub off_in : Entry → Option OffRow
off_in (entry.Off row) = Some row
off_in _ = None

-- the firm's limit, if a row sets it
abbrev pub firm_of : List Entry → Option ℕ
firm_of entries = firm_in (first_of kind.Firm entries)

-- the number that trips the halt, if a row sets it
abbrev pub trip_of : List Entry → Option ℕ
trip_of entries = trip_in (first_of kind.Trip entries)

-- the quota that a file sets which has no row of it
abbrev pub quota_default : ℕ
quota_default = 50000

-- the quota, which is 50,000 where no row sets it
abbrev pub quota_of : List Entry → ℕ
quota_of entries = unwrap_or (quota_in (first_of kind.Quota entries)) quota_default

-- the setting of the screen of repeats, which is 0 where no row sets it
abbrev pub repeat_of : List Entry → ℕ
repeat_of entries = unwrap_or (repeat_in (first_of kind.Repeat entries)) 0

-- the limits that rows set, with this limit of the firm
abbrev pub limits_with : List Entry → ℕ → Limits
limits_with entries firm = record {
  firm = firm;
  accounts = filter_map account_in entries;
  symbols = filter_map symbol_in entries;
  trip = trip_of entries;
  quota = quota_of entries;
  repeat = repeat_of entries;
  off = filter_map off_in entries;
}

-- the limits that rows set, if one of them sets the firm's
abbrev pub limits_of : List Entry → Option Limits
limits_of entries = option_map (limits_with entries) (firm_of entries)

-- no kind has more rows than it may
abbrev pub IsFew : List Entry → Type 0
IsFew entries = (k : Kind) → count_by (λ row. same_kind k (kind_of row)) entries ≤ rows_most k
