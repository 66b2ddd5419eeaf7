-- The ranges of what a row sets.
use Rattle.std.specs.Prelude.{ℕ, ◌≤◌}
use Rattle.fix_fields.specs.IdText.{IsId}
use Rattle.fix_fields.specs.Numbers.{price_most}
use Rattle.limit_table.specs.Entries.{amount_most, size_most, trip_most, quota_most}
use Rattle.limit_table.specs.Entries.{repeat_most, off_most}
use Rattle.limit_table.specs.declared.kind.Entry.{Entry}
use Rattle.limit_table.specs.declared.kind.Entry.TheVariants as entry

-- a number of at least so much and at most so much
abbrev pub IsFromTo : ℕ → ℕ → ℕ → Type 0
IsFromTo least most n = (least ≤ n) × (n ≤ most)

-- ten-thousandths of a currency unit
abbrev pub IsPrice : ℕ → Type 0
IsPrice = IsFromTo 1 price_most

-- the numbers and the name of a row are in their ranges, and its lowest price isn't above its
-- highest
abbrev pub IsInRange : Entry → Type 0
IsInRange (entry.Firm limit) = IsFromTo 0 amount_most limit
IsInRange (entry.Account row) = IsFromTo 0 amount_most row.limit × IsId row.name
IsInRange (entry.Symbol row) =
    IsFromTo 0 amount_most row.limit × IsPrice row.low × IsPrice row.high
    × IsFromTo 1 size_most row.size × IsId row.name × (row.low ≤ row.high)
IsInRange (entry.Trip count) = IsFromTo 1 trip_most count
IsInRange (entry.Quota count) = IsFromTo 1 quota_most count
IsInRange (entry.Repeat count) = IsFromTo 0 repeat_most count
IsInRange (entry.Off row) = IsFromTo 0 off_most row.from × IsId row.name
