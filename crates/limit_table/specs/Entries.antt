-- What one row sets, or what is wrong with it by itself.
use Rattle.std.specs.Prelude.{ℕ, List, length, Option, Some, None, not, Result, Ok, Err}
use Rattle.std.specs.Prelude.{◌==◌, if◌then◌else◌}
use Rattle.limit_table.specs.Columns.{Texts, columns_of, are_blank, number_in, price_in, name_in}
use Rattle.limit_table.specs.Columns.{is_net, is_mode_of}
use Rattle.limit_table.specs.Kinds.{kind_named}
use Rattle.limit_table.specs.Versions.{column_count}
use Rattle.limit_table.specs.declared.version.Version.{Version}
use Rattle.limit_table.specs.declared.kind.Kind.{Kind}
use Rattle.limit_table.specs.declared.kind.Kind.TheVariants as kind
use Rattle.limit_table.specs.declared.kind.Entry.{Entry}
use Rattle.limit_table.specs.declared.kind.Entry.TheVariants as entry
use Rattle.limit_table.specs.declared.kind.Cause.{Cause}
use Rattle.limit_table.specs.declared.kind.Cause.TheVariants as cause

infixl 10 ◌>>=◌
-- the first fault, or what comes of the value
abbrev pub ◌>>=◌ : {A B : Type 0} → Result A Cause → (A → Result B Cause) → Result B Cause
(Ok x) >>= f = f x
(Err e) >>= f = Err e

-- the largest limit in currency units
abbrev pub amount_most : ℕ
amount_most = 999999999999

-- the largest size of an order, in shares
abbrev pub size_most : ℕ
size_most = 1000000000

-- the largest number of refusals that trips the halt
abbrev pub trip_most : ℕ
trip_most = 1000000

-- the largest quota that a file may set
abbrev pub quota_most : ℕ
quota_most = 200000

-- the longest window of the screen of repeats, in orders
abbrev pub repeat_most : ℕ
repeat_most = 64

-- the last order from which a screen may be dropped
abbrev pub off_most : ℕ
off_most = 1000000000

-- the columns of an account
abbrev pub account_in : Texts → Result Entry Cause
account_in row = do
  limit ← number_in 0 amount_most row.limit
  name ← name_in row.name
  Ok (entry.Account (record { name = name; limit = limit; net = is_net row.mode }))

-- the columns of a symbol
abbrev pub symbol_in : Texts → Result Entry Cause
symbol_in row = do
  limit ← number_in 0 amount_most row.limit
  low ← price_in row.low
  high ← price_in row.high
  size ← number_in 1 size_most row.size
  name ← name_in row.name
  Ok (entry.Symbol (record { name = name; limit = limit; low = low; high = high; size = size }))

-- the columns of a screen that is dropped
abbrev pub off_in : Texts → Result Entry Cause
off_in row = do
  from ← number_in 0 off_most row.limit
  name ← name_in row.name
  Ok (entry.Off (record { name = name; from = from }))

-- one number by itself
abbrev pub count_in : ℕ → ℕ → (ℕ → Entry) → Texts → Result Entry Cause
count_in least most make row = do
  count ← number_in least most row.limit
  Ok (make count)

-- the columns of a row of this kind
abbrev pub entry_by : Kind → Texts → Result Entry Cause
entry_by kind.Firm row = count_in 0 amount_most (λ limit. entry.Firm limit) row
entry_by kind.Account row = account_in row
entry_by kind.Symbol row = symbol_in row
entry_by kind.Trip row = count_in 1 trip_most (λ count. entry.Trip count) row
entry_by kind.Quota row = count_in 1 quota_most (λ count. entry.Quota count) row
entry_by kind.Repeat row = count_in 0 repeat_most (λ count. entry.Repeat count) row
entry_by kind.Off row = off_in row

-- the columns of a row whose first column names this kind: its mode, what is to be empty, and the
-- rest, in this order
abbrev pub entry_named : Option Kind → Texts → Result Entry Cause
entry_named None row = Err cause.Kind
entry_named (Some k) row =
    if not (is_mode_of k row) then Err cause.Kind
    else if not (are_blank k row) then Err cause.RowShape
    else entry_by k row

-- what a row of a file of this version sets, or the first thing that is wrong with it by itself
abbrev pub entry_of : Version → List (List ℕ) → Result Entry Cause
entry_of version fields =
    if not (length fields == column_count version) then Err cause.RowShape
    else entry_named (kind_named (columns_of fields).kind) (columns_of fields)
