-- Where a name stands among the rows of the limits.
use Rattle.std.specs.Prelude.{ℕ, ◌+◌, List, [], ◌∷◌, Option, Some, None, Result, Ok, Err}
use Rattle.std.specs.Prelude.{if◌then◌else◌, slice_get}
use Rattle.std.specs.Option.{option_map}
use Rattle.std.specs.Str.{bytes_eq}
use Rattle.fix_orders.specs.declared.message.NewOrder.{NewOrder}
use Rattle.limit_table.specs.declared.kind.SymbolRow.{SymbolRow}
use Rattle.limit_table.specs.Places.{account_names, symbol_names}
use Rattle.exposure_book.specs.Proposals.{high_of}
use Rattle.admit_core.specs.declared.rows.OrderRows.{OrderRows}
use Rattle.limit_table.specs.Trees.{LimitsValue}
use Rattle.order_desk.specs.declared.refusal.Refusal.{Refusal}
use Rattle.order_desk.specs.declared.refusal.Refusal.TheVariants.{UnknownAccount, UnknownSymbol}

-- the place of a name among names, from 0: the first where it stands
abbrev pub place_among : List ℕ → List (List ℕ) → Option ℕ
place_among name [] = None
place_among name (own ∷ names) =
    if bytes_eq own name then Some 0
    else option_map (λ place. place + 1) (place_among name names)

-- the rows by their places: an unknown account comes before an unknown symbol
abbrev pub rows_at : Option ℕ → Option ℕ → Result OrderRows Refusal
rows_at None symbol = Err UnknownAccount
rows_at (Some account) None = Err UnknownSymbol
rows_at (Some account) (Some symbol) = Ok (record { account = account; symbol = symbol })

-- where the account and the symbol of an order stand among the limits' rows, or the one that stands
-- nowhere
abbrev pub rows_of : LimitsValue → NewOrder → Result OrderRows Refusal
rows_of limits order =
    rows_at (place_among order.account (account_names limits.accounts))
    (place_among order.symbol (symbol_names limits.symbols))

-- the upper collar price of the symbol of these rows, in ten-thousandths
abbrev pub upper_price : LimitsValue → OrderRows → ℕ
upper_price limits rows = high_of (slice_get limits.symbols rows.symbol)

-- the lower collar price and the size of a symbol
abbrev pub low_of : Option SymbolRow → ℕ
low_of None = 0
low_of (Some row) = row.low

abbrev pub size_of : Option SymbolRow → ℕ
size_of None = 0
size_of (Some row) = row.size

-- the lower collar price of the symbol of these rows, in ten-thousandths
abbrev pub lower_price : LimitsValue → OrderRows → ℕ
lower_price limits rows = low_of (slice_get limits.symbols rows.symbol)

-- the largest quantity of an order in that symbol
abbrev pub largest_quantity : LimitsValue → OrderRows → ℕ
largest_quantity limits rows = size_of (slice_get limits.symbols rows.symbol)
