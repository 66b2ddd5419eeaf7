-- The sums of each pair in a table, and running totals of the trees beside it.
use Rattle.std.specs.Prelude.{◌≡◌, ℕ, ◌+◌, ◌*◌, ◌≤◌, ◌<◌, ◌^◌, List, Bool, false, length, All}
use Rattle.std.specs.Prelude.{slice_index, slice_index_or, slice_set}
use Rattle.fold_law.specs.declared.limits.TheConstants.{LEAF}
use Rattle.exposure_book.specs.declared.pair_sums.PairSums.{PairSums}
use Rattle.exposure_book.specs.declared.pair_table.TreeSums.{TreeSums}
use Rattle.exposure_book.specs.declared.price.TheConstants.{UNIT}
use Rattle.exposure_book.specs.Pairs.{no_sums, all_of, exposure_of_pair}
use Rattle.exposure_book.specs.Sums.{over_account, over_symbol, over_all}

-- the most exposure of a session, in ten-thousandths: what a leaf may hold
abbrev pub most_exposure : ℕ
most_exposure = LEAF * UNIT

-- of each account, whether it is net; how many symbols there are; and the sums of the pairs, account
-- after account
pub record TableValue : Type 0 where
  pub nets : List Bool
  pub symbols : ℕ
  pub pairs : List PairSums

-- the sums of a pair
abbrev pub pair_at : TableValue → ℕ → ℕ → PairSums
pair_at table account symbol =
    slice_index_or table.pairs (account * table.symbols + symbol) no_sums

-- exposure of a pair
abbrev pub exposure_at : TableValue → ℕ → ℕ → ℕ
exposure_at table account symbol =
    exposure_of_pair (slice_index_or table.nets account false) (pair_at table account symbol)

-- exposure of the firm, of an account and of a symbol
abbrev pub in_firm : TableValue → ℕ
in_firm table = over_all (length table.nets) table.symbols (exposure_at table)

abbrev pub in_account : TableValue → ℕ → ℕ
in_account table account = over_account table.symbols (exposure_at table) account

abbrev pub in_symbol : TableValue → ℕ → ℕ
in_symbol table symbol = over_symbol (length table.nets) (exposure_at table) symbol

-- the sums of the three trees of a pair
abbrev pub sums_at : TableValue → ℕ → ℕ → TreeSums
sums_at table account symbol = record {
  firm = in_firm table;
  account = in_account table account;
  symbol = in_symbol table symbol;
}

-- the table with other sums of a pair
abbrev pub with_pair : ℕ → ℕ → PairSums → TableValue → TableValue
with_pair account symbol pair table =
    record table { pairs = slice_set table.pairs (account * table.symbols + symbol) pair }

-- the pair is one of the table's
pub record IsPair (table : TableValue) (account symbol : ℕ) : Type 0 where
  pub in_accounts : account < length table.nets
  pub in_symbols : symbol < table.symbols

-- the totals of the firm, of each account and of each symbol are the sums over the pairs, which a leaf
-- can hold
pub record AreTotals (table : TableValue) (total : ℕ) (by_account by_symbol : List ℕ) : Type 0 where
  pub shape : length table.pairs ≡ length table.nets * table.symbols
  pub each : length by_account ≡ length table.nets
  pub every : length by_symbol ≡ table.symbols
  pub firm : total ≡ in_firm table
  pub accounts : (a : ℕ) → a < length by_account → slice_index by_account a ≡ in_account table a
  pub symbols : (s : ℕ) → s < length by_symbol → slice_index by_symbol s ≡ in_symbol table s
  pub capped : in_firm table ≤ most_exposure
  pub fit : All (λ pair. all_of pair < 2 ^ 120) table.pairs

-- an amount is part of a total that a leaf can hold
pub record IsPartOf (total part : ℕ) : Type 0 where
  pub within : part ≤ total
  pub capped : total ≤ most_exposure
