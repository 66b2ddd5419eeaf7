-- The limits of every load.
use Rattle.std.specs.Prelude.{ℕ, List, [], ◌∷◌, codes, map, None, false}
use Rattle.limit_table.specs.declared.limits.Limits.{Limits}
use Rattle.limit_table.specs.declared.kind.AccountRow.{AccountRow}
use Rattle.limit_table.specs.declared.kind.SymbolRow.{SymbolRow}

-- the limits of an account of a load
abbrev pub load_account : List ℕ → AccountRow
load_account name = record { name = name; limit = 800000; net = false }

-- the limits of a symbol of a load: prices from 1 to 100, and 1,000 shares an order
abbrev pub load_symbol : List ℕ → SymbolRow
load_symbol name =
    record { name = name; limit = 500000; low = 10000; high = 1000000; size = 1000 }

-- the limits that the limit file of a load sets
abbrev pub load_limits : Limits
load_limits = record {
  firm = 2000000;
  accounts = map load_account (codes "A0" ∷ codes "A1" ∷ codes "A2" ∷ codes "A3" ∷ []);
  symbols = map load_symbol (codes "S0" ∷ codes "S1" ∷ codes "S2" ∷ codes "S3" ∷ codes "S4"
      ∷ codes "S5" ∷ codes "S6" ∷ codes "S7" ∷ []);
  trip = None;
  quota = 200000;
  repeat = 0;
  off = [];
}
