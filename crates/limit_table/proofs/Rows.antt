-- The definitions at a few rows.
use Rattle.std.proofs.Common.{◌≡◌, List, ℕ, [], ◌∷◌, refl, Ok, Err, codes, None, true, false}
use Rattle.csv.specs.Records.{field_at}
use Rattle.limit_table.specs.Entries.{entry_of}
use Rattle.limit_table.specs.Faults.{row_after}
use Rattle.limit_table.specs.Tables.{limits_of, quota_of}
use Rattle.limit_table.specs.Printing.{price_text, text_of, version_row, version_text}
use Rattle.limit_table.specs.Versions.{version_of, body_of}
use Rattle.std.specs.Fmt.{digits}
use Rattle.csv.specs.Writing.{fields_text, escaped, is_blank}
use Rattle.limit_table.specs.declared.version.Version.TheVariants as version
use Rattle.limit_table.specs.declared.kind.Entry.TheVariants as entry
use Rattle.limit_table.specs.declared.kind.Cause.TheVariants as cause

-- firm,,1000,,,
firm_row : List (List ℕ)
firm_row = codes "firm" ∷ [] ∷ codes "1000" ∷ [] ∷ [] ∷ [] ∷ []

-- symbol,XYZ,100000,1,12,100000
symbol_row : List (List ℕ)
symbol_row =
    codes "symbol" ∷ codes "XYZ" ∷ codes "100000" ∷ codes "1" ∷ codes "12" ∷ codes "100000" ∷ []

-- symbol,XYZ,100000,2,1.5,100000
crossed_row : List (List ℕ)
crossed_row =
    codes "symbol" ∷ codes "XYZ" ∷ codes "100000" ∷ codes "2" ∷ codes "1.5" ∷ codes "100000" ∷ []

-- the row of a firm sets its limit
a_firm : entry_of version.One firm_row ≡ Ok (entry.Firm 1000)
unfolding firm_row field_at
a_firm = refl

-- the row of a symbol sets its limit, its prices in ten-thousandths and its size
a_symbol : entry_of version.One symbol_row ≡ Ok (entry.Symbol (record {
  name = codes "XYZ";
  limit = 100000;
  low = 10000;
  high = 120000;
  size = 100000;
}))
unfolding symbol_row field_at
a_symbol = refl

-- a second row of the firm is a repeated one
two_firms : row_after version.One (entry.Firm 5 ∷ []) firm_row ≡ Err cause.Repeated
unfolding firm_row field_at
two_firms = refl

-- a lowest price above the highest is told where nothing else is wrong
crossed : row_after version.One (entry.Firm 5 ∷ []) crossed_row ≡ Err cause.Band
unfolding crossed_row field_at
crossed = refl

-- no row sets a limit of the firm, and none sets the quota
no_rows : limits_of [] ≡ None
no_rows = refl

no_quota : quota_of [] ≡ 50000
no_quota = refl

-- 12 currency units, as they are written
a_price : price_text 120000 ≡ codes "12.0000"
unfolding digits
a_price = refl

-- the row that is written for a limit of the firm
a_firm_row : text_of version.One (entry.Firm 1000) ≡ codes "firm,,1000,,,\n"
unfolding digits fields_text escaped is_blank
a_firm_row = refl

-- a name with a comma and a quote is written between quotes
a_quoted_row : text_of version.One
    (entry.Account (record { name = codes "A,\"B"; limit = 7; net = false }))
    ≡ codes "account,\"A,\"\"B\",7,,,\n"
unfolding digits fields_text escaped is_blank
a_quoted_row = refl

-- account,ACC,100000,,,,net
net_row : List (List ℕ)
net_row = codes "account" ∷ codes "ACC" ∷ codes "100000" ∷ [] ∷ [] ∷ [] ∷ codes "net" ∷ []

-- account,A2,1,,,,both
both_row : List (List ℕ)
both_row = codes "account" ∷ codes "A2" ∷ codes "1" ∷ [] ∷ [] ∷ [] ∷ codes "both" ∷ []

-- the row of an account that is net
a_net_account : entry_of version.Two net_row
    ≡ Ok (entry.Account (record { name = codes "ACC"; limit = 100000; net = true }))
unfolding net_row field_at
a_net_account = refl

-- another mode is a wrong kind
a_wrong_mode : entry_of version.Two both_row ≡ Err cause.Kind
unfolding both_row field_at
a_wrong_mode = refl

-- version 1 has no seventh column
a_row_too_long : entry_of version.One net_row ≡ Err cause.RowShape
unfolding net_row field_at
a_row_too_long = refl

-- the row that tells the version, by itself
told : version_of (version_row ∷ net_row ∷ []) ≡ version.Two
unfolding field_at
told = refl

told_alone : body_of (version_row ∷ net_row ∷ []) ≡ net_row ∷ []
unfolding field_at
told_alone = refl

-- the rows that are written for version 2
a_version_row : version_text version.Two ≡ codes "version,2,,,,,\n"
unfolding fields_text escaped is_blank
a_version_row = refl

a_net_row : text_of version.Two
    (entry.Account (record { name = codes "ACC"; limit = 7; net = true }))
    ≡ codes "account,ACC,7,,,,net\n"
unfolding digits fields_text escaped is_blank
a_net_row = refl
