-- the rows so far are added
use Rattle.std.proofs.Common.{◌≡◌, ◌++◌, map, take}
use Rattle.limit_table.specs.declared.kind.Entry.TheVariants as entry
use Rattle.limit_table.proofs.listing.add_accounts.Given as goal

abbrev pub invariant-loop-account : goal.invariant-loop-account
invariant-loop-account l =
    l.rows.items
    ≡ l.initial.rows.items ++ map (λ row. entry.Account row) (take l.account-index l.accounts)
