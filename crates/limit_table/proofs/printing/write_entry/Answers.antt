use Rattle.limit_table.proofs.printing.write_entry.Goals as goal

pub returns-in-Firm : goal.returns-in-Firm
returns-in-Firm c = rw c.in-Firm.is c.write_count.ensures

pub returns-in-Account : goal.returns-in-Account
returns-in-Account c = rw c.in-Account.is c.write_account.ensures

pub returns-in-Symbol : goal.returns-in-Symbol
returns-in-Symbol c = rw c.in-Symbol.is c.write_symbol.ensures

pub returns-in-Trip : goal.returns-in-Trip
returns-in-Trip c = rw c.in-Trip.is (rw c.from.ensures at c.write_count-in-Trip.ensures)

pub returns-in-Quota : goal.returns-in-Quota
returns-in-Quota c =
    rw c.in-Quota.is (rw c.from-in-Quota.ensures at c.write_count-in-Quota.ensures)

pub returns-in-Repeat : goal.returns-in-Repeat
returns-in-Repeat c =
    rw c.in-Repeat.is (rw c.from-in-Repeat.ensures at c.write_count-in-Repeat.ensures)

pub returns-in-Off : goal.returns-in-Off
returns-in-Off c = rw c.in-Off.is c.write_off.ensures
