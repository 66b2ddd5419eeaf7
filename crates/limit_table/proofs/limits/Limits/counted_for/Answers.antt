-- Limits that a file holds, as so many sessions count them, are held by one too.
use Rattle.std.proofs.Common.{ℕ, subst, sym}
use Rattle.limit_table.specs.Files.{IsHeldByFile}
use Rattle.limit_table.proofs.Quotas.{held_counted}
use Rattle.limit_table.proofs.limits.Limits.counted_for.Goals as goal

pub invariant_of-result : goal.invariant_of-result
invariant_of-result c =
    let inside = c.self.inside in
    subst (λ (counted : ℕ). IsHeldByFile (record {
      firm = inside.firm;
      accounts = inside.accounts;
      symbols = inside.symbols;
      trip = inside.trip;
      quota = counted;
      repeat = inside.repeat;
      off = inside.off;
    })) (sym c.counted_quota.ensures) (held_counted c.args.sessions (record {
      firm = inside.firm;
      accounts = inside.accounts;
      symbols = inside.symbols;
      trip = inside.trip;
      quota = inside.quota;
      repeat = inside.repeat;
      off = inside.off;
    }) c.self.invariant)
