use Rattle.limit_table.proofs.TreeLimits.{account_limit}
use Rattle.limit_table.proofs.limits.Limits.account_limit.Goals as goal

pub returns : goal.returns
returns c =
    rw c.accounts.ensures (account_limit c.args.self.now c.args.account _ c.requires)
