use Rattle.limit_table.proofs.TreeLimits.{symbol_limit}
use Rattle.limit_table.proofs.limits.Limits.symbol_limit.Goals as goal

pub returns : goal.returns
returns c =
    rw c.symbols.ensures (symbol_limit c.args.self.now c.args.symbol _ c.requires)
