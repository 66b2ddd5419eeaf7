use Rattle.std.proofs.Common.{arith, length, ap}
use Rattle.limit_table.proofs.Few.{few_symbols}
use Rattle.limit_table.proofs.making.make_symbols.Goals as goal

pub new-requires : goal.new-requires
new-requires c =
    omega (arith, few_symbols c.args.entries.now c.requires, ap length c.in-Ok.ensures)
