-- The rows of a file are few of each kind.
use Rattle.limit_table.proofs.Held.{holds_few}
use Rattle.limit_table.proofs.making.make_limits.Goals as goal

pub make_accounts-requires : goal.make_accounts-requires
make_accounts-requires c = holds_few c.requires.0 c.args.entries.now c.requires.2

pub make_symbols-requires : goal.make_symbols-requires
make_symbols-requires c = holds_few c.requires.0 c.args.entries.now c.requires.2
