use Rattle.std.proofs.Common.{arith}
use Rattle.gate_files.proofs.Numbers.{few_words}
use Rattle.gate_files.proofs.words.command_from.Goals as goal

pub returns-in_default-clause-command : goal.returns-in_default-clause-command
returns-in_default-clause-command c =
    few_words c.args.words.now (omega (arith, c.in_default.len_below))
