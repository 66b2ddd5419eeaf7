use Rattle.std.proofs.Common.{[], ◌∷◌, arith}
use Rattle.fix_fields.proofs.ShortWrites.{short_field}
use Rattle.file_tests.proofs.writer_tests.begin.Goals as goal

pub returns-clause-short : goal.returns-clause-short
returns-clause-short c =
    rw c.begin.ensures (short_field 35 (c.args.kind ∷ []) (omega arith) (omega arith))
