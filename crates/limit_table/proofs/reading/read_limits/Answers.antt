use Rattle.std.proofs.Common.{arith}
use Rattle.limit_table.proofs.reading.read_limits.Goals as goal

pub make_limits-requires : goal.make_limits-requires
make_limits-requires c =
    rw c.as_slice.ensures.value
    (c.args.bytes.now, omega arith, c.in_ok-entries.ensures.read)
