-- the sum so far is that of the bytes so far
use Rattle.std.proofs.Common.{◌≡◌, take}
use Rattle.fix_fields.specs.Fields.{checksum_of}
use Rattle.fix_fields.proofs.frame.checksum.Given as goal

abbrev pub invariant-loop-byte : goal.invariant-loop-byte
invariant-loop-byte l = l.sum ≡ checksum_of (take l.byte-index l.bytes)
