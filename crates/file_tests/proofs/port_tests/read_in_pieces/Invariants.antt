-- the name stays
use Rattle.std.proofs.Common.{◌≡◌}
use Rattle.file_tests.proofs.port_tests.read_in_pieces.Given as goal

abbrev pub invariant-pieces : goal.invariant-pieces
invariant-pieces g l = g.S.Source.name l.source ≡ g.S.Source.name l.initial.source
