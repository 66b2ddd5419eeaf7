-- the book has as many accounts and symbols as before
use Rattle.std.proofs.Common.{◌≡◌}
use Rattle.exposure_book.proofs.tests.follow.Given as goal

abbrev pub invariant-loop-step : goal.invariant-loop-step
invariant-loop-step g l = record { accounts : l.book.value.accounts ≡ 2; symbols : l.book.value.symbols ≡ 2 }
