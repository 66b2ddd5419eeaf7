-- Equal ids are hashed alike.
use Rattle.std.specs.Prelude.{nat_eq}
use Rattle.std.specs.Cmp.Lexicographic.{pointwise}
use Rattle.std.specs.Hash as fed
use Rattle.std.proofs.Common.{ap, eqb-true}

-- what is equal by `==` of bytes feeds a hasher alike
abbrev pub fed_alike : fed.Alike (pointwise nat_eq) (fed.slice fed.u8)
fed_alike = fed.items_Alike (record { fed = λ x y same. ap fed.u8 (eqb-true x y same) })
