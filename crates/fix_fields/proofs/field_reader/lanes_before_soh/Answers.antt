use Rattle.std.proofs.Common.{◌≡◌, ℕ, ◌<◌, eqb, Bool, map, ap, sym, ◌∙◌, arith, w8}
use Rattle.std.proofs.lemmas.Simd.{bitmask_splat, leading_from_mask_l, trailing_mask_l}
use lib.Lanes.{mask_l}
use lib.Count.{count_trailing_zeros}
use Rattle.fix_fields.proofs.field_reader.lanes_before_soh.Goals as goal

abbrev is_soh : ℕ → Bool
is_soh x = eqb x 1

-- no lane holds SOH
pub returns-then-bits-eq0 : goal.returns-then-bits-eq0
returns-then-bits-eq0 c =
    let v = c.args.lanes in
    let mask = bitmask_splat w8 eqb v 32 1 c.fits-lanes.0 (omega arith) in
    let none : mask_l (map is_soh v) ≡ 0 = sym mask ∙ c.if-bits-eq0.true in
    sym (leading_from_mask_l is_soh v none ∙ c.fits-lanes.0)

-- the lowest bit is that of the first lane that holds SOH
pub returns-else-bits-eq0 : goal.returns-else-bits-eq0
returns-else-bits-eq0 c =
    let v = c.args.lanes in
    let mask = bitmask_splat w8 eqb v 32 1 c.fits-lanes.0 (omega arith) in
    let some : 0 < mask_l (map is_soh v) = omega (arith, mask, c.if-bits-eq0.false) in
    ap (count_trailing_zeros 64) mask
    ∙ trailing_mask_l is_soh 64 v (omega (arith, c.fits-lanes.0)) some
