use Rattle.std.proofs.Common.{ℕ, List, ◌-◌, ◌^◌, ap, length, take, refl, ◌∙◌, min, replicate}
use Rattle.std.specs.Str.Parse.{digits_value_after}
use Rattle.fix_fields.proofs.Scaled.{front_digits, scaled_by_parts}
use Rattle.fix_fields.proofs.number.scaled_value.Goals as goal

-- the digits that are kept are digits
pub number_after-value-requires : goal.number_after-value-requires
number_after-value-requires c =
    rw c.split_at_most.ensures.front
    (front_digits c.args.places c.args.fraction.now c.requires.fraction)

-- so are the zeros
pub number_after-requires-2 : goal.number_after-requires-2
number_after-requires-2 c =
    front_digits (c.args.places - length c.split_at_most.result.0.now) (replicate 4 48) refl

pub returns : goal.returns
returns c =
    let zeros = λ (s : List ℕ). take (c.args.places - length s) (replicate 4 48) in
    let most = 2 ^ 64 - 1 in
    let kept = λ (s : List ℕ). min (digits_value_after 10 c.number_after.result s) most in
    scaled_by_parts c.args.places most c.args.whole.now c.args.fraction.now _ _ _ _ c.requires.few
    (ap zeros c.split_at_most.ensures.front)
    c.number_after.ensures
    (c.number_after-value.ensures ∙ ap kept c.split_at_most.ensures.front)
    c.number_after-2.ensures
