-- the number so far is that of the digits so far
use Rattle.std.proofs.Common.{◌≡◌, ◌-◌, ◌^◌, min, take}
use Rattle.std.specs.Str.Parse.{digits_value_after}
use Rattle.fix_fields.proofs.number.number_after.Given as goal

abbrev pub invariant-loop-digit : goal.invariant-loop-digit
invariant-loop-digit l =
    l.value ≡ min (digits_value_after 10 l.fn.start (take l.digit-index l.digits)) (2 ^ 64 - 1)
