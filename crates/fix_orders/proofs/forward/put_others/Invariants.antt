-- the fields so far that a forward passes on stand behind the body
use Rattle.std.proofs.Common.{◌≡◌, ◌++◌, map}
use Rattle.std.specs.Prelude.{Some, IfSome}
use Rattle.fix_fields.specs.Places.{field_at}
use Rattle.fix_orders.proofs.OtherFields.{others_text}
use Rattle.fix_orders.proofs.forward.put_others.Given as goal

abbrev pub invariant-loop-field : goal.invariant-loop-field
invariant-loop-field l = IfSome l.initial.to
    (λ before. l.to ≡ Some (before ++ others_text (map (field_at l.bytes) l.yielded)))
