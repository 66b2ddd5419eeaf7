-- One value more.
use Rattle.std.proofs.Common.{ap, subst, ◌++◌, [], ◌∷◌}
use Rattle.fix_orders.specs.declared.slots.Slot.{Slot}
use Rattle.fix_orders.specs.Slotted.{SlotHas}
use Rattle.fix_orders.proofs.slots.Slot.with.Goals as goal

pub returns-in-Once : goal.returns-in-Once
returns-in-Once c = λ values has.
    let P : Slot → Type 0 = λ slot. SlotHas slot values in
    let is = subst P c.in-Once.is has in
    (c.args.text.now, [], ap (λ vs. vs ++ c.args.text.now ∷ []) is)

pub returns-in-Often : goal.returns-in-Often
returns-in-Often c = λ values has.
    let P : Slot → Type 0 = λ slot. SlotHas slot values in
    let is = subst P c.in-Often.is has in
    (is.0, is.1 ++ c.args.text.now ∷ [], ap (λ vs. vs ++ c.args.text.now ∷ []) is.2)
