use Rattle.std.proofs.Common.{sym, ◌∙◌}
use Rattle.fix_fields.proofs.WalkPlaces.{walk_step, walk_on, walk_end, goes_first}
use Rattle.fix_fields.proofs.walk.FieldWalkIterator.next.Goals as goal

-- no field is left
pub returns-in_err-field-clause-steps : goal.returns-in_err-field-clause-steps
returns-in_err-field-clause-steps c =
    let none = sym c.self.view_is ∙ walk_end c.self.inside.bytes.now c.self.inside.at
    c.self.inside.end
    c.self.invariant c.in_err-field.ensures.none in
    rw c.from_residual.ensures (none, none)

pub invariant_of-self : goal.invariant_of-self
invariant_of-self c = walk_on c.self.inside.bytes.now c.self.inside.at c.self.inside.end
    c.self.invariant.ordered c.self.invariant.inside c.in_ok-field.field c.in_ok-field.ensures.some
    c.self.invariant.are_fields

pub returns-clause-steps : goal.returns-clause-steps
returns-clause-steps c = sym c.self.view_is
    ∙ walk_step c.self.inside.bytes.now c.self.inside.at c.self.inside.end
    c.self.invariant.ordered c.self.invariant.inside c.in_ok-field.field c.in_ok-field.ensures.some

pub returns-clause-goes : goal.returns-clause-goes
returns-clause-goes c = goes_first _ (λ _. tt) _ _ _ (sym c.self.view_is
    ∙ walk_step c.self.inside.bytes.now c.self.inside.at c.self.inside.end
    c.self.invariant.ordered c.self.invariant.inside c.in_ok-field.field c.in_ok-field.ensures.some)
