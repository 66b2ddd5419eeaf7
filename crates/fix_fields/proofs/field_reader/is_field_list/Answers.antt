use Rattle.std.proofs.Common.{◌+◌, ◌-◌, ◌<◌, ◌↔◌, arith, sym, subst, length, length-drop}
use Rattle.std.proofs.Common.{length-take, drop}
use Rattle.fix_fields.specs.FieldPlaces.{IsFieldList}
use Rattle.fix_fields.proofs.FieldLists.{list_step, no_list}
use Rattle.fix_fields.proofs.FrontField.{rest_is}
use Rattle.fix_fields.proofs.field_reader.is_field_list.Goals as goal

-- the rest isn't empty, and begins with no field
pub returns-in-None : goal.returns-in-None
returns-in-None c =
    let rest = c.loop-rest.rest.now in
    let some : 0 < length rest = grind arith in
    let none : IsFieldList c.args.text.now → ⊥ = λ l. let m = c.loop-rest.invariant.same.0 l in
    no_list rest some c.in-None.ensures.none m.0 m.1 in
    (λ no. cc, λ l. absurd (none l))

pub overflow_add-rest : goal.overflow_add-rest
overflow_add-rest c = omega (arith, c.in-Some.ensures.some.inside, c.loop-rest.invariant.shorter)

pub loop-rest-preserved : goal.loop-rest-preserved
loop-rest-preserved c =
    let rest = c.loop-rest.rest.now in
    let f = c.in-Some.field in
    let step = list_step rest f c.in-Some.ensures.some in
    let same : IsFieldList c.args.text.now ↔ IsFieldList (drop (f.to + 1) rest) =
    (λ l. step.0 (c.loop-rest.invariant.same.0 l), λ l. c.loop-rest.invariant.same.1 (step.1 l)) in
    record {
      shorter = omega (
        arith,
        c.loop-rest.invariant.shorter,
        length-drop (f.to + 1) rest,
        length-take (length rest - (f.to + 1)) (drop (f.to + 1) rest),
      );
      same = subst (λ t. IsFieldList c.args.text.now ↔ IsFieldList t) (sym (rest_is rest
          (f.to + 1))) same;
    }
