use Rattle.std.proofs.Common.{◌==◌, ◌∙◌, ap, sym, arith}
use Rattle.std.proofs.lemmas.Iterator.Consumers.{YieldsList-turn, YieldsList-end}
use Rattle.std.proofs.lemmas.List.{map-id}
use Rattle.std.proofs.lemmas.List.Sums.{count_by-le-length}
use Rattle.std.specs.List.{count_by}
use Rattle.fix_fields.proofs.WalkPlaces.{walked, count_of_said}
use Rattle.file_tests.proofs.frame_tests.count_of_tag.Goals as goal

-- no more fields than bytes were counted
pub overflow_add-count : goal.overflow_add-count
overflow_add-count c =
    let turn = YieldsList-turn (walked _ c.fields-field-items.result
    c.into_iter-field-iterator.ensures.into_iter_gives)
    c.loop-field.yielded _ c.loop-field.yielded_by _ _ c.in-Some.field c.in-Some.is
    c.next.ensures.steps in
    omega (
      arith,
      turn.0,
      c.fields-field-items.ensures.few,
      c.loop-field.invariant,
      count_by-le-length (λ place. place.tag == c.args.tag) c.loop-field.yielded,
    )

-- all places were counted
pub returns : goal.returns
returns c = λ listed has.
    let end = YieldsList-end (walked _ c.fields-field-items.result
    c.into_iter-field-iterator.ensures.into_iter_gives)
    c.loop-field.yielded _ c.loop-field.yielded_by _ _ c.in-None.is c.next.ensures.steps in
    c.loop-field.invariant
    ∙ ap (count_by (λ place. place.tag == c.args.tag)) (sym (map-id c.loop-field.yielded) ∙ end.0)
    ∙ count_of_said (λ t. t == c.args.tag) c.args.bytes.now c.fields-field-items.result listed
    (c.fields-field-items.ensures.places listed has)
