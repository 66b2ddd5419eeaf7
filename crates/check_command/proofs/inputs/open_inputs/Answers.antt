use Rattle.std.proofs.Common.{◌+◌, ℕ, length, arith, ◌∙◌, ap, map, string_bytes, [], ◌∷◌}
use Rattle.std.proofs.Common.{length-append}
use Rattle.std.proofs.lemmas.List.{length-map}
use Rattle.gate_files.proofs.Folder.{went_on}
use Rattle.check_command.proofs.Sources.{name_at, one_more_new, new_own, unopened_at}
use Rattle.check_command.proofs.inputs.open_inputs.Goals as goal

pub give_back-requires-clause-own : goal.give_back-requires-clause-own
give_back-requires-clause-own g c κs within =
    new_own g.D.In.Source.left g.D.In.Source.name g.D.In.Source.faults _ _ _ _
    (c.in-Err.ensures.texts ∙ c.loop-place.invariant.texts) c.loop-place.invariant.new

pub returns-in-Err-clause-err : goal.returns-in-Err-clause-err
returns-in-Err-clause-err g c =
    let below = c.loop-place-test.true in
    unopened_at (map string_bytes c.args.names.now) _ _ _ _ c.loop-place.place _ c.in-Err.status
    (omega (arith, length-map c.args.names.now string_bytes, below))
    (name_at c.args.names.now c.loop-place.place c.index-names-place.result _ below
    c.index-names-place.is c.as_str.ensures.value)
    c.loop-place.invariant.went c.give_back.ensures.went c.in-Err.ensures.err

pub loop-place-preserved : goal.loop-place-preserved
loop-place-preserved g c =
    let below = c.loop-place-test.true in
    record {
      went = went_on _ _ _ c.loop-place.invariant.went c.in-Ok-open_input.ensures.went;
      texts = c.in-Ok-open_input.ensures.texts ∙ c.loop-place.invariant.texts;
      new = one_more_new g.D.In.Source.left g.D.In.Source.name g.D.In.Source.faults _ _ _ _ _
          c.in-Ok-open_input.input c.loop-place.place _ c.loop-place.invariant.many
          (name_at c.args.names.now c.loop-place.place c.index-names-place.result _ below
          c.index-names-place.is
          c.as_str.ensures.value)
          c.loop-place.invariant.texts c.loop-place.invariant.new c.in-Ok-open_input.ensures.ok
          c.push_reserved.ensures.items;
      many = ap length c.push_reserved.ensures.items
          ∙ length-append c.loop-place.all.items (c.in-Ok-open_input.input ∷ [])
          ∙ ap (λ (n : ℕ). n + 1) c.loop-place.invariant.many;
      room = omega (
        arith,
        c.loop-place.invariant.room,
        c.push_reserved.ensures.len,
        c.push_reserved.ensures.capacity,
        below,
      );
    }
