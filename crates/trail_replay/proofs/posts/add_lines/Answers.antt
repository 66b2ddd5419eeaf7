use Rattle.std.proofs.Common.{ap, sym, ◌∙◌, ◌+◌, ◌++◌, ◌∷◌, [], arith, append_assoc}
use Rattle.std.specs.Prelude.{slice_index}
use Rattle.trail_replay.proofs.OwnLines.{line, own_lines-more}
use Rattle.trail_replay.proofs.posts.add_lines.Goals as goal

pub loop-value-preserved : goal.loop-value-preserved
loop-value-preserved c =
    let i = c.loop-value.value-index in
    let new = line c.args.session (c.loop-value.index + 1) (slice_index c.args.values.now i) in
    let number = c.loop-value.invariant.number in
    record {
      number = omega arith;
      added = c.in-Ok.ensures.items
          ∙ (ap (λ s. s ++ new ∷ []) c.loop-value.invariant.added
          ∙ (append_assoc c.args.lines.now.items _ (new ∷ [])
          ∙ ap (λ s. c.args.lines.now.items ++ s)
          (sym (own_lines-more c.args.session (c.args.before + 1) (c.loop-value.index + 1) i
          c.args.values.now c.loop-value-test.true (omega arith)))));
    }
