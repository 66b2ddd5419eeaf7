use Rattle.std.proofs.Common.{map, ap, ◌∙◌}
use Rattle.f_array.specs.Records.{Did}
use Rattle.trail_replay.specs.Reads.{lists_of}
use Rattle.trail_replay.proofs.PreparedTables.{are_prepared}
use Rattle.trail_replay.proofs.prepared.Prepared.of.Goals as goal

pub invariant_of-result : goal.invariant_of-result
invariant_of-result c =
    are_prepared c.args.taken.now _ _ c.in_ok-rows.ensures
    (c.in_ok-posts.ensures
    ∙ ap (map (λ (did : Did). lists_of c.args.taken.now.shape.trees did.calls))
    c.deref.ensures.value)
