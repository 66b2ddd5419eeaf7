-- the lists with the acts so far
use Rattle.std.proofs.Common.{◌≡◌, map, take}
use Rattle.tree_check.specs.Buckets.{with_acts}
use Rattle.tree_check.proofs.read_at.add_session.Given as goal

abbrev pub invariant-loop-act : goal.invariant-loop-act
invariant-loop-act l = map (λ own. own.items) l.all.items
    ≡ with_acts l.session (map (λ own. own.items) l.initial.all.items) (take l.act-index l.acts)
