use Rattle.std.proofs.Common.{sym, ◌∙◌}
use Rattle.double_refresh.proofs.Standings.{risen_is_idle}
use Rattle.double_refresh.proofs.tests.meet_counted.Goals as goal

pub read_root-seen-requires-clause-idle : goal.read_root-seen-requires-clause-idle
read_root-seen-requires-clause-idle g c =
    let early = c.refresh_beside-tries.ensures.early in
    let node = c.node-else-node-ne1.ensures in
    risen_is_idle c.begin-2.new.climb c.refresh_beside-tries.new.early early.1 early.0.1 node.below
    (sym node.node ∙ c.if-node-ne1-2.false)

pub returns-clause-first : goal.returns-clause-first
returns-clause-first g c =
    let late = c.refresh_beside-tries.ensures.late in
    let kept = late.0 in
    let began = c.begin.ensures.table in
    let node = c.node.ensures in (
      (
        kept.0 ∙ (began.0 ∙ c.requires.first.0.0),
        kept.1 ∙ (began.1 ∙ c.requires.first.0.1),
      ),
      risen_is_idle c.begin.new.climb c.refresh_beside-tries.new.late late.1 kept.1 node.below
          (sym node.node ∙ c.if-node-ne1.false),
    )
