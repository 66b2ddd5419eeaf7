-- A root of each place.
use Rattle.std.proofs.Common.{ap, ◌∙◌}
use Rattle.std.specs.List.{list_all}
use Rattle.tree_check.specs.Walked.{is_among_roots}
use Rattle.tree_check.proofs.WalkedReads.{all_roots}
use Rattle.tree_check.proofs.walking.are_walked.Goals as goal

pub returns : goal.returns
returns g c =
    c.are_among_roots.ensures
    ∙ ap (λ roots. list_all (is_among_roots roots) c.args.reads.now)
    (c.deref.ensures.value ∙ c.in_ok-roots.ensures)
    ∙ all_roots g.F.Fold.join g.F.Fold.UNIT c.args.history.now.lines.items c.args.reads.now
