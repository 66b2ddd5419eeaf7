use Rattle.cross_guard.specs.Told.{cross_trees}
use Rattle.gate_files.proofs.Results.{ok_more}
use Rattle.cross_command.proofs.Replays.{are_placed, have_left}
use Rattle.cross_command.proofs.replay.journal_after.Goals as goal

pub journal_of-requires : goal.journal_of-requires
journal_of-requires g c = (
  search,
  (
    cross_trees c.requires.called.0,
    have_left c.requires.called.0 _ _ _ _ c.requires.called.1 c.in_ok-taken.ensures,
  ),
)

pub returns : goal.returns
returns g c =
    ok_more c.journal_of.result _ _ c.journal_of.ensures
    (λ journal told limits ran. are_placed limits _ _ _
    (told (cross_trees limits) (have_left limits _ _ _ _ ran c.in_ok-taken.ensures)))
