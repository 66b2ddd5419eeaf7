use Rattle.tree_tests.proofs.replay_tests.work.Given as goal

abbrev pub ghosts-work_counted : goal.ghosts-work_counted
ghosts-work_counted a = record { name = a.blank.name; parts = a.blank.parts }
