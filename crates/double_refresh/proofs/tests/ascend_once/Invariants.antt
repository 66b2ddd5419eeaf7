use Rattle.double_refresh.proofs.tests.ascend_once.Given as goal

abbrev pub ghosts-ascend_counted : goal.ghosts-ascend_counted
ghosts-ascend_counted a = record { name = a.blank.name; parts = a.blank.parts }
