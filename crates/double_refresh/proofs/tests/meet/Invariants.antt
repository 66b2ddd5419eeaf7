use Rattle.double_refresh.proofs.tests.meet.Given as goal

abbrev pub ghosts-meet_counted : goal.ghosts-meet_counted
ghosts-meet_counted a = record { name = a.blank.name; parts = a.blank.parts }
