use Rattle.engine_tests.proofs.loads.twenty_changes.Given as goal

abbrev pub ghosts-loaded : goal.ghosts-loaded
ghosts-loaded g a = record { name = a.blank.name; parts = a.blank.parts }
