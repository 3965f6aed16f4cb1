use Rattle.engine_tests.proofs.trips.comes_to.Given as goal

abbrev pub ghosts-comes_by : goal.ghosts-comes_by
ghosts-comes_by a = record { name = a.blank.name; parts = a.blank.parts }
