use Rattle.engine_tests.proofs.proposals.first_filled.Given as goal

abbrev pub ghosts-first_over : goal.ghosts-first_over
ghosts-first_over a = record { name = a.blank.name; parts = a.blank.parts }
