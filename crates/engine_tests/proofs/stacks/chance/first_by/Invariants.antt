use Rattle.engine_tests.proofs.stacks.chance.first_by.Given as goal

abbrev pub ghosts-first_over : goal.ghosts-first_over
ghosts-first_over a = record { name = a.blank.name; parts = a.blank.parts }
