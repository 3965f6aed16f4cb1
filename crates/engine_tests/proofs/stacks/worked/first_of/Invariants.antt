use Rattle.engine_tests.proofs.stacks.worked.first_of.Given as goal

abbrev pub ghosts-first_over : goal.ghosts-first_over
ghosts-first_over a = record { name = a.blank.name; parts = a.blank.parts }
