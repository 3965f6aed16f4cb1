use Rattle.engine_tests.proofs.pages.born.Given as goal

abbrev pub ghosts-born_moves : goal.ghosts-born_moves
ghosts-born_moves a = record { name = a.blank.name; parts = a.blank.parts }
