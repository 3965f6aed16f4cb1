use Rattle.engine_tests.proofs.pages.shown.Given as goal

abbrev pub ghosts-page_moves : goal.ghosts-page_moves
ghosts-page_moves a = record { name = a.blank.name; parts = a.blank.parts }
