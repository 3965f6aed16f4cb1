use Rattle.engine_tests.proofs.plans.moves_so.Given as goal

abbrev pub ghosts-is_worked : goal.ghosts-is_worked
ghosts-is_worked a = record { name = a.blank.name; parts = a.blank.parts }
