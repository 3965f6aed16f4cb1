use Rattle.engine_tests.proofs.operators.side_by_side.Given as goal

abbrev pub ghosts-equal_beside_first : goal.ghosts-equal_beside_first
ghosts-equal_beside_first a = record { name = a.blank.name; parts = a.blank.parts }
