use Rattle.engine_tests.proofs.operators.one_after_the_other.Given as goal

abbrev pub ghosts-second_then_differing : goal.ghosts-second_then_differing
ghosts-second_then_differing a = record { name = a.blank.name; parts = a.blank.parts }
