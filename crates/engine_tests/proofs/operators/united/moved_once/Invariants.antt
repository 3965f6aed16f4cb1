use Rattle.engine_tests.proofs.operators.united.moved_once.Given as goal

abbrev pub ghosts-moved : goal.ghosts-moved
ghosts-moved a = record { name = a.blank.name; parts = a.blank.parts }
