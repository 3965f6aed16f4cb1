use Rattle.run_tests.proofs.place.run_over_disk.Given as goal

abbrev pub ghosts-run_counting_on : goal.ghosts-run_counting_on
ghosts-run_counting_on g a = record { name = a.blank.name; parts = a.blank.parts }
