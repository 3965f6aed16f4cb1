use Rattle.layer_tests.proofs.feeds.first_of_all.Given as goal

abbrev pub ghosts-first_at_nothing : goal.ghosts-first_at_nothing
ghosts-first_at_nothing a = record { name = a.blank.name; parts = a.blank.parts }
