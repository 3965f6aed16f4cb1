use Rattle.part_bench.proofs.joins.moved.Given as goal

abbrev pub ghosts-moves : goal.ghosts-moves
ghosts-moves a = record { name = a.blank.name; parts = a.blank.parts }
