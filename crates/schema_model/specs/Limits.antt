-- The most of each thing that a catalogue may have.
use Rattle.std.specs.Prelude.{ℕ}

abbrev pub most_databases : ℕ
most_databases = 200

-- of one database
abbrev pub most_relations : ℕ
most_relations = 4000

-- of one relation
abbrev pub most_attributes : ℕ
most_attributes = 4000

-- of all relations together
abbrev pub most_rows : ℕ
most_rows = 1000000
