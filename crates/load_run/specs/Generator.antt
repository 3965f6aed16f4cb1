-- The changes of a run, each told by its place, from 0, and a seed.
use Rattle.std.specs.Prelude.{ℕ, ◌+◌, ◌-◌, ◌/◌, ◌%◌, ◌==◌, nat_lt, [], ◌∷◌, ◌++◌, codes, decimal, if◌then◌else◌}
use Rattle.ss_text.specs.Texts.{Row}
use Rattle.schema_model.specs.declared.change.Change.{Change}
use Rattle.schema_model.specs.declared.change.Change.TheVariants.{Insert, Delete}

-- the key and the column of a place, with a value
abbrev pub row_with : ℕ → ℕ → ℕ → Row
row_with value seed i = (codes "k" ++ decimal (i / 10)) ∷ (codes "d" ++ decimal ((i + seed) % 8)) ∷ decimal value ∷ []

-- the row of a place
abbrev pub row_at : ℕ → ℕ → Row
row_at seed i = row_with (i + seed) seed i

-- a row is put into the relation, or taken out of it
abbrev pub inserts : Row → Change
inserts row = Insert (codes "g") (codes "r") row

abbrev pub deletes : Row → Change
deletes row = Delete (codes "g") (codes "r") row

-- of each ten changes, eight insert a row, the ninth deletes the first of these, and the last inserts another value for
-- the key and the column of the third
abbrev pub change_at : ℕ → ℕ → Change
change_at seed i =
    let last = i % 10 in
    if nat_lt last 8 then inserts (row_at seed i) else
    if last == 8 then deletes (row_at seed (i - 8)) else inserts (row_with (i + seed) seed (i - 7))
