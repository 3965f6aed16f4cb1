-- How often changes of rows bring and take each row.
use Rattle.std.specs.Prelude.{◌≡◌, Bool, true, false, ◌||◌, List, count_by, IsTrue}
use Rattle.std.specs.List.{AllByRecursion}
use Rattle.counts.specs.Counted.{counted}
use Rattle.schema_model.specs.declared.change.Change.{Change}
use Rattle.schema_model.specs.declared.change.Change.TheVariants.{Insert, Delete}
use Rattle.change_draft.specs.declared.counted.RowCounts.{RowCounts}
use Rattle.change_draft.specs.Named.{NamedRow, named, named_eq}

-- whether a change inserts or deletes a row, and whether this one
abbrev pub inserts : Change → Bool
inserts (Insert db rel row) = true
inserts g = false

abbrev pub deletes : Change → Bool
deletes (Delete db rel row) = true
deletes g = false

abbrev pub brings : NamedRow → Change → Bool
brings n (Insert db rel row) = named_eq (named db rel row) n
brings n g = false

abbrev pub takes : NamedRow → Change → Bool
takes n (Delete db rel row) = named_eq (named db rel row) n
takes n g = false

-- a change of rows
abbrev pub is_of_rows : Change → Bool
is_of_rows g = inserts g || deletes g

-- how often changes of rows bring and take each row, and how many they bring and take in all
pub record AreCounted (t : RowCounts) (gs : List Change) : Type 0 where
  pub of_rows : AllByRecursion (λ g. IsTrue (is_of_rows g)) gs
  pub came : (n : NamedRow) → counted named_eq t.came n ≡ count_by (brings n) gs
  pub went : (n : NamedRow) → counted named_eq t.went n ≡ count_by (takes n) gs
  pub come : t.come ≡ count_by inserts gs
  pub gone : t.gone ≡ count_by deletes gs
