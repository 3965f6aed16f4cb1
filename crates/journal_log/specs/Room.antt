-- The room that a journal has for changes.
use Rattle.std.specs.Prelude.{ℕ, Bool, true, false, List, [], ◌∷◌, Ok}
use Rattle.change_journal.specs.Spelled.{Group}
use Rattle.change_journal.specs.States.{JournalState}
use Rattle.change_journal.specs.Journals.{is_full, after_append}

-- no change is no group
abbrev pub groups_of : Group → List Group
groups_of [] = []
groups_of group = group ∷ []

-- whether a journal that ends at a place has no room for changes, and the journal with them
abbrev pub lacks_room : ℕ → Group → Bool
lacks_room end [] = false
lacks_room end group = is_full end group

abbrev pub grown : Group → JournalState → JournalState
grown [] journal = journal
grown group journal = after_append (Ok (tt {0})) group journal

-- the groups that are appended: none where there is no room
abbrev pub appended_by : Group → Bool → List Group
appended_by group true = []
appended_by group false = groups_of group

abbrev pub appended_to : ℕ → Group → List Group
appended_to end group = appended_by group (lacks_room end group)
