-- The entries of a journal as lines: those of the changes of each group.
use Rattle.std.specs.Prelude.{◌≡◌, ℕ, ◌≤◌, List, length, map, Option, None, Some, Result, Ok, Err}
use Rattle.disk.specs.Disk.{Content, MayLeave}
use Rattle.change_journal.specs.Spelled.{Group, spelled}
use Rattle.change_journal.specs.Entries.{entries}
use Rattle.change_journal.specs.Journals.{AllHave}

-- the lines of groups, those of each group by themselves
abbrev pub lines_in : List Group → List (List (List ℕ))
lines_in groups = map (map spelled) groups

-- and those of the entries of a journal
abbrev pub read_lines : Result (List Group) ℕ → Option (List (List (List ℕ)))
read_lines (Ok groups) = Some (lines_in groups)
read_lines (Err at) = None

-- where every crash image of a disk has these lines, all have the same groups, which have these lines
abbrev pub LinesTellGroups : Type 0
LinesTellGroups = (content : Option Content) (es : List (List (List ℕ))) → ((held : Content) → content ≡ Some held → held.stable ≤ length held.bytes)
    → ((image : List ℕ) → MayLeave content image → read_lines (entries image) ≡ Some es)
    → (groups : List Group) × (lines_in groups ≡ es) × AllHave groups content
