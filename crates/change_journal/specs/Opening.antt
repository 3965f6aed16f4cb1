-- How a journal is read, entry by entry.
use Rattle.std.specs.Prelude.{◌≡◌, ℕ, ◌+◌, ◌<◌, ◌≤◌, ◌==◌, false, List, [], ◌∷◌, ◌++◌, length, take, drop, Option, Some, Result, Ok, Err, IsTrue, ⊤, if◌then◌else◌}
use Rattle.std.specs.List.{AllByRecursion}
use Rattle.schema_model.specs.Changes.{is_well_formed}
use Rattle.disk.specs.Disk.{Content}
use Rattle.change_journal.specs.States.{WindowState}
use Rattle.change_journal.specs.Spelled.{Group}
use Rattle.change_journal.specs.Entries.{Reading, number_of, with_group, with_groups, read_from, read_journal}
use Rattle.change_journal.specs.declared.mark.Mark.{Mark}
use Rattle.change_journal.specs.declared.mark.Mark.TheVariants as mark
use Rattle.change_journal.specs.declared.entries.NextEntry.{NextEntry}
use Rattle.change_journal.specs.declared.entries.NextEntry.TheVariants.{Entry, End}
use Rattle.change_journal.specs.declared.fault.JournalFault.{JournalFault}
use Rattle.change_journal.specs.declared.fault.JournalFault.TheVariants as fault

-- what is ahead stands on the disk from the place on
pub record IsAhead (s : WindowState) (bytes : List ℕ) : Type 0 where
  pub size : s.size ≡ length bytes
  pub ahead : s.ahead ≡ take (length s.ahead) (drop s.place bytes)

-- the reader is one of what the disk holds
abbrev pub IsReading : WindowState → Option Content → Type 0
IsReading s content = (held : Content) → content ≡ Some held → IsAhead s held.bytes

-- what a journal says from a place on
abbrev pub read_at : ℕ → List ℕ → Result Reading ℕ
read_at place bytes = read_from 0 place (drop place bytes)

-- the length of the text of an entry, which stands behind its first byte
abbrev pub mark_behind : List ℕ → Mark
mark_behind (a ∷ b ∷ c ∷ d ∷ bytes) = mark.Sized (number_of a b c d)
mark_behind bytes = mark.Nothing

-- what stands first in these bytes: a byte 0 is the end, and any other with a length behind it begins an entry
abbrev pub mark_of : List ℕ → Mark
mark_of [] = mark.Nothing
mark_of (b ∷ bytes) = if b == 0 then mark.End else mark_behind bytes

-- what was read next, of what was to be read, and what is to be read after it
abbrev pub IsNextOf : Result Reading ℕ → Result Reading ℕ → Result NextEntry JournalFault → Type 0
IsNextOf read later (Ok (Entry group)) = read ≡ with_group group.items later
IsNextOf read later (Ok (End journal)) = read ≡ Ok (record { groups = []; end = journal.end })
IsNextOf read later (Err (fault.BadJournal at)) = read ≡ Err at
IsNextOf read later (Err other) = read ≡ later

-- an entry leads on, and all else leaves the place; at the end the journal is open
abbrev pub GoesOn : WindowState → WindowState → Result NextEntry JournalFault → Type 0
GoesOn old new (Ok (Entry group)) = (old.place < new.place) × (new.place ≤ new.size)
GoesOn old new (Ok (End journal)) = (new.place ≡ old.place) × (journal.is_shut ≡ false)
GoesOn old new (Err e) = new.place ≡ old.place

-- a line can say each change that was read
abbrev pub IsFormed : NextEntry → Type 0
IsFormed (Entry group) = AllByRecursion (λ g. IsTrue (is_well_formed g)) group.items
IsFormed (End journal) = ⊤

-- what the disk holds says this as a journal
abbrev pub Says : Result Reading ℕ → Option Content → Type 0
Says read content = (held : Content) → content ≡ Some held → read_journal held.bytes ≡ read

-- these groups stand before the place of a reader
abbrev pub HasRead : List Group → WindowState → Option Content → Type 0
HasRead groups s content = (held : Content) → content ≡ Some held → read_journal held.bytes ≡ with_groups groups (read_at s.place held.bytes)

-- what a reader that had read these groups knows now: one group more, or all that the journal says
abbrev pub ReadsOn : List Group → WindowState → Option Content → Result NextEntry JournalFault → Type 0
ReadsOn groups s content (Ok (Entry group)) = HasRead (groups ++ group.items ∷ []) s content
ReadsOn groups s content (Ok (End journal)) = Says (Ok (record { groups = groups; end = journal.end })) content
ReadsOn groups s content (Err (fault.BadJournal at)) = Says (Err at) content
ReadsOn groups s content (Err other) = HasRead groups s content
