-- What a journal promises of its disk.
use Rattle.std.specs.Prelude.{◌≡◌, ◌⊎◌, ℕ, ◌+◌, ◌^◌, ◌||◌, nat_le, Bool, true, List, [], ◌∷◌, ◌++◌, length, Option, None, Some, Result, Ok, Err, ⊤}
use Rattle.disk.specs.Disk.{Content, IsImage, MayLeave, BrokeOff}
use Rattle.change_journal.specs.States.{JournalState}
use Rattle.change_journal.specs.Spelled.{Group, group_text}
use Rattle.change_journal.specs.Entries.{read_journal, entries, IsSized}
use Rattle.change_journal.specs.declared.fault.JournalFault.{JournalFault}
use Rattle.change_journal.specs.declared.fault.JournalFault.TheVariants as fault

-- the disk is one whose journal ends at this place
abbrev pub IsOpenAt : ℕ → Option Content → Type 0
IsOpenAt end content = (held : Content) → content ≡ Some held → (groups : List Group) × (read_journal held.bytes ≡ Ok (record { groups = groups; end = end }))

-- every crash image has these entries
abbrev pub AllHave : List Group → Option Content → Type 0
AllHave groups content = (image : List ℕ) → MayLeave content image → entries image ≡ Ok groups

-- an image has the entries from before, with one group more or without it
abbrev pub IsBeforeOrAfter : List Group → Group → List ℕ → Type 0
IsBeforeOrAfter groups group image = (entries image ≡ Ok groups) ⊎ (entries image ≡ Ok (groups ++ group ∷ []))

-- what a crash might leave while n bytes are written at a place and then made stable
abbrev pub MayHaveWritten : ℕ → ℕ → Option Content → List ℕ → Type 0
MayHaveWritten at n None image = ⊤
MayHaveWritten at n (Some held) image = IsImage held image ⊎ ((left : Content) × BrokeOff at n held left × IsImage left image)

-- what these bytes are, written behind the first byte of an entry: the length of the text of a group, the text, and a byte 0
abbrev pub IsEntryOf : Group → List ℕ → Type 0
IsEntryOf group bytes = (sized : List ℕ) × (bytes ≡ sized ++ 0 ∷ []) × IsSized sized group

-- where what is written for a group ends, its closing byte among it
abbrev pub written_end : ℕ → Group → ℕ
written_end end group = end + 6 + length (group_text group)

-- whether a journal that ends at a place has no room for a group: what is written would end at 2^62 or later, or the length
-- of the text takes more than four bytes
abbrev pub is_full : ℕ → Group → Bool
is_full end group = nat_le (2 ^ 62) (written_end end group) || nat_le (2 ^ 32) (length (group_text group))

-- the journal after it was asked to add a group
abbrev pub after_append : {A : Type 0} → Result A JournalFault → Group → JournalState → JournalState
after_append (Ok a) group old = record old { end = old.end + 5 + length (group_text group) }
after_append (Err fault.DiskFault) group old = record old { is_shut = true }
after_append (Err other) group old = old

-- an image has these entries, and a front of those that follow
pub record HasFront (groups more : List Group) (image : List ℕ) : Type 0 where
  pub front : List Group
  pub rest : List Group
  pub are : more ≡ front ++ rest
  pub hold : entries image ≡ Ok (groups ++ front)

-- what is in doubt of a group on the way to an answer: the group where it was added or the disk failed, and else nothing
abbrev pub doubted : {A : Type 0} → Result A JournalFault → Group → List Group
doubted (Ok a) group = group ∷ []
doubted (Err fault.DiskFault) group = group ∷ []
doubted (Err other) group = []

-- an image has these entries
abbrev pub Has : List Group → List ℕ → Type 0
Has groups image = entries image ≡ Ok groups
