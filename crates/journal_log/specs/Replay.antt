-- The catalogue after the entries of a journal.
use Rattle.std.specs.Prelude.{◌≡◌, ℕ, ◌+◌, List, [], ◌∷◌, ◌++◌, length, Option, is_some, Result, Ok, Err, if◌then◌else◌, ⊤}
use Rattle.disk.specs.Disk.{Content}
use Rattle.schema_model.specs.Catalogue.{CatalogueValue}
use Rattle.schema_model.specs.Changes.{after_all}
use Rattle.schema_model.specs.Refusals.{group_fault}
use Rattle.change_journal.specs.Spelled.{Group}
use Rattle.change_journal.specs.States.{JournalState, WindowState}
use Rattle.change_journal.specs.Entries.{Reading, read_journal}
use Rattle.change_journal.specs.Opening.{HasRead, Says}
use Rattle.change_journal.specs.declared.entries.NextEntry.{NextEntry}
use Rattle.change_journal.specs.declared.entries.NextEntry.TheVariants.{Entry, End}
use Rattle.journal_log.specs.declared.fault.JournalRefusal.{JournalRefusal}
use Rattle.journal_log.specs.declared.fault.JournalRefusal.TheVariants as refusal
use Rattle.journal_log.specs.declared.fault.ReplayFault.{ReplayFault}
use Rattle.journal_log.specs.declared.fault.ReplayFault.TheVariants as fault

-- a catalogue after groups that are made one after another, or the number of the first that is refused, where the first of all has the number n
abbrev pub replayed_from : ℕ → CatalogueValue → List Group → Result CatalogueValue ℕ
replayed_from n c [] = Ok c
replayed_from n c (group ∷ groups) = if is_some (group_fault c group) then Err n else replayed_from (n + 1) (after_all c group) groups

-- the catalogue after a journal, and the place of its end
pub record Replay : Type 0 where
  pub catalogue : CatalogueValue
  pub end : ℕ

abbrev pub by_groups : ℕ → Result CatalogueValue ℕ → Result Replay JournalRefusal
by_groups end (Ok c) = Ok (record { catalogue = c; end = end })
by_groups end (Err n) = Err (refusal.Stale n)

-- a journal that says nothing at a place is refused first
abbrev pub by_reading : CatalogueValue → Result Reading ℕ → Result Replay JournalRefusal
by_reading c (Ok read) = by_groups read.end (replayed_from 1 c read.groups)
by_reading c (Err at) = Err (refusal.BadJournal at)

-- a catalogue after the journal of these bytes, or why it is refused
abbrev pub replayed : CatalogueValue → List ℕ → Result Replay JournalRefusal
replayed c bytes = by_reading c (read_journal bytes)

-- what a replay gives, where no call failed and there was memory: c is the catalogue after it
abbrev pub Replays : Result Replay JournalRefusal → CatalogueValue → Result JournalState ReplayFault → Type 0
Replays r c (Ok journal) = r ≡ Ok (record { catalogue = c; end = journal.end })
Replays r c (Err (fault.Refused f)) = r ≡ Err f
Replays r c (Err f) = ⊤

-- on the way: so many groups were read and made
pub record Replaying (first now : CatalogueValue) (count : ℕ) (s : WindowState) (content : Option Content) : Type 0 where
  pub groups : List Group
  pub read : HasRead groups s content
  pub made : replayed_from 1 first groups ≡ Ok now
  pub counted : length groups ≡ count

-- what a reader that had read these groups knows now: one group more, or all that the journal says
abbrev pub ReadsNext : List Group → WindowState → Option Content → Result NextEntry ReplayFault → Type 0
ReadsNext groups s content (Ok (Entry group)) = HasRead (groups ++ group.items ∷ []) s content
ReadsNext groups s content (Ok (End journal)) = Says (Ok (record { groups = groups; end = journal.end })) content
ReadsNext groups s content (Err (fault.Refused (refusal.BadJournal at))) = Says (Err at) content
ReadsNext groups s content (Err f) = ⊤

-- what one knows that read to the end: these groups and more are all that the journal says, or where it says nothing
abbrev pub ReadsOut : {A : Type 0} → List Group → Option Content → Result A ReplayFault → Type 0
ReadsOut groups content (Ok a) = (more : List Group) × (end : ℕ) × Says (Ok (record { groups = groups ++ more; end = end })) content
ReadsOut groups content (Err (fault.Refused (refusal.BadJournal at))) = Says (Err at) content
ReadsOut groups content (Err f) = ⊤
