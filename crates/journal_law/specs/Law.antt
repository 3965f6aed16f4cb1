-- What the course of a view with a journal comes to.
use Rattle.std.specs.Prelude.{◌≡◌, ◌⊎◌, ℕ, true, List, [], Option, Some}
use Rattle.ss_text.specs.Texts.{Text}
use Rattle.tab_lines.specs.Lines.{lines_of}
use Rattle.outside.specs.Tree.{Tree}
use Rattle.outside.specs.Whole.{IsWhole}
use Rattle.outside.specs.Effects.{World, contents}
use Rattle.course.specs.Answering.{Continues}
use Rattle.course.specs.Keeping.{Entry, HasFront, noted}
use Rattle.change_journal.specs.Entries.{entries}
use Rattle.change_journal.specs.Lines.{read_lines}
use Rattle.course.specs.declared.exit.Status.{Status}
use Rattle.course.specs.declared.exit.Status.TheVariants as status
use Rattle.course.specs.Course.{Course, Did, HeldUp, GaveOutStatus, by_lines, is_done_status}
use Rattle.view_stages.specs.Stages.{DefinitionOrRefusal}
use Rattle.view_stages.specs.Opening.{IsDefinition, definition_bytes}
use Rattle.journal_answers.specs.Answers.{step, note, finish}
use Rattle.journal_answers.specs.Opening.{opening}
use Rattle.journal_law.specs.Promises.{IsReplayed, journal_at_first, IsJournaled, IsJournalCutOff, IsJournalHeldUp, IsJournalFull, OpensAgain}

-- what was done where a run with a disk ends so; the disk may have failed before its opening did anything
abbrev pub JournalDid : Course → List ℕ → Option (List ℕ) → World → World → Status → Type 0
JournalDid c bytes rest old new status.DiskFault = (contents new ≡ contents old) ⊎ HeldUp c bytes old new
JournalDid c bytes rest old new s = Did c bytes rest old new s

-- what was done where a view is opened over a tree that is told, with a journal of these bytes, and answers lines
abbrev pub DidOver : Text → Tree → List ℕ → DefinitionOrRefusal → List ℕ → Option (List ℕ) → World → World → Status → Type 0
DidOver name t held d bytes rest old new s =
    IsDefinition name (definition_bytes t name) d × (old.store.tree ≡ Some t) × IsWhole t × JournalDid (by_lines step finish (opening t held d)) bytes rest old new s

-- where it was done, the view was kept up to date with its journal over all lines of the input
abbrev pub DoneIsJournaled : Type 0
DoneIsJournaled =
    (name : Text) (t : Tree) (held : List ℕ) (d : DefinitionOrRefusal) (bytes : List ℕ) (rest : Option (List ℕ)) (old new : World) (s : Status)
    → DidOver name t held d bytes rest old new s → is_done_status s ≡ true → IsJournaled d t held (lines_of bytes) old new s

-- where its input gave out, the view is that of the last sync
abbrev pub CutOffIsJournaled : Type 0
CutOffIsJournaled =
    (name : Text) (t : Tree) (held : List ℕ) (d : DefinitionOrRefusal) (bytes : List ℕ) (rest : Option (List ℕ)) (old new : World) (s : Status)
    → DidOver name t held d bytes rest old new s → GaveOutStatus old new s → IsJournalCutOff d t held bytes rest old new

-- and so it is where the disk failed at a line
abbrev pub HeldUpIsJournaled : Type 0
HeldUpIsJournaled =
    (name : Text) (t : Tree) (held : List ℕ) (d : DefinitionOrRefusal) (bytes : List ℕ) (rest : Option (List ℕ)) (old new : World)
    → DidOver name t held d bytes rest old new status.DiskFault → IsJournalHeldUp d t held (lines_of bytes) old new

-- and where the journal is full
abbrev pub FullIsJournaled : Type 0
FullIsJournaled =
    (name : Text) (t : Tree) (held : List ℕ) (d : DefinitionOrRefusal) (bytes : List ℕ) (rest : Option (List ℕ)) (old new : World)
    → DidOver name t held d bytes rest old new status.JournalFull → IsJournalFull d t held (lines_of bytes) old new

-- bytes that hold the entries at first, and a front of what lines keep, open the view as it is behind the lines that kept that front
abbrev pub KeptAreMade : Type 0
KeptAreMade =
    (d : DefinitionOrRefusal) (t : Tree) (held : List ℕ) (r : IsReplayed d t held) (es : List Entry) (lines : List (List ℕ)) (image : List ℕ)
    → read_lines (entries held) ≡ Some es → HasFront (λ bs. read_lines (entries bs)) es (noted step note lines (Continues [] (journal_at_first r))) image
    → OpensAgain r es lines image
