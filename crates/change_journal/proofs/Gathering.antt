-- The groups that a reader has read, one after another.
use Rattle.std.proofs.Common.{◌≡◌, ℕ, List, [], ◌∷◌, ◌++◌, Option, Some, Result, Ok, Err, refl, sym, ap, ◌∙◌}
use Rattle.disk.specs.Disk.{Content}
use Rattle.change_journal.specs.States.{WindowState}
use Rattle.change_journal.specs.Spelled.{Group}
use Rattle.change_journal.specs.Entries.{Reading, with_group, with_groups}
use Rattle.change_journal.specs.Opening.{IsNextOf, HasRead, ReadsOn, read_at}
use Rattle.change_journal.specs.declared.entries.NextEntry.{NextEntry}
use Rattle.change_journal.specs.declared.entries.NextEntry.TheVariants.{Entry, End}
use Rattle.change_journal.specs.declared.fault.JournalFault.{JournalFault}
use Rattle.change_journal.specs.declared.fault.JournalFault.TheVariants as fault
use Rattle.change_journal.proofs.Readings.{with_groups_end}

with_groups_more : (groups : List Group) (group : Group) (read : Result Reading ℕ) → with_groups (groups ++ group ∷ []) read ≡ with_groups groups (with_group group read)
with_groups_more [] group read = refl
with_groups_more (g ∷ groups) group read = ap (with_group g) (with_groups_more groups group read)

with_groups_err : (groups : List Group) (at : ℕ) → with_groups groups (Err at) ≡ Err at
with_groups_err [] at = refl
with_groups_err (g ∷ groups) at = ap (with_group g) (with_groups_err groups at)

-- what is read next stands behind the groups that were read
pub reads_on : (groups : List Group) (old new : WindowState) (before after : Option Content) (r : Result NextEntry JournalFault) → after ≡ before
    → ((held : Content) → before ≡ Some held → IsNextOf (read_at old.place held.bytes) (read_at new.place held.bytes) r) → HasRead groups old before → ReadsOn groups new after r
reads_on groups old new before after (Ok (Entry group)) same next read = λ held told.
    let was : before ≡ Some held = sym same ∙ told in
    read held was ∙ ap (with_groups groups) (next held was) ∙ sym (with_groups_more groups group.items (read_at new.place held.bytes))
reads_on groups old new before after (Ok (End journal)) same next read = λ held told.
    let was : before ≡ Some held = sym same ∙ told in
    read held was ∙ ap (with_groups groups) (next held was) ∙ with_groups_end groups journal.end
reads_on groups old new before after (Err (fault.BadJournal at)) same next read = λ held told.
    let was : before ≡ Some held = sym same ∙ told in
    read held was ∙ ap (with_groups groups) (next held was) ∙ with_groups_err groups at
reads_on groups old new before after (Err fault.Full) same next read = λ held told.
    let was : before ≡ Some held = sym same ∙ told in
    read held was ∙ ap (with_groups groups) (next held was)
reads_on groups old new before after (Err fault.DiskFault) same next read = λ held told.
    let was : before ≡ Some held = sym same ∙ told in
    read held was ∙ ap (with_groups groups) (next held was)
reads_on groups old new before after (Err fault.Shut) same next read = λ held told.
    let was : before ≡ Some held = sym same ∙ told in
    read held was ∙ ap (with_groups groups) (next held was)
reads_on groups old new before after (Err fault.NoMemory) same next read = λ held told.
    let was : before ≡ Some held = sym same ∙ told in
    read held was ∙ ap (with_groups groups) (next held was)
