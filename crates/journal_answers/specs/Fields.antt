-- Why a journal is refused.
use Rattle.std.specs.Prelude.{[], ◌∷◌, codes, decimal}
use Rattle.ss_text.specs.Texts.{Row}
use Rattle.journal_log.specs.declared.fault.JournalRefusal.{JournalRefusal}
use Rattle.journal_log.specs.declared.fault.JournalRefusal.TheVariants as refusal

-- it says nothing at a place; or a change of an entry, which has this number, is refused
abbrev pub journal_fields : JournalRefusal → Row
journal_fields (refusal.BadJournal at) = codes "bad-journal" ∷ decimal at ∷ []
journal_fields (refusal.Stale number) = codes "journal-stale" ∷ decimal number ∷ []
