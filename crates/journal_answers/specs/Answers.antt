-- How an opened view with a journal answers the lines of its input: as `maintain` does, but that changes are appended before they are made, and that a sync leaves the sources as they are.
use Rattle.std.specs.Prelude.{◌≡◌, ℕ, Bool, true, false, List, [], ◌++◌, option_to_list, unwrap_or, Result, if◌then◌else◌}
use Rattle.ss_text.specs.Texts.{Row}
use Rattle.tab_lines.specs.Spelling.{unspell}
use Rattle.schema_model.specs.Changes.{after_all}
use Rattle.course.specs.declared.status.Verdict.TheVariants as verdict
use Rattle.course.specs.Answering.{Reply, Continues, Finishes, Ending}
use Rattle.course.specs.Keeping.{Entry}
use Rattle.change_journal.specs.Spelled.{Group, said_by_row}
use Rattle.change_journal.specs.Lines.{lines_in}
use Rattle.journal_log.specs.Room.{lacks_room, grown, appended_to}
use Rattle.view_stages.specs.Open.{OpenValue}
use Rattle.view_stages.specs.Syncs.{view_effects}
use Rattle.opened_view.specs.Answers.{Answer, Said, Scripts, answer_by, syncing_view, end_effects, end_view}
use Rattle.journal_answers.specs.declared.view.JournalView.{JournalView}

-- the changes that a line asks for: those that the open group holds, or where none is open the one that the line says
abbrev pub asked_of : OpenValue → Result Row ℕ → Group
asked_of o row = unwrap_or o.session.held (option_to_list (said_by_row row))

-- they are made where the answer is a script, and else none is
abbrev pub made_by : Said → Group → Group
made_by (Scripts lines) gs = gs
made_by said gs = []

-- the answer to a line of an opened view, and the changes that it makes
abbrev pub answer : OpenValue → List ℕ → Answer
answer o line = answer_by syncing_view o line

abbrev pub made : OpenValue → List ℕ → Group
made o line = made_by (answer o line).said (asked_of o (unspell line))

-- the catalogue behind an answer is that after the changes that it makes
abbrev pub LinesMakeChanges : Type 0
LinesMakeChanges = (o : OpenValue) (line : List ℕ) → (answer o line).view.session.catalogue ≡ after_all o.session.catalogue (made o line)

-- an answer that makes changes is given where the journal has room for them; a full one ends the run, and nothing is made
abbrev pub by_room : JournalView → Answer → Group → Bool → Reply JournalView
by_room f a gs true = Finishes [] verdict.JournalFull
by_room f a gs false = Continues a.effects (record { view = a.view; journal = grown gs f.journal })

abbrev pub replying : JournalView → Answer → Group → Reply JournalView
replying f a gs = by_room f a gs (lacks_room f.journal.end gs)

abbrev pub step : JournalView → List ℕ → Reply JournalView
step f line = replying f (answer f.view line) (made f.view line)

-- what is kept of a line: the changes that it makes, as one entry, where there are some and the journal has room for them
abbrev pub note : JournalView → List ℕ → List Entry
note f line = lines_in (appended_to f.journal.end (made f.view line))

-- at the end of the input an open group is refused, and then comes one more sync
abbrev pub finish : JournalView → Ending
finish f = record { effects = end_effects f.view ++ view_effects (end_view f.view); status = if (end_view f.view).refused then verdict.SomeRefused else verdict.Done }

-- a view that was opened, with a journal that ends at a place
abbrev pub ended_at : ℕ → OpenValue → JournalView
ended_at end o = record { view = o; journal = record { end = end; is_shut = false } }
