-- What the steps of an opened view with a journal answer, against the definitions.
use Rattle.std.specs.Prelude.{◌≡◌, ◌≢◌, ℕ, Bool, true, false, List, [], ◌∷◌, Option, None, is_some, Result, Ok, Err, IfErr, IsTrue}
use Rattle.ss_text.specs.Texts.{Row}
use Rattle.disk.specs.Disk.{DiskState}
use Rattle.outside.specs.Effects.{World, contents, Partly}
use Rattle.outside.specs.declared.stop.Stop.{Stop}
use Rattle.outside.specs.declared.stop.Stop.TheVariants as stop
use Rattle.schema_model.specs.Changes.{is_well_formed}
use Rattle.schema_model.specs.Refusals.{fault}
use Rattle.schema_model.specs.declared.change.Change.{Change}
use Rattle.flow_law.specs.declared.line.TableLine.{TableLine}
use Rattle.course.specs.declared.status.Verdict.{Verdict}
use Rattle.course.specs.declared.status.LineStop.{LineStop}
use Rattle.course.specs.declared.status.LineStop.TheVariants as line_stop
use Rattle.course.specs.Answering.{Reply, Answered, BlamesLine, effects_of}
use Rattle.course.specs.Keeping.{Entry, LeavesNow, Keeps, LineBlamesDisk}
use Rattle.change_journal.specs.Spelled.{Group}
use Rattle.change_journal.specs.Lines.{lines_in}
use Rattle.change_journal.specs.States.{JournalState}
use Rattle.journal_log.specs.Logs.{log_of, IsReady}
use Rattle.journal_log.specs.Room.{lacks_room, grown, appended_to}
use Rattle.view_session.specs.Session.{working}
use Rattle.view_session.specs.Limits.{limit_of}
use Rattle.course.specs.Course.{verdict_status, is_refused_status}
use Rattle.ss_print.specs.Printing.{prints_script}
use Rattle.view_stages.specs.Open.{OpenValue}
use Rattle.view_stages.specs.Stages.{refusal_of}
use Rattle.opened_view.specs.Answers.{Answer, Said, Scripts, by_fault, by_group, syncing_view}
use Rattle.opened_view.specs.Steps.{Begins, EndsRun}
use Rattle.journal_answers.specs.declared.asking.Asked.{Asked}
use Rattle.journal_answers.specs.declared.asking.Asked.TheVariants as asked
use Rattle.journal_answers.specs.declared.taking.Taken.{Taken}
use Rattle.journal_answers.specs.declared.taking.Taken.TheVariants as taken
use Rattle.journal_answers.specs.declared.view.JournalView.{JournalView}
use Rattle.journal_answers.specs.declared.opening.Opened.{Opened}
use Rattle.journal_answers.specs.declared.opening.Opened.TheVariants as opened_as
use Rattle.journal_answers.specs.Answers.{asked_of, replying}

-- a change that is judged, and a group that ends without a refused line
abbrev pub judging : OpenValue → Change → Answer
judging o g = by_fault o g (fault (working o.session) g)

abbrev pub ending_group : OpenValue → Answer
ending_group o = by_group o (refusal_of (working o.session) o.session.query)

abbrev pub is_script : Said → Bool
is_script (Scripts lines) = true
is_script said = false

-- a row asks for a change, where no group is open; for the end of the open group; for a sync; or it is answered alike whatever a sync does, and makes no change. leaving, saving: its answer where a sync leaves the sources as they are, and where it saves them; most: the bound on its steps
pub record AsksChange (o : OpenValue) (row : Row) (leaving : Answer) (most : Option ℕ) (g : Change) : Type 0 where
  pub alone : o.session.held ≡ None
  pub formed : IsTrue (is_well_formed g)
  pub asks : asked_of o (Ok row) ≡ g ∷ []
  pub judged : leaving ≡ judging o g
  pub bound : most ≡ limit_of o.session g

pub record AsksGroup (o : OpenValue) (row : Row) (leaving : Answer) (most : Option ℕ) : Type 0 where
  pub open_group : is_some o.session.held ≡ true
  pub ends : leaving ≡ ending_group o
  pub bound : most ≡ None

pub record AsksOther (leaving saving : Answer) : Type 0 where
  pub alike : leaving ≡ saving
  pub quiet : is_script leaving.said ≡ false

abbrev pub Asks : OpenValue → Row → Answer → Answer → Option ℕ → Asked → Type 0
Asks o row leaving saving most (asked.Change g) = AsksChange o row leaving most g
Asks o row leaving saving most asked.Group = AsksGroup o row leaving most
Asks o row leaving saving most asked.Sync = leaving ≡ syncing_view o
Asks o row leaving saving most asked.Other = AsksOther leaving saving

-- what became of changes that were asked for: they were kept and made, and their script is to be printed; they were refused, and that is to be told; or the journal has no room for them. gs: those that the answer makes; n: the view with its journal then; refuse, left: how they are refused, and the view that is left
pub record TakesScript (f : JournalView) (a : Answer) (gs : Group) (n : JournalView) (lines : List TableLine) : Type 0 where
  pub prints : a.effects ≡ prints_script lines ∷ []
  pub room : lacks_room f.journal.end gs ≡ false
  pub took : n ≡ record { view = a.view; journal = grown gs f.journal }

pub record TakesNone (f : JournalView) (a : Answer) (gs : Group) (n : JournalView) (refused : Answer) (left : OpenValue) : Type 0 where
  pub none : gs ≡ []
  pub refuses : a ≡ refused
  pub stays : n ≡ record { view = left; journal = f.journal }

abbrev pub Became : (OpenValue → Row → Answer) → JournalView → Answer → Group → OpenValue → JournalView → Taken → Type 0
Became refuse f a gs left n (taken.Made lines) = TakesScript f a gs n lines
Became refuse f a gs left n (taken.Refused fields) = TakesNone f a gs n (refuse f.view fields) left
Became refuse f a gs left n taken.Full = lacks_room f.journal.end gs ≡ true

-- the answer to a line behind a call: the run goes on, or it stopped there
abbrev pub said : {A : Type 0} → Result A Stop → Result (Option Verdict) LineStop
said (Ok a) = Ok None
said (Err e) = Err (line_stop.Stopped e)

-- an answer that makes changes was given, over the disk d, which is e then, or it stopped
pub record Acts {D : Type 0} (state : D → DiskState) (left_since : D → ℕ → List ℕ → Type 0) (f : JournalView) (a : Answer) (gs : Group) (d e : D) (old new : World) (n : JournalView) (r : Result (Option Verdict) LineStop) : Type 0 where
  pub answered : Answered (replying f a gs) old new n r
  pub keeps : (es : List Entry) → LeavesNow (log_of state left_since) es d → Keeps (log_of state left_since) es (lines_in (appended_to f.journal.end gs)) d e old new r
  pub ready : r ≡ Ok None → IsReady n.journal (state e)
  pub disk : LineBlamesDisk (state d).faults (state e).faults r
  pub no_read : IfErr r (λ x. x ≢ line_stop.Stopped stop.ReadFault)
  pub blames : BlamesLine old new r

-- a run that an opening ended was refused
abbrev pub IsRefusal : Opened → Type 0
IsRefusal (opened_as.Open f) = Unit {0}
IsRefusal (opened_as.Ended v) = is_refused_status (verdict_status v) ≡ true
IsRefusal opened_as.HeldUp = Unit {0}

-- a journal that an opening gives is that of the disk
abbrev pub IsReadyOn : DiskState → Opened → Type 0
IsReadyOn disk (opened_as.Open f) = IsReady f.journal disk
IsReadyOn disk (opened_as.Ended v) = Unit {0}
IsReadyOn disk opened_as.HeldUp = Unit {0}

-- it is this one, and the disk did not fail
abbrev pub HasJournal : JournalState → Opened → Type 0
HasJournal journal (opened_as.Open f) = f.journal ≡ journal
HasJournal journal (opened_as.Ended v) = Unit {0}
HasJournal journal opened_as.HeldUp = ⊥

-- what the opening of a view with a journal did; nothing where the disk failed
abbrev pub Opens : Reply JournalView → World → World → Result Opened Stop → Type 0
Opens r old new (Ok (opened_as.Open f)) = Begins r old new f
Opens r old new (Ok (opened_as.Ended v)) = EndsRun r old new v
Opens r old new (Ok opened_as.HeldUp) = contents new ≡ contents old
Opens r old new (Err e) = Partly (effects_of r) (contents old) (contents new)
