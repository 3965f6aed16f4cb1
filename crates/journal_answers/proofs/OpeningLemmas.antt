-- From what was read for an opening to what the opening did.
use Rattle.std.proofs.Common.{◌≡◌, ◌∙◌, ℕ, Bool, false, List, [], Option, None, Some, Result, Ok, Err, sym, ap, subst}
use Rattle.std.specs.Prelude.{IfOk}
use Rattle.ss_text.specs.Texts.{Row}
use Rattle.outside.specs.Tree.{Tree, files_of}
use Rattle.outside.specs.Effects.{Effect, World, Contents, contents, performed, Partly}
use Rattle.outside.specs.declared.stop.Stop.{Stop}
use Rattle.outside.proofs.EffectLemmas.{partly_more}
use Rattle.disk.specs.Disk.{DiskState}
use Rattle.course.specs.Answering.{Reply, Continues, Finishes}
use Rattle.schema_model.specs.Catalogue.{CatalogueValue}
use Rattle.view_def.specs.Query.{Query}
use Rattle.view_folder.specs.Files.{view_folder}
use Rattle.change_journal.specs.States.{JournalState}
use Rattle.journal_log.specs.Logs.{IsReady}
use Rattle.journal_log.specs.Replay.{replayed}
use Rattle.view_stages.specs.Open.{OpenValue, just_opened}
use Rattle.view_stages.specs.Opening.{opening_effects, with_view}
use Rattle.view_stages.specs.Stages.{Accepted, DefinitionOrRefusal, loaded_or_refused, refusal_of, files_of_view}
use Rattle.opened_view.specs.Steps.{Begins, starting}
use Rattle.view_opening.specs.Opens.{Views}
use Rattle.view_opening.specs.declared.opening.Viewing.TheVariants as viewing
use Rattle.journal_answers.specs.declared.opening.Opened.{Opened}
use Rattle.journal_answers.specs.declared.opening.Opened.TheVariants as opened_as
use Rattle.journal_answers.specs.declared.view.JournalView.{JournalView}
use Rattle.journal_answers.specs.Answers.{ended_at}
use Rattle.journal_answers.specs.Opening.{opening, with_catalogue, with_journal, with_replay}
use Rattle.journal_answers.specs.Steps.{Opens, HasJournal, IsReadyOn}

-- nothing was done
pub nothing_opened : (r : Reply JournalView) (old new : World) (e : Stop) → Partly [] (contents old) (contents new) → Opens r old new (Err e)
nothing_opened (Continues es f) old new e h = partly_more [] es (contents old) (contents new) h
nothing_opened (Finishes es v) old new e h = partly_more [] es (contents old) (contents new) h

-- an opening that begins where nothing else was done
from_same : (r : Reply JournalView) (old mid new : World) (x : Result Opened Stop) → contents mid ≡ contents old → Opens r mid new x → Opens r old new x
from_same (Continues es f) old mid new (Ok (opened_as.Open g)) e h = (h.0 ∙ ap (performed es) e, h.1)
from_same (Continues es f) old mid new (Ok (opened_as.Ended v)) e h = h
from_same (Continues es f) old mid new (Ok opened_as.HeldUp) e h = h ∙ e
from_same (Continues es f) old mid new (Err s) e h = subst (λ (c : Contents). Partly es c (contents new)) e h
from_same (Finishes es w) old mid new (Ok (opened_as.Open g)) e h = h
from_same (Finishes es w) old mid new (Ok (opened_as.Ended v)) e h = (h.0 ∙ ap (performed es) e, h.1)
from_same (Finishes es w) old mid new (Ok opened_as.HeldUp) e h = h ∙ e
from_same (Finishes es w) old mid new (Err s) e h = subst (λ (c : Contents). Partly es c (contents new)) e h

-- and over a catalogue that was loaded
pub opened_loaded : (t : Tree) (bytes : List ℕ) (q : Query) (c : CatalogueValue) (old mid new : World) (x : Result Opened Stop) → loaded_or_refused t ≡ Ok c → contents mid ≡ contents old → Opens (with_journal t q (replayed c bytes)) mid new x
    → Opens (with_catalogue t bytes q (loaded_or_refused t)) old new x
opened_loaded t bytes q c old mid new x loaded e h =
    subst (λ (r : Result CatalogueValue Row). Opens (with_catalogue t bytes q r) old new x) (sym loaded) (from_same (with_journal t q (replayed c bytes)) old mid new x e h)

-- and of a definition that was accepted
pub opened_defined : (t : Tree) (bytes : List ℕ) (a : Accepted) (d : DefinitionOrRefusal) (old mid new : World) (x : Result Opened Stop) → d ≡ Ok a → contents mid ≡ contents old → Opens (with_catalogue t bytes a.query (loaded_or_refused t)) mid new x
    → Opens (opening t bytes d) old new x
opened_defined t bytes a d old mid new x defined e h =
    subst (λ (y : DefinitionOrRefusal). Opens (opening t bytes y) old new x) (sym defined) (from_same (with_catalogue t bytes a.query (loaded_or_refused t)) old mid new x e h)

-- a view over a catalogue that was just opened, whose folder is written
module _ (t : Tree) (q : Query) (c : CatalogueValue) (end : ℕ) (old new : World) where
  abbrev filling : OpenValue → List Effect
  filling v = opening_effects (view_folder v.session.query.view_db) (files_of_view v.session.catalogue v.session.query) (files_of t (view_folder v.session.query.view_db))

  filled_by : (x : Option Row) (v : OpenValue) (j : JournalState) → Views (viewing.View v) q c x → j ≡ record { end = end; is_shut = false } → contents new ≡ performed (filling v) (contents old)
      → Begins (starting (ended_at end) (with_view t q c x)) old new (record { view = v; journal = j })
  filled_by None v j views is done =
      (subst (λ (o : OpenValue). contents new ≡ performed (filling o) (contents old)) views done, ap (λ (o : OpenValue). record { view = o; journal = j }) views ∙ ap (λ (k : JournalState). record { view = just_opened q c; journal = k }) is)
  filled_by (Some fields) v j views is done = absurd views

  pub filled : (v : OpenValue) (j : JournalState) → Views (viewing.View v) q c (refusal_of c q) → j.end ≡ end → j.is_shut ≡ false → contents new ≡ performed (filling v) (contents old)
      → Begins (with_replay t q (record { catalogue = c; end = end })) old new (record { view = v; journal = j })
  filled v j views ends is_open done = filled_by (refusal_of c q) v j views (ap (λ (n : ℕ). record { end = n; is_shut = j.is_shut }) ends ∙ ap (λ (b : Bool). record { end = end; is_shut = b }) is_open) done

-- the journal that an opening gives is that of the disk
ready_on : (disk : DiskState) (j : JournalState) (x : Opened) → HasJournal j x → IsReady j disk → IsReadyOn disk x
ready_on disk j (opened_as.Open f) same ready = subst (λ (k : JournalState). IsReady k disk) (sym same) ready
ready_on disk j (opened_as.Ended v) same ready = tt
ready_on disk j opened_as.HeldUp same ready = absurd same

pub is_ready_on : {E : Type 0} (disk : DiskState) (j : JournalState) (r : Result Opened E) → IfOk r (HasJournal j) → IsReady j disk → IfOk r (IsReadyOn disk)
is_ready_on disk j (Ok x) same ready = ready_on disk j x same ready
is_ready_on disk j (Err e) same ready = tt
