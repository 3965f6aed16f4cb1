-- What the course of a view that is opened and answers lines comes to.
use Rattle.std.specs.Prelude.{◌≡◌, ℕ, Bool, true, List, Option, None, Some, Ok}
use Rattle.ss_text.specs.Texts.{Text}
use Rattle.tab_lines.specs.Lines.{lines_of}
use Rattle.outside.specs.Tree.{Tree}
use Rattle.outside.specs.Whole.{IsWhole}
use Rattle.outside.specs.Effects.{World, contents, performed}
use Rattle.schema_model.specs.Catalogue.{CatalogueValue}
use Rattle.view_def.specs.Profile.{IsViewOfProfile}
use Rattle.view_def.specs.Query.{Query}
use Rattle.view_meaning.specs.Meaning.{meaning}
use Rattle.source_law.specs.Synced.{unsaved}
use Rattle.view_session.specs.Session.{SessionState, tables_of, lines_to}
use Rattle.course.specs.declared.exit.Status.{Status}
use Rattle.course.specs.Course.{Did, GaveOutStatus, by_lines, is_done_status}
use Rattle.view_stages.specs.Open.{just_opened}
use Rattle.view_stages.specs.Stages.{DefinitionOrRefusal, loaded_or_refused, refusal_of}
use Rattle.view_stages.specs.Opening.{IsDefinition, definition_bytes, opening}
use Rattle.opened_view.specs.Answers.{Answer, step, finish}
use Rattle.upkeep_law.specs.Given.{AreGiven}
use Rattle.upkeep_law.specs.Lists.{last_shown, last_synced}
use Rattle.upkeep_law.specs.Promises.{IsUpheld, IsMaintained, IsCutOff, TakesTo, effects_so_far}

-- a view that is opened over a tree, whose sources are one catalogue, and over another where syncs do not save the sources
pub record IsStart (saves : Bool) (t : Tree) (q : Query) (sources c : CatalogueValue) : Type 0 where
  pub profile : IsViewOfProfile q
  pub loaded : loaded_or_refused t ≡ Ok sources
  pub whole : IsWhole t
  pub same : saves ≡ true → c ≡ sources
  pub unrefused : refusal_of c q ≡ None

-- whatever answers a view gives behind its opening, it is upheld: its folder shows the catalogue at the last sync, and the sources hold what was saved
abbrev pub AnswersAreUpheld : Type 0
AnswersAreUpheld =
    (saves : Bool) (t : Tree) (q : Query) (sources c : CatalogueValue) (answers : List Answer) (old new : World)
    → IsStart saves t q sources c → AreGiven saves (just_opened q c) answers → old.store.tree ≡ Some t → contents new ≡ performed (effects_so_far t q c answers) (contents old)
    → IsUpheld t q c answers (last_shown (just_opened q c) c answers) (last_synced saves (just_opened q c) (unsaved sources) answers) old new

-- what was done where a view is opened over a tree that is told, and answers lines
abbrev pub DidOver : Text → Tree → DefinitionOrRefusal → List ℕ → Option (List ℕ) → World → World → Status → Type 0
DidOver name t d bytes rest old new s =
    IsDefinition name (definition_bytes t name) d × (old.store.tree ≡ Some t) × IsWhole t × Did (by_lines step finish (opening t d)) bytes rest old new s

-- where it was done, the view was kept up to date over all lines of the input
abbrev pub DoneIsMaintained : Type 0
DoneIsMaintained =
    (name : Text) (t : Tree) (d : DefinitionOrRefusal) (bytes : List ℕ) (rest : Option (List ℕ)) (old new : World) (s : Status)
    → DidOver name t d bytes rest old new s → is_done_status s ≡ true → IsMaintained d t (lines_of bytes) old new s

-- where its input gave out, the view and the sources are those of the last sync
abbrev pub CutOffIsSynced : Type 0
CutOffIsSynced =
    (name : Text) (t : Tree) (d : DefinitionOrRefusal) (bytes : List ℕ) (rest : Option (List ℕ)) (old new : World) (s : Status)
    → DidOver name t d bytes rest old new s → GaveOutStatus old new s → IsCutOff d t bytes rest old new

-- the lines from a view's tables to those over another catalogue take the first to the second, and each fits those that the lines before it leave
abbrev pub ScriptsTake : Type 0
ScriptsTake = (s : SessionState) (c : CatalogueValue) → TakesTo (tables_of s) (meaning c s.query) (lines_to s c)
