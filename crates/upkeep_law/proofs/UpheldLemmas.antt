-- A view whose answers were all given is upheld.
use Rattle.std.proofs.Common.{◌≡◌, ◌+◌, Bool, List, ◌∷◌, Some, refl, sym, ap, ◌∙◌, subst}
use Rattle.std.specs.Prelude.{Result, Ok, Err}
use Rattle.ss_text.specs.Texts.{Row}
use Rattle.outside.specs.Streams.{with_bytes}
use Rattle.outside.specs.Tree.{Tree, files_of}
use Rattle.outside.specs.Effects.{Effect, World, Stored, Contents, contents, performed}
use Rattle.csv_catalog.specs.Loaded.{loaded}
use Rattle.csv_catalog.specs.declared.fault.LoadFault.{LoadFault}
use Rattle.schema_model.specs.Catalogue.{CatalogueValue}
use Rattle.source_law.specs.Synced.{Synced, unsaved}
use Rattle.source_law.proofs.SavingLemmas.{sources_hold}
use Rattle.view_def.specs.Query.{Query}
use Rattle.view_meaning.specs.Meaning.{meaning, shape_of}
use Rattle.view_folder.specs.Files.{view_folder}
use Rattle.view_folder.specs.TableFiles.{table_files}
use Rattle.view_folder.specs.Sync.{Holds}
use Rattle.view_folder.specs.declared.file.File.{File}
use Rattle.course.proofs.ToldLemmas.{told_tree, contents_told}
use Rattle.view_stages.specs.Open.{OpenValue, just_opened}
use Rattle.view_stages.specs.Places.{Exempt, CsvFiles, sources_of}
use Rattle.view_stages.specs.Stages.{by_loading, loaded_or_refused, files_of_view}
use Rattle.view_stages.specs.Opened.{opening_writes}
use Rattle.view_stages.proofs.PlaceLemmas.{StaysIn, AllWithin, stays_told, at_first_stays, performed_stays}
use Rattle.view_stages.proofs.StageLemmas.{are_view_files}
use Rattle.view_stages.proofs.WithinLemmas.{grows_itself, both_within, all_opening_within}
use Rattle.opened_view.specs.Answers.{Answer}
use Rattle.upkeep_law.specs.Given.{AreGiven}
use Rattle.upkeep_law.specs.Law.{IsStart}
use Rattle.upkeep_law.specs.Lists.{effects_by, view_after, writes_by, last_shown, last_synced}
use Rattle.upkeep_law.specs.Promises.{IsUpheld, printed_by, opening_of, effects_so_far, writes_so_far}
use Rattle.upkeep_law.proofs.GivenLemmas.{given_query}
use Rattle.upkeep_law.proofs.KeptLemmas.{Keeps, tree_left, opening_files, opening_keeps, keeps_more, recounted, answers_keep}
use Rattle.upkeep_law.proofs.TakeLemmas.{each_takes}
use Rattle.upkeep_law.proofs.WithinLemmas.{given_within}

-- what was loaded
pub loaded_is : (t : Tree) (c : CatalogueValue) → loaded_or_refused t ≡ Ok c → loaded t ≡ Ok c
unfolding loaded_or_refused
loaded_is t c h = by_result (loaded t) refl h
  where
    value_of : Result CatalogueValue Row → CatalogueValue
    value_of (Ok x) = x
    value_of (Err fields) = c

    by_result : (r : Result CatalogueValue LoadFault) → loaded t ≡ r → by_loading r ≡ Ok c → loaded t ≡ Ok c
    by_result (Ok x) is e = is ∙ ap Ok (ap value_of e)
    by_result (Err f) is e = absurd (cc e)

module _ (saves : Bool) (t : Tree) (q : Query) (c0 c : CatalogueValue) (answers : List Answer) (old new : World) (start : IsStart saves t q c0 c) (are : AreGiven saves (just_opened q c) answers) (told : old.store.tree ≡ Some t) where
  abbrev o : OpenValue
  o = just_opened q c

  abbrev shown : CatalogueValue
  shown = last_shown o c answers

  abbrev saved : Synced
  saved = last_synced saves o (unsaved c0) answers

  abbrev last : OpenValue
  last = view_after o answers

  first : loaded t ≡ Ok c0
  first = loaded_is t c0 start.loaded

  abbrev at_first : Stored
  at_first = record { tree = t; writes = old.store.writes }

  abbrev es : List Effect
  es = opening_of t q c

  opened : Keeps saves t c0 at_first es o c (unsaved c0) (opening_writes t c q)
  opened = opening_keeps saves at_first q c0 c first start.whole start.same

  all : Keeps saves t c0 at_first (effects_so_far t q c answers) last shown saved (writes_so_far t q c answers)
  all =
      recounted saves t c0 at_first (effects_so_far t q c answers) last shown saved (opening_writes t c q + writes_by opened.stored.tree answers) (writes_so_far t q c answers)
      (ap (λ (u : Tree). opening_writes t c q + writes_by u answers) (tree_left es at_first opened.stored opened.done))
      (keeps_more saves t c0 at_first es (effects_by answers) o last c shown (unsaved c0) saved (opening_writes t c q) (writes_by opened.stored.tree answers) opened
      (answers_keep saves t c0 first start.whole answers o c (unsaved c0) opened.stored opened.kept are))

  abbrev at_last : Stored
  at_last = all.stored

  files_held : Holds (view_folder q.view_db) (files_of_view shown q) at_last.tree
  files_held =
      subst (λ (fs : List File). Holds (view_folder q.view_db) fs at_last.tree) (sym (opening_files shown q))
      (subst (λ (x : Query). Holds (view_folder x.view_db) (table_files (shape_of x) (meaning shown x)) at_last.tree) (given_query saves o answers are) all.kept.files)

  abbrev Others : List Exempt
  Others = CsvFiles (view_folder q.view_db) ∷ sources_of saved

  all_within : AllWithin Others (effects_so_far t q c answers)
  all_within =
      both_within Others es (effects_by answers) (all_opening_within (view_folder q.view_db) (sources_of saved) (files_of_view c q) (files_of t (view_folder q.view_db)) (are_view_files c q))
      (given_within q saved saves answers o (unsaved c0) are refl (grows_itself saved))

  pub answers_upheld : contents new ≡ performed (effects_so_far t q c answers) (contents old) → IsUpheld t q c answers shown saved old new
  unfolding contents
  answers_upheld did =
      let is : contents new ≡ record { stored = Some at_last; held = with_bytes (printed_by (effects_so_far t q c answers)) old.output.held } =
      did ∙ ap (performed (effects_so_far t q c answers)) (contents_told old t told) ∙ all.done old.output.held in
      let left : (contents new).stored ≡ Some at_last = ap (λ (x : Contents). x.stored) is in
      let stored = told_tree new.store.tree new.store.writes at_last left in
      record {
        tree = at_last.tree;
        takes = each_takes saves answers o are start.profile start.unrefused;
        told = stored.0;
        files = files_held;
        sources = sources_hold t c0 first start.whole saved at_last.tree all.kept.sources;
        others = stays_told Others t (contents new) at_last left (subst (StaysIn Others t) (sym did) (performed_stays Others t (effects_so_far t q c answers) (contents old) all_within (at_first_stays Others t old told)));
        writes = stored.1 ∙ all.writes;
        printed = ap (λ (x : Contents). x.held) is;
      }
