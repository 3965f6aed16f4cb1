-- A run of `show` that ended with the status 0 showed the view.
use Rattle.std.proofs.Common.{◌≡◌, ℕ, List, [], ◌∷◌, ◌++◌, Option, None, Some, refl, sym, subst, ap, ◌∙◌, append-nil}
use Rattle.std.specs.Prelude.{Result, Ok, Err, codes, decimal}
use Rattle.ss_text.specs.Texts.{Text, Row}
use Rattle.tab_lines.specs.Spelling.{spell}
use Rattle.outside.specs.Streams.{with_bytes}
use Rattle.outside.specs.Tree.{Tree, files_of}
use Rattle.outside.specs.Effects.{Effect, World, Stored, Contents, contents, performed}
use Rattle.outside.proofs.EffectLemmas.{performed_append}
use Rattle.schema_model.specs.Catalogue.{CatalogueValue}
use Rattle.view_def.specs.Query.{Query}
use Rattle.view_folder.specs.Files.{view_folder}
use Rattle.view_folder.specs.Sync.{opening_sync}
use Rattle.view_folder.proofs.FolderLemmas.{now, synced, holds_exactly, counted}
use Rattle.course.specs.Answering.{ending}
use Rattle.ss_print.specs.Printing.{prints_synced}
use Rattle.course.specs.declared.exit.Status.{Status}
use Rattle.course.specs.declared.exit.Status.TheVariants as status
use Rattle.course.specs.Course.{Finished, Did, is_done_status, unread}
use Rattle.course.proofs.ToldLemmas.{told_tree, contents_told}
use Rattle.course.proofs.RunLemmas.{done_finished}
use Rattle.view_stages.specs.Stages.{DefinitionOrRefusal, Accepted, loaded_or_refused, refusal_of, files_of_view}
use Rattle.view_stages.specs.Opening.{opening, with_catalogue, with_view, opening_effects, done_at_once}
use Rattle.view_stages.specs.Places.{CsvFiles}
use Rattle.view_stages.specs.Opened.{synced_count}
use Rattle.view_stages.proofs.PlaceLemmas.{StaysIn, performed_stays, stays_told, at_first_stays}
use Rattle.view_stages.proofs.WithinLemmas.{opening_within}
use Rattle.view_stages.proofs.StageLemmas.{are_view_files}
use Rattle.plain_commands.specs.Promises.{IsShown}

-- the contents that an opening sync and its line leave
module _ (t : Tree) (old new : World) (told : old.store.tree ≡ Some t) (a : Accepted) (c : CatalogueValue) where
  abbrev q : Query
  q = a.query

  abbrev at_first : Stored
  at_first = record { tree = t; writes = old.store.writes }

  abbrev at_last : Stored
  at_last = now (view_folder q.view_db) (files_of_view c q) at_first (are_view_files c q)

  abbrev opened_by : List Effect
  opened_by = opening_effects (view_folder q.view_db) (files_of_view c q) (files_of t (view_folder q.view_db))

  abbrev line : List ℕ
  line = spell (codes "synced" ∷ decimal (synced_count t c q) ∷ []) ++ 10 ∷ []

  left : contents new ≡ performed (opening_effects (view_folder q.view_db) (files_of_view c q) (files_of t (view_folder q.view_db))) (contents old)
      → contents new ≡ record { stored = Some at_last; held = with_bytes line old.output.held }
  left h =
      h ∙ ap (performed (opening_effects (view_folder q.view_db) (files_of_view c q) (files_of t (view_folder q.view_db)))) (contents_told old t told)
      ∙ performed_append (opening_sync (view_folder q.view_db) (files_of_view c q) (files_of t (view_folder q.view_db))) (prints_synced (synced_count t c q) ∷ []) (record { stored = Some at_first; held = old.output.held })
      ∙ ap (performed (prints_synced (synced_count t c q) ∷ [])) (synced (view_folder q.view_db) (files_of_view c q) at_first (are_view_files c q) old.output.held)

  shown : (d : DefinitionOrRefusal) → d ≡ Ok a → loaded_or_refused t ≡ Ok c → refusal_of c q ≡ None
      → contents new ≡ performed (opening_effects (view_folder q.view_db) (files_of_view c q) (files_of t (view_folder q.view_db))) (contents old) → IsShown d t old new
  unfolding contents
  shown d defined loaded accepted h =
      let is = left h in
      let held = holds_exactly (view_folder q.view_db) (files_of_view c q) at_first (are_view_files c q) in
      let stored = told_tree new.store.tree new.store.writes at_last (ap (λ (x : Contents). x.stored) is) in
      record {
        opened = record { accepted = a; catalogue = c; defined = defined; loaded = loaded; unrefused = accepted };
        tree = at_last.tree;
        told = stored.0;
        files = held.tables;
        others = stays_told (CsvFiles (view_folder q.view_db) ∷ []) t (contents new) at_last (ap (λ (x : Contents). x.stored) is) (subst (StaysIn (CsvFiles (view_folder q.view_db) ∷ []) t) (sym h) (performed_stays (CsvFiles (view_folder q.view_db) ∷ []) t opened_by (contents old) (opening_within (view_folder q.view_db) (files_of_view c q) (files_of t (view_folder q.view_db)) (are_view_files c q)) (at_first_stays (CsvFiles (view_folder q.view_db) ∷ []) t old told)));
        writes = stored.1 ∙ counted (view_folder q.view_db) (files_of_view c q) at_first (are_view_files c q);
        printed = ap (λ (x : Contents). x.held) is;
      }

-- the status 0 comes where the view was opened
module _ (t : Tree) (old new : World) (s : Status) (told : old.store.tree ≡ Some t) (done : s ≡ status.Done) where
  by_view : (a : Accepted) (c : CatalogueValue) (o : Option Row) (d : DefinitionOrRefusal) → d ≡ Ok a → loaded_or_refused t ≡ Ok c → refusal_of c a.query ≡ o → Finished (ending done_at_once (with_view t a.query c o)) old new s → IsShown d t old new
  by_view a c (Some fields) d defined loaded judged f = absurd (cc (f.status))
  by_view a c None d defined loaded judged f = shown t old new told a c d defined loaded judged (f.done ∙ ap (λ es. performed es (contents old)) (append-nil (opening_effects (view_folder a.query.view_db) (files_of_view c a.query) (files_of t (view_folder a.query.view_db)))))

  by_catalogue : (a : Accepted) (r : Result CatalogueValue Row) (d : DefinitionOrRefusal) → d ≡ Ok a → loaded_or_refused t ≡ r → Finished (ending done_at_once (with_catalogue t a.query r)) old new s → IsShown d t old new
  by_catalogue a (Err fields) d defined loaded f = absurd (cc (f.status))
  by_catalogue a (Ok c) d defined loaded f = by_view a c (refusal_of c a.query) d defined loaded refl f

  pub finished_shown : (d : DefinitionOrRefusal) → Finished (ending done_at_once (opening t d)) old new s → IsShown d t old new
  finished_shown (Err fields) f = absurd (cc (f.status))
  finished_shown (Ok a) f = by_catalogue a (loaded_or_refused t) (Ok a) refl refl f

-- the run of `show` by its course
pub did_show : (name : Text) (t : Tree) (d : DefinitionOrRefusal) (rest : Option (List ℕ)) (old new : World) (s : Status) → old.store.tree ≡ Some t → s ≡ status.Done → Did (unread (ending done_at_once (opening t d))) [] rest old new s → IsShown d t old new
did_show name t d rest old new s told done h = finished_shown t old new s told done d (done_finished (unread (ending done_at_once (opening t d))) [] rest old new s (ap is_done_status done) h)
