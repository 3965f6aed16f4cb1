-- What the folder of an opened view and the sources hold while answers are given.
use Rattle.std.proofs.Common.{◌≡◌, ℕ, Bool, true, false, ◌||◌, map, length, List, [], ◌∷◌, ◌++◌, Option, None, Some, refl, sym, ap, ◌∙◌, subst, append_assoc, ◌+◌, arith, filter, append-nil}
use Rattle.std.specs.Prelude.{Ok, IsTrue, unwrap_or}
use Rattle.std.specs.List.{AllByRecursion}
use Rattle.std.specs.Option.{option_map_or}
use Rattle.std.specs.Ordering.{eq_by_cmp}
use Rattle.std.proofs.lemmas.Bool.{false_from_ne_true, false≢true}
use Rattle.std.specs.Cmp.Lexicographic.{nat_list_cmp_total}
use Rattle.ss_text.specs.Texts.{Text, text_eq, text_cmp, is_in}
use Rattle.ss_text.specs.Ascending.{ascending}
use Rattle.ss_text.proofs.AscendingLemmas.{ascending_ascends}
use Rattle.ss_text.proofs.SetLemmas.{same_ascending}
use Rattle.ss_text.proofs.KeyLemmas.{text_order}
use Rattle.outside.specs.Streams.{with_bytes}
use Rattle.outside.specs.Tree.{Tree, Place, place_cmp, files_of}
use Rattle.outside.specs.Whole.{IsWhole}
use Rattle.outside.specs.WholeLaw.{is_eq_true, place_exact}
use Rattle.outside.specs.Effects.{Effect, Write, Remove, Replace, Print, Stored, Contents, performed}
use Rattle.outside.proofs.EffectLemmas.{performed_append, with_more}
use Rattle.schema_model.specs.Catalogue.{CatalogueValue}
use Rattle.schema_model.specs.declared.change.Change.{Change}
use Rattle.schema_model.specs.Changes.{after, after_all, is_well_formed}
use Rattle.schema_model.specs.Refusals.{group_fault}
use Rattle.schema_model.specs.Sound.{IsSound}
use Rattle.schema_model.specs.declared.pair.Pair.{Pair}
use Rattle.csv_catalog.specs.Loaded.{loaded}
use Rattle.csv_catalog.specs.SavedTree.{place_of, is_place_among}
use Rattle.view_def.specs.Query.{Query}
use Rattle.flow_law.specs.declared.line.TableLine.{TableLine}
use Rattle.flow_law.specs.declared.shape.Shape.{Shape}
use Rattle.flow_law.specs.Tables.{TablesValue, table_of, labels_of}
use Rattle.flow_law.specs.Lines.{label_of}
use Rattle.flow_law.proofs.ScriptLaw.{script_makes, script_fits, unnamed_table_stays}
use Rattle.view_meaning.specs.Meaning.{meaning, shape_of}
use Rattle.view_folder.specs.declared.file.File.{File}
use Rattle.view_folder.specs.Files.{view_folder, file_name, other_names, Apart}
use Rattle.view_folder.specs.TableFiles.{table_files, table_text}
use Rattle.view_folder.specs.Sync.{Holds, written, removed, opening_sync, opening_count, tables_first, label_synced, later_sync}
use Rattle.outside.specs.Counts.{risen}
use Rattle.view_folder.proofs.FolderLemmas.{apart_sorted, now, synced as synced_files, counted as counted_files, holds_exactly}
use Rattle.view_folder.proofs.LaterLemmas.{later, later_synced, later_holds, later_counted}
use Rattle.view_session.specs.Named.{Names, no_names, with_change, with_changes}
use Rattle.view_session.specs.Session.{SessionState, tables_of, lines_to, made, committed}
use Rattle.view_session.proofs.UpkeepLemmas.{meaning_in_order}
use Rattle.source_law.specs.Counted.{tree_after, counted}
use Rattle.source_law.specs.Synced.{Synced, unsaved, synced, saving}
use Rattle.source_law.proofs.AfterLemmas.{Silent, stored_by, stored_after, silent_after, none_risen}
use Rattle.source_law.proofs.LoadedLemmas.{sound_loaded}
use Rattle.source_law.proofs.SavingLemmas.{SourcesKept, Pending, InView, kept_first, pending_first, pending_committed, kept_synced, kept_beside, tree_saved}
use Rattle.ss_print.specs.Printing.{prints_synced}
use Rattle.view_stages.specs.Open.{OpenValue, just_opened}
use Rattle.view_stages.specs.Opening.{opening_effects}
use Rattle.view_stages.specs.Stages.{files_of_view}
use Rattle.view_stages.specs.Syncs.{view_effects, sync_effects, sync_count}
use Rattle.view_stages.specs.Opened.{opening_writes}
use Rattle.view_stages.proofs.StageLemmas.{are_view_files}
use Rattle.opened_view.specs.Answers.{Said, Tells, Scripts, Syncs, Answer, synced_view, syncing, syncing_view}
use Rattle.upkeep_law.specs.Given.{IsPrint, AreAlike, Prints, IsSync, sync_by, MayGive, AreGiven}
use Rattle.upkeep_law.specs.Lists.{effects_by, view_after, writes_by, shown_by, last_shown, synced_by, last_synced}
use Rattle.upkeep_law.specs.Promises.{printed_by, opening_of, TakesTo}

-- the script of two meanings takes the one to the other
pub script_takes : (o : SessionState) (c : CatalogueValue) → TakesTo (tables_of o) (meaning c o.query) (lines_to o c)
script_takes o c = record {
  makes = script_makes (tables_of o) (meaning c o.query) (meaning_in_order c o.query) (meaning_in_order o.catalogue o.query);
  fits = script_fits (tables_of o) (meaning c o.query) (meaning_in_order c o.query) (meaning_in_order o.catalogue o.query);
}

-- a label that is not among others with more behind them
in_neither : (l : Text) (xs ys : List Text) → is_in l (xs ++ ys) ≡ false → (is_in l xs ≡ false) × (is_in l ys ≡ false)
in_neither l [] ys h = (refl, h)
in_neither l (x ∷ xs) ys h = elim (text_eq l x) as (λ b. (b || is_in l (xs ++ ys)) ≡ false → ((b || is_in l xs) ≡ false) × (is_in l ys ≡ false)) [ true ↦ λ e. absurd (cc) | false ↦ λ e. in_neither l xs ys e ] h

pub in_ascending : (l : Text) (xs : List Text) → is_in l (ascending text_cmp xs) ≡ is_in l xs
in_ascending l xs = sym ((same_ascending text_order.total text_order.same xs).same (text_eq l))

-- what effects print, one after the other
pub printed_append : (es fs : List Effect) → printed_by (es ++ fs) ≡ printed_by es ++ printed_by fs
printed_append [] fs = refl
printed_append (Write folder file bytes ∷ es) fs = printed_append es fs
printed_append (Remove folder file ∷ es) fs = printed_append es fs
printed_append (Replace edits ∷ es) fs = printed_append es fs
printed_append (Print bytes ∷ es) fs = ap (λ t. bytes ++ t) (printed_append es fs) ∙ sym (append_assoc bytes (printed_by es) (printed_by fs))

-- a sync of files prints nothing
writes_silent : (d : Text) (fs : List File) (es : List Effect) → printed_by (written d fs ++ es) ≡ printed_by es
writes_silent d [] es = refl
writes_silent d (f ∷ fs) es = writes_silent d fs es

removes_silent : (d : Text) (ns : List Text) (es : List Effect) → printed_by (removed d ns ++ es) ≡ printed_by es
removes_silent d [] es = refl
removes_silent d (n ∷ ns) es = removes_silent d ns es

opening_silent : (d : Text) (fs : List File) (ns : List Text) (es : List Effect) → printed_by (opening_sync d fs ns ++ es) ≡ printed_by es
opening_silent d fs ns es = ap printed_by (append_assoc (written d fs) (removed d (other_names fs ns)) es) ∙ writes_silent d fs (removed d (other_names fs ns) ++ es) ∙ removes_silent d (other_names fs ns) es

label_silent : (d : Text) (shape : Shape) (ts : TablesValue) (l : Text) (es : List Effect) → printed_by (label_synced d shape ts l ∷ es) ≡ printed_by es
label_silent d shape ts l es = elim (table_of ts l) as (λ o. printed_by (option_map_or (λ t. Write d (file_name l) (table_text shape t)) o (Remove d (file_name l)) ∷ es) ≡ printed_by es) [ None ↦ refl | Some t ↦ refl ]

labels_silent : (d : Text) (shape : Shape) (ts : TablesValue) (ls : List Text) (es : List Effect) → printed_by (map (label_synced d shape ts) ls ++ es) ≡ printed_by es
labels_silent d shape ts [] es = refl
labels_silent d shape ts (l ∷ ls) es = label_silent d shape ts l (map (label_synced d shape ts) ls ++ es) ∙ labels_silent d shape ts ls es

sync_silent : (d : Text) (shape : Shape) (ts : TablesValue) (ls : List Text) (es : List Effect) → printed_by (later_sync d shape ts ls ++ es) ≡ printed_by es
sync_silent d shape ts ls es = labels_silent d shape ts (tables_first ts ls) es

-- effects that print nothing
silent : (es fs : List Effect) → AllByRecursion Silent es → printed_by (es ++ fs) ≡ printed_by fs
silent [] fs h = refl
silent (Write folder file bytes ∷ es) fs h = silent es fs h.1
silent (Remove folder file ∷ es) fs h = silent es fs h.1
silent (Replace edits ∷ es) fs h = silent es fs h.1
silent (Print bytes ∷ es) fs h = absurd h.0

-- effects take a store to another, and print
abbrev pub Performs : List Effect → Stored → Stored → Type 0
Performs es s u = (held : Option (List ℕ)) → performed es (record { stored = Some s; held = held }) ≡ record { stored = Some u; held = with_bytes (printed_by es) held }

-- the tree that they leave
pub tree_left : (es : List Effect) (s u : Stored) → Performs es s u → u.tree ≡ tree_after es s.tree
tree_left es s u done =
    ap (λ (o : Option Stored). (unwrap_or o u).tree) (sym (ap (λ (c : Contents). c.stored) (done None)) ∙ stored_after es (record { stored = Some s; held = None }) s refl)

-- nothing was done
with_none : (held : Option (List ℕ)) → with_bytes [] held ≡ held
with_none None = refl
with_none (Some h) = ap Some (append-nil h)

nothing_done : (s : Stored) (held : Option (List ℕ)) → performed [] (record { stored = Some s; held = held }) ≡ record { stored = Some s; held = with_bytes (printed_by []) held }
nothing_done s held = ap (λ (h : Option (List ℕ)). record { stored = Some s; held = h }) (sym (with_none held))

printing : (s : Stored) (bytes : List ℕ) (held : Option (List ℕ)) → performed (Print bytes ∷ []) (record { stored = Some s; held = held }) ≡ record { stored = Some s; held = with_bytes (printed_by (Print bytes ∷ [])) held }
printing s bytes held = ap (λ (b : List ℕ). record { stored = Some s; held = with_bytes b held }) (sym (append-nil bytes))

-- prints leave the store
prints_done : (es : List Effect) → AllByRecursion IsPrint es → (s : Stored) → Performs es s s
prints_done [] h s held = nothing_done s held
prints_done (Print bytes ∷ es) h s held = prints_done es h.1 s (with_bytes bytes held) ∙ ap (λ (b : Option (List ℕ)). record { stored = Some s; held = b }) (with_more bytes (printed_by es) held)
prints_done (Write folder file bytes ∷ es) h s held = absurd h.0
prints_done (Remove folder file ∷ es) h s held = absurd h.0
prints_done (Replace edits ∷ es) h s held = absurd h.0

-- a file of a view's folder is none of the sources
abbrev first_byte : List ℕ → ℕ
first_byte [] = 0
first_byte (b ∷ bs) = b

beside_sources : (view_db name : Text) (ps : List Pair) → is_place_among ps (view_folder view_db, name) ≡ false
beside_sources view_db name [] = refl
beside_sources view_db name (p ∷ ps) = rw (other, beside_sources view_db name ps) refl
  where
    other : eq_by_cmp place_cmp (view_folder view_db, name) (place_of p) ≡ false
    other = false_from_ne_true _ (λ e.
        let same : ◌≡◌ {A = Place} (view_folder view_db, name) (place_of p) = place_exact (view_folder view_db, name) (place_of p) (is_eq_true _ e) in
        let bytes : 118 ≡ 115 = ap (λ (r : Place). first_byte r.0) same in
        absurd (omega (arith, bytes)))

-- the effects of a view's syncs are in its folder
module _ (x : Text) where
  both_in_view : (es fs : List Effect) → AllByRecursion (InView x) es → AllByRecursion (InView x) fs → AllByRecursion (InView x) (es ++ fs)
  both_in_view [] fs h k = k
  both_in_view (e ∷ es) fs h k = (h.0, both_in_view es fs h.1 k)

  written_in_view : (fs : List File) → AllByRecursion (InView x) (written (view_folder x) fs)
  written_in_view [] = tt
  written_in_view (f ∷ fs) = (refl, written_in_view fs)

  removed_in_view : (ns : List Text) → AllByRecursion (InView x) (removed (view_folder x) ns)
  removed_in_view [] = tt
  removed_in_view (n ∷ ns) = (refl, removed_in_view ns)

  opening_in_view : (fs : List File) (names : List Text) → AllByRecursion (InView x) (opening_effects (view_folder x) fs names)
  opening_in_view fs names = both_in_view (opening_sync (view_folder x) fs names) _ (both_in_view (written (view_folder x) fs) (removed (view_folder x) (other_names fs names)) (written_in_view fs) (removed_in_view (other_names fs names))) (tt, tt)

  labels_in_view : (shape : Shape) (ts : TablesValue) (ls : List Text) → AllByRecursion (InView x) (map (label_synced (view_folder x) shape ts) ls)
  labels_in_view shape ts [] = tt
  labels_in_view shape ts (l ∷ ls) =
      (elim (table_of ts l) as (λ o. InView x (option_map_or (λ t. Write (view_folder x) (file_name l) (table_text shape t)) o (Remove (view_folder x) (file_name l)))) [ None ↦ refl | Some t ↦ refl ], labels_in_view shape ts ls)

  later_in_view : (shape : Shape) (ts : TablesValue) (ls : List Text) → AllByRecursion (InView x) (later_sync (view_folder x) shape ts ls)
  later_in_view shape ts ls = labels_in_view shape ts (tables_first ts ls)

view_in_view : (o : OpenValue) → AllByRecursion (InView o.session.query.view_db) (view_effects o)
view_in_view o = both_in_view o.session.query.view_db (later_sync (view_folder o.session.query.view_db) (shape_of o.session.query) (tables_of o.session) o.session.changed.labels) _ (later_in_view o.session.query.view_db (shape_of o.session.query) (tables_of o.session) o.session.changed.labels) (tt, tt)

-- a sync of the view's files, over a store that holds those of other tables, of which only those of labels that were named are others now
module _ (o : OpenValue) (shown : CatalogueValue) (u : Stored) where
  abbrev q : Query
  q = o.session.query

  abbrev d : Text
  d = view_folder q.view_db

  abbrev tables_held : TablesValue
  tables_held = meaning shown q

  module _ (held_there : Holds d (table_files (shape_of q) tables_held) u.tree) (unnamed : (label : Text) → is_in label o.session.changed.labels ≡ false → table_of tables_held label ≡ table_of (tables_of o.session) label)
      (labels : o.synced ≡ labels_of tables_held) (apart : Apart o.session.changed.labels) where
    abbrev view_store : Stored
    view_store = later d (shape_of q) tables_held (tables_of o.session) o.session.changed.labels u

    view_held : Holds d (table_files (shape_of q) (tables_of o.session)) view_store.tree
    view_held = (later_holds d (shape_of q) tables_held (tables_of o.session) o.session.changed.labels u held_there unnamed).tables

    view_done : Performs (view_effects o) u view_store
    view_done held =
        let files = later_sync d (shape_of q) (tables_of o.session) o.session.changed.labels in
        let line = prints_synced (sync_count o) ∷ [] in
        performed_append files line (record { stored = Some u; held = held })
        ∙ ap (performed line) (later_synced d (shape_of q) tables_held (tables_of o.session) o.session.changed.labels u held)
        ∙ printing view_store _ held
        ∙ ap (λ (b : List ℕ). record { stored = Some view_store; held = with_bytes b held }) (sym (sync_silent d (shape_of q) (tables_of o.session) o.session.changed.labels line))

    view_counted : view_store.writes ≡ risen u.writes (sync_count o)
    view_counted =
        later_counted d (shape_of q) tables_held (tables_of o.session) o.session.changed.labels u held_there apart
        ∙ ap (λ (ls : List Text). risen u.writes (length (filter (λ l. is_in l (labels_of (tables_of o.session)) || is_in l ls) o.session.changed.labels))) (sym labels)

-- changes name no labels
pub labels_stay : (n : Names) (c : CatalogueValue) (gs : List Change) → (with_changes n c gs).labels ≡ n.labels
labels_stay n c [] = refl
labels_stay n c (g ∷ gs) = labels_stay (with_change n c g) (after c g) gs

-- a session over a catalogue, with the names that wait for the next sync
abbrev pub session_of : Query → CatalogueValue → Names → SessionState
session_of q c names = record { query = q; catalogue = c; changed = names; held = None; proposed = None }

module _ (saves : Bool) (t : Tree) (c0 : CatalogueValue) where
  -- the folder holds the files of the tables over the catalogue at the last sync, and only tables of labels that were named since are others now; and the sources hold what was saved, before which they were t and gave c0
  pub record IsKept (q : Query) (c : CatalogueValue) (names : Names) (had : List Text) (shown : CatalogueValue) (y : Synced) (s : Stored) : Type 0 where
    pub files : Holds (view_folder q.view_db) (table_files (shape_of q) (meaning shown q)) s.tree
    pub unnamed : (label : Text) → is_in label names.labels ≡ false → table_of (meaning shown q) label ≡ table_of (meaning c q) label
    pub labels : had ≡ labels_of (meaning shown q)
    pub apart : Apart names.labels
    pub sources : SourcesKept t c0 y s.tree
    pub pending : saves ≡ true → Pending y (session_of q c names)

  abbrev pub KeptFor : OpenValue → CatalogueValue → Synced → Stored → Type 0
  KeptFor o shown y s = IsKept o.session.query o.session.catalogue o.session.changed o.synced shown y s

  alike_kept : (o p : OpenValue) (shown : CatalogueValue) (y : Synced) (s : Stored) → AreAlike o p → KeptFor o shown y s → KeptFor p shown y s
  alike_kept o p shown y s h k = rw (h.query, h.catalogue, h.changed, h.synced) k

  -- what effects leave of a store that was kept: it is kept for the view after them, and so many files and folders were written, made or removed
  pub record Keeps (s : Stored) (es : List Effect) (o : OpenValue) (shown : CatalogueValue) (y : Synced) (n : ℕ) : Type 0 where
    pub stored : Stored
    pub done : Performs es s stored
    pub kept : KeptFor o shown y stored
    pub writes : stored.writes ≡ risen s.writes n

-- changes that wait to be saved
pending_as : (y : Synced) (n m : SessionState) → m.catalogue ≡ n.catalogue → m.changed ≡ n.changed → Pending y n → Pending y m
pending_as y n m e f p = record { sound = rw e p.sound; relations = rw (e, f) p.relations; databases = rw (e, f) p.databases; labels = rw f p.labels }

pending_made : (y : Synced) (o : OpenValue) (gs : List Change) → AllByRecursion (λ g. IsTrue (is_well_formed g)) gs → group_fault o.session.catalogue gs ≡ None → Pending y (session_of o.session.query o.session.catalogue o.session.changed)
    → Pending y (session_of o.session.query (after_all o.session.catalogue gs) (made o.session gs).changed)
pending_made y o gs formed accepted p =
    let n : SessionState = record { query = o.session.query; catalogue = o.session.catalogue; changed = o.session.changed; held = Some gs; proposed = None } in
    pending_as y (committed n) (session_of o.session.query (after_all o.session.catalogue gs) (made o.session gs).changed) refl refl
    (pending_committed y n formed accepted (pending_as y (session_of o.session.query o.session.catalogue o.session.changed) n refl refl p))

twice : (u v w a b : ℕ) → v ≡ risen u a → w ≡ risen v b → w ≡ risen u (a + b)
twice u v w a b e f = omega (arith, e, f)

module _ (t : Tree) (c0 : CatalogueValue) (first : loaded t ≡ Ok c0) (whole : IsWhole t) where
  -- an answer that only prints
  prints_keep : (saves : Bool) (o : OpenValue) (shown : CatalogueValue) (y : Synced) (s : Stored) (a : Answer) → KeptFor saves t c0 o shown y s → Prints o a → Keeps saves t c0 s a.effects a.view shown y (a.writes s.tree)
  prints_keep saves o shown y s a k h = record {
    stored = s;
    done = prints_done a.effects h.prints s;
    kept = alike_kept saves t c0 o a.view shown y s h.alike k;
    writes = none_risen s.writes ∙ ap (risen s.writes) (sym (h.writes s.tree));
  }

  -- changes that are made
  moved_kept : (saves : Bool) (o : OpenValue) (shown : CatalogueValue) (y : Synced) (s : Stored) (gs : List Change) → AllByRecursion (λ g. IsTrue (is_well_formed g)) gs → group_fault o.session.catalogue gs ≡ None → KeptFor saves t c0 o shown y s
      → IsKept saves t c0 o.session.query (after_all o.session.catalogue gs) (made o.session gs).changed o.synced shown y s
  moved_kept saves o shown y s gs formed accepted k =
      let q : Query = o.session.query in
      let lines : List TableLine = lines_to o.session (after_all o.session.catalogue gs) in
      let all : List Text = o.session.changed.labels ++ map label_of lines in
      let named : (made o.session gs).changed.labels ≡ ascending text_cmp all = ap (λ (ls : List Text). ascending text_cmp (ls ++ map label_of lines)) (labels_stay o.session.changed o.session.catalogue gs) in
      record {
        files = k.files;
        unnamed = λ label apart.
            let neither = in_neither label o.session.changed.labels (map label_of lines) (sym (in_ascending label all) ∙ ap (is_in label) (sym named) ∙ apart) in
            k.unnamed label neither.0 ∙ unnamed_table_stays label (tables_of o.session) (meaning (after_all o.session.catalogue gs) q) (meaning_in_order o.session.catalogue q) (meaning_in_order (after_all o.session.catalogue gs) q) neither.1;
        labels = k.labels;
        apart = subst Apart (sym named) (apart_sorted (ascending text_cmp all) (ascending_ascends text_cmp nat_list_cmp_total all));
        sources = k.sources;
        pending = λ on. pending_made y o gs formed accepted (k.pending on);
      }

  -- a sync that saves the sources, and then the view's files
  module _ (o : OpenValue) (shown : CatalogueValue) (y : Synced) (s : Stored) (k : KeptFor true t c0 o shown y s) where
    abbrev folder : Text
    folder = view_folder o.session.query.view_db

    abbrev waits : Pending y (session_of o.session.query o.session.catalogue o.session.changed)
    waits = k.pending refl

    abbrev saved_silently : AllByRecursion Silent (saving o.session)
    saved_silently = (tt, tt)

    abbrev saved_store : Stored
    saved_store = stored_by (saving o.session) s

    still_held : Holds folder (table_files (shape_of o.session.query) (meaning shown o.session.query)) saved_store.tree
    still_held name csv =
        (tree_saved o.session.catalogue o.session.changed.databases o.session.changed.relations s.tree waits.labels).others (folder, name) (beside_sources o.session.query.view_db name o.session.changed.relations)
        ∙ k.files name csv

    abbrev synced_store : Stored
    synced_store = view_store o shown saved_store still_held k.unnamed k.labels k.apart

    sync_done : Performs (sync_effects o) s synced_store
    sync_done held =
        performed_append (saving o.session) (view_effects o) (record { stored = Some s; held = held })
        ∙ ap (performed (view_effects o)) (silent_after (saving o.session) s held saved_silently)
        ∙ view_done o shown saved_store still_held k.unnamed k.labels k.apart held
        ∙ ap (λ (b : List ℕ). record { stored = Some synced_store; held = with_bytes b held }) (sym (silent (saving o.session) (view_effects o) saved_silently))

    -- the sources then hold the catalogue
    sources_synced : SourcesKept t c0 (synced o.session y) synced_store.tree
    sources_synced =
        subst (SourcesKept t c0 (synced o.session y)) (sym (tree_left (view_effects o) saved_store synced_store (view_done o shown saved_store still_held k.unnamed k.labels k.apart)))
        (kept_beside t c0 (synced o.session y) saved_store.tree o.session.query.view_db (view_effects o) (view_in_view o)
        (kept_synced t c0 first whole y s.tree o.session k.sources (pending_as y (session_of o.session.query o.session.catalogue o.session.changed) o.session refl refl waits)))

    saving_keeps : Keeps true t c0 s (syncing o).effects (synced_view o) o.session.catalogue (synced o.session y) ((syncing o).writes s.tree)
    saving_keeps = record {
      stored = synced_store;
      done = sync_done;
      kept = record {
        files = view_held o shown saved_store still_held k.unnamed k.labels k.apart;
        unnamed = λ label apart. refl;
        labels = refl;
        apart = tt;
        sources = sources_synced;
        pending = λ on. pending_first (synced o.session y) (session_of o.session.query o.session.catalogue no_names) waits.sound refl refl;
      };
      writes = twice s.writes saved_store.writes synced_store.writes (counted (saving o.session) s.tree) (sync_count o) refl (view_counted o shown saved_store still_held k.unnamed k.labels k.apart);
    }

  -- and one of the view's files alone
  module _ (o : OpenValue) (shown : CatalogueValue) (y : Synced) (s : Stored) (k : KeptFor false t c0 o shown y s) where
    abbrev left_store : Stored
    left_store = view_store o shown s k.files k.unnamed k.labels k.apart

    leaving_keeps : Keeps false t c0 s (syncing_view o).effects (synced_view o) o.session.catalogue y ((syncing_view o).writes s.tree)
    leaving_keeps = record {
      stored = left_store;
      done = view_done o shown s k.files k.unnamed k.labels k.apart;
      kept = record {
        files = view_held o shown s k.files k.unnamed k.labels k.apart;
        unnamed = λ label apart. refl;
        labels = refl;
        apart = tt;
        sources =
            subst (SourcesKept t c0 y) (sym (tree_left (view_effects o) s left_store (view_done o shown s k.files k.unnamed k.labels k.apart)))
            (kept_beside t c0 y s.tree o.session.query.view_db (view_effects o) (view_in_view o) k.sources);
        pending = λ on. absurd (false≢true on);
      };
      writes = view_counted o shown s k.files k.unnamed k.labels k.apart;
    }

  -- an answer that does what a sync does
  sync_keeps : (saves : Bool) (o : OpenValue) (shown : CatalogueValue) (y : Synced) (s : Stored) → KeptFor saves t c0 o shown y s
      → Keeps saves t c0 s (sync_by saves o).effects (sync_by saves o).view o.session.catalogue (synced_by Syncs saves o.session y) ((sync_by saves o).writes s.tree)
  sync_keeps true o shown y s k = saving_keeps o shown y s k
  sync_keeps false o shown y s k = leaving_keeps o shown y s k

  keeps_as : (saves : Bool) (shown : CatalogueValue) (y : Synced) (s : Stored) (sync a : Answer) → IsSync sync a → Keeps saves t c0 s sync.effects sync.view shown y (sync.writes s.tree) → Keeps saves t c0 s a.effects a.view shown y (a.writes s.tree)
  keeps_as saves shown y s sync a h k = record {
    stored = k.stored;
    done = subst (λ (es : List Effect). Performs es s k.stored) (sym h.effects) k.done;
    kept = alike_kept saves t c0 sync.view a.view shown y k.stored h.alike k.kept;
    writes = k.writes ∙ ap (risen s.writes) (sym (h.writes s.tree));
  }

  by_said : (saves : Bool) (o : OpenValue) (shown : CatalogueValue) (y : Synced) (s : Stored) (a : Answer) (said : Said) → KeptFor saves t c0 o shown y s → MayGive saves o a said
      → Keeps saves t c0 s a.effects a.view (shown_by said o shown) (synced_by said saves o.session y) (a.writes s.tree)
  by_said saves o shown y s a Tells k h = prints_keep saves o shown y s a k h
  by_said saves o shown y s a (Scripts lines) k h =
      prints_keep saves (record { session = made o.session h.changes; synced = o.synced; refused = o.refused; broken = o.broken }) shown y s a (moved_kept saves o shown y s h.changes h.formed h.accepted k) h.prints
  by_said saves o shown y s a Syncs k h = keeps_as saves o.session.catalogue (synced_by Syncs saves o.session y) s (sync_by saves o) a h (sync_keeps saves o shown y s k)

-- an opening leaves a store that is kept
pub opening_files : (c : CatalogueValue) (q : Query) → files_of_view c q ≡ table_files (shape_of q) (meaning c q)
unfolding files_of_view
opening_files c q = refl

pub opening_keeps : (saves : Bool) (s : Stored) (q : Query) (c0 c : CatalogueValue) → loaded s.tree ≡ Ok c0 → IsWhole s.tree → (saves ≡ true → c ≡ c0)
    → Keeps saves s.tree c0 s (opening_of s.tree q c) (just_opened q c) c (unsaved c0) (opening_writes s.tree c q)
opening_keeps saves s q c0 c first whole same =
    let d : Text = view_folder q.view_db in
    let fs : List File = files_of_view c q in
    let last : Stored = now d fs s (are_view_files c q) in
    let line : List Effect = prints_synced (opening_count fs (files_of s.tree d)) ∷ [] in
    let es : List Effect = opening_effects d fs (files_of s.tree d) in
    let done : Performs es s last
    = λ held.
    performed_append (opening_sync d fs (files_of s.tree d)) line (record { stored = Some s; held = held })
    ∙ ap (performed line) (synced_files d fs s (are_view_files c q) held)
    ∙ printing last _ held
    ∙ ap (λ (b : List ℕ). record { stored = Some last; held = with_bytes b held }) (sym (opening_silent d fs (files_of s.tree d) line)) in
    record {
      stored = last;
      done = done;
      kept = record {
        files = subst (λ (gs : List File). Holds d gs last.tree) (opening_files c q) (holds_exactly d fs s (are_view_files c q)).tables;
        unnamed = λ label apart. refl;
        labels = refl;
        apart = tt;
        sources = subst (SourcesKept s.tree c0 (unsaved c0)) (sym (tree_left es s last done)) (kept_beside s.tree c0 (unsaved c0) s.tree q.view_db es (opening_in_view q.view_db fs (files_of s.tree d)) (kept_first s.tree c0 whole first));
        pending = λ on. pending_first (unsaved c0) (session_of q c no_names) (subst IsSound (sym (same on)) (sound_loaded s.tree c0 first)) (same on) refl;
      };
      writes = counted_files d fs s (are_view_files c q);
    }

-- one after the other
pub done_more : (s m u : Stored) (es fs : List Effect) → Performs es s m → Performs fs m u → Performs (es ++ fs) s u
done_more s m u es fs f g held =
    performed_append es fs (record { stored = Some s; held = held })
    ∙ ap (performed fs) (f held)
    ∙ g (with_bytes (printed_by es) held)
    ∙ ap (λ (h : Option (List ℕ)). record { stored = Some u; held = h }) (with_more (printed_by es) (printed_by fs) held ∙ ap (λ (b : List ℕ). with_bytes b held) (sym (printed_append es fs)))

module _ (saves : Bool) (t : Tree) (c0 : CatalogueValue) where
  pub keeps_more : (s : Stored) (es fs : List Effect) (o p : OpenValue) (c d : CatalogueValue) (y z : Synced) (m n : ℕ) → (k : Keeps saves t c0 s es o c y m) → Keeps saves t c0 k.stored fs p d z n → Keeps saves t c0 s (es ++ fs) p d z (m + n)
  keeps_more s es fs o p c d y z m n k l = record {
    stored = l.stored;
    done = done_more s k.stored l.stored es fs k.done l.done;
    kept = l.kept;
    writes = twice s.writes k.stored.writes l.stored.writes m n k.writes l.writes;
  }

  keeps_yet : (s : Stored) (o : OpenValue) (c : CatalogueValue) (y : Synced) → KeptFor saves t c0 o c y s → Keeps saves t c0 s [] o c y 0
  keeps_yet s o c y k = record { stored = s; done = nothing_done s; kept = k; writes = none_risen s.writes }

  pub recounted : (s : Stored) (es : List Effect) (o : OpenValue) (c : CatalogueValue) (y : Synced) (m n : ℕ) → m ≡ n → Keeps saves t c0 s es o c y m → Keeps saves t c0 s es o c y n
  recounted s es o c y m n e k = subst (Keeps saves t c0 s es o c y) e k

  -- all answers
  pub answers_keep : loaded t ≡ Ok c0 → IsWhole t → (answers : List Answer) (o : OpenValue) (c : CatalogueValue) (y : Synced) (s : Stored) → KeptFor saves t c0 o c y s → AreGiven saves o answers
      → Keeps saves t c0 s (effects_by answers) (view_after o answers) (last_shown o c answers) (last_synced saves o y answers) (writes_by s.tree answers)
  unfolding keeps_more by_said
  answers_keep first whole [] o c y s k are = keeps_yet s o c y k
  answers_keep first whole (a ∷ answers) o c y s k are =
      let d : CatalogueValue = shown_by a.said o c in
      let z : Synced = synced_by a.said saves o.session y in
      let l = by_said t c0 first whole saves o c y s a a.said k are.0 in
      let rest = answers_keep first whole answers a.view d z l.stored l.kept are.1 in
      recounted s (a.effects ++ effects_by answers) (view_after a.view answers) (last_shown a.view d answers) (last_synced saves a.view z answers) (a.writes s.tree + writes_by l.stored.tree answers) (a.writes s.tree + writes_by (tree_after a.effects s.tree) answers)
      (ap (λ (u : Tree). a.writes s.tree + writes_by u answers) (tree_left a.effects s l.stored l.done))
      (keeps_more s a.effects (effects_by answers) a.view (view_after a.view answers) d (last_shown a.view d answers) z (last_synced saves a.view z answers) (a.writes s.tree) (writes_by l.stored.tree answers) l rest)
