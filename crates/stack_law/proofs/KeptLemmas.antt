-- What the folders of a stack and the sources hold while answers are given.
use Rattle.std.proofs.Common.{◌≡◌, true, false, ℕ, ◌+◌, ◌||◌, filter, length, List, [], ◌∷◌, ◌++◌, Option, None, Some, map, is_some, refl, sym, ap, ◌∙◌, subst, arith}
use Rattle.std.specs.Prelude.{Ok, unwrap_or}
use Rattle.std.specs.List.{AllByRecursion}
use Rattle.std.specs.Cmp.Lexicographic.{nat_list_cmp_total}
use Rattle.std.proofs.lemmas.Bool.{or_parts}
use Rattle.std.proofs.lemmas.List.Folds.{list_any-append}
use Rattle.ss_text.specs.Texts.{Text, text_cmp, text_eq, is_in}
use Rattle.ss_text.specs.Ascending.{ascending}
use Rattle.ss_text.proofs.AscendingLemmas.{ascending_ascends}
use Rattle.ss_text.proofs.KeyLemmas.{text_order}
use Rattle.ss_text.proofs.PairLemmas.{same_keys}
use Rattle.outside.specs.Counts.{risen}
use Rattle.outside.specs.Tree.{Tree, files_of, file_at}
use Rattle.outside.specs.Whole.{IsWhole}
use Rattle.outside.specs.Effects.{Effect, Write, Remove, Replace, Print, Stored, Contents, performed}
use Rattle.schema_model.specs.Catalogue.{CatalogueValue}
use Rattle.schema_model.specs.Changes.{after_all}
use Rattle.csv_catalog.specs.Loaded.{loaded}
use Rattle.csv_catalog.specs.Saved.{saved}
use Rattle.view_def.specs.Query.{Query}
use Rattle.flow_law.specs.declared.line.TableLine.{TableLine}
use Rattle.flow_law.specs.Lines.{label_of}
use Rattle.flow_law.specs.Script.{script}
use Rattle.flow_law.specs.Tables.{table_of, labels_of}
use Rattle.flow_law.proofs.ScriptLaw.{unnamed_table_stays}
use Rattle.view_meaning.specs.Meaning.{meaning, shape_of}
use Rattle.view_folder.specs.declared.file.File.{File}
use Rattle.view_folder.specs.Files.{view_folder, Apart}
use Rattle.view_folder.specs.TableFiles.{table_files}
use Rattle.view_folder.specs.Sync.{Holds, opening_sync, opening_count, later_sync}
use Rattle.view_folder.proofs.FolderLemmas.{there, files_ascend, apart_sorted, now, holds_exactly, counted as counted_files, synced as synced_files}
use Rattle.view_folder.proofs.LaterLemmas.{later, later_synced, later_holds, later_counted}
use Rattle.view_session.specs.Session.{SessionState}
use Rattle.view_session.proofs.UpkeepLemmas.{meaning_in_order}
use Rattle.source_law.specs.Counted.{tree_after, counted}
use Rattle.source_law.specs.Synced.{Synced, unsaved}
use Rattle.source_law.proofs.AfterLemmas.{stored_after}
use Rattle.source_law.proofs.SavingLemmas.{SourcesKept, Pending, kept_first, pending_first, pending_committed, kept_synced, kept_beside}
use Rattle.source_law.proofs.LoadedLemmas.{sound_loaded}
use Rattle.ss_print.specs.Printing.{prints_synced}
use Rattle.view_stages.specs.Stages.{files_of_view}
use Rattle.view_stages.proofs.StageLemmas.{are_view_files}
use Rattle.view_stages.proofs.BetweenLemmas.{tree_append}
use Rattle.upkeep_law.specs.Given.{IsPrint}
use Rattle.upkeep_law.proofs.KeptLemmas.{opening_files, in_ascending}
use Rattle.view_stack.specs.Stands.{given_by}
use Rattle.stack_levels.specs.Levels.{tables_over, lines_over}
use Rattle.stack_levels.specs.Values.{LevelValue, with_lines, synced_over, count_of}
use Rattle.stack_answers.specs.Stack.{StackState, queries_of, stack_tables, stack_at_first}
use Rattle.stack_answers.specs.Answers.{Answer, making, syncing, folder_effects, sync_count, synced_stack}
use Rattle.stack_answers.specs.Opening.{folders_opened, opening_sum}
use Rattle.stack_law.specs.Lists.{effects_by, stack_after, synced, synced_by, last_synced, writes_of, writes_by}
use Rattle.stack_law.specs.Promises.{FoldersHold, opening_of}
use Rattle.stack_law.proofs.EffectLemmas.{CountsAs, counts_then, prints_tree, prints_counted}
use Rattle.stack_law.proofs.FolderLemmas.{AllIn, one_folder, both_in, in_more, opening_in, later_in, files_stay, in_view}
use Rattle.stack_law.proofs.SourceLemmas.{file_saved}
use Rattle.stack_law.proofs.LevelLemmas.{folder_names, head_among, tail_among, one_among, apart_from, views_in, views_with_lines, views_synced}
use Rattle.stack_law.proofs.GivenLemmas.{AreAlike, Tells, Makes, MayGive, ByTelling, ByMaking, BySyncing, AreGiven}

-- ---- one folder among others
-- files that are held in a folder stay so where effects are on other folders
held_beside : (d : Text) (fs : List File) (ks : List Text) (es : List Effect) (t : Tree) → AllIn ks es → is_in d ks ≡ false → Holds d fs t → Holds d fs (tree_after es t)
held_beside d fs ks es t within apart held name csv = files_stay ks es t (d, name) within apart ∙ held name csv

-- so do those of all levels
folders_beside : (c : CatalogueValue) (qs : List Query) (ks : List Text) (es : List Effect) (t : Tree) → AllIn ks es → ((d : Text) → is_in d (folder_names qs) ≡ true → is_in d ks ≡ false) → FoldersHold c qs t → FoldersHold c qs (tree_after es t)
folders_beside c [] ks es t within apart held = tt
folders_beside c (q ∷ qs) ks es t within apart held = (
  held_beside (view_folder q.view_db) (files_of_view c q) ks es t within (apart (view_folder q.view_db) (head_among (view_folder q.view_db) (folder_names qs))) held.0,
  folders_beside (given_by c q) qs ks es t within (λ d among. apart d (tail_among (view_folder q.view_db) (folder_names qs) d among)) held.1,
)

-- the effects on one folder, and those on the folders behind it
first_and_rest : (d : Text) (ks : List Text) (es fs : List Effect) → AllIn (one_folder d) es → AllIn ks fs → AllIn (d ∷ ks) (es ++ fs)
first_and_rest d ks es fs h k = both_in (d ∷ ks) es fs (in_more (one_folder d) (d ∷ ks) (one_among d ks) es h) (in_more ks (d ∷ ks) (tail_among d ks) fs k)

-- what is done to one folder, by what becomes of a store
module _ (es : List Effect) (t : Tree) (last : ℕ → Stored) (did : (w : ℕ) (held : Option (List ℕ)) → performed es (record { stored = Some (record { tree = t; writes = w }); held = held }) ≡ record { stored = Some (last w); held = held }) where
  stored_is : (w : ℕ) → record { tree = tree_after es t; writes = risen w (counted es t) } ≡ last w
  stored_is w =
      ap (λ (o : Option Stored). unwrap_or o (last w))
      (sym (stored_after es (record { stored = Some (record { tree = t; writes = w }); held = None }) (record { tree = t; writes = w }) refl) ∙ ap (λ (c : Contents). c.stored) (did w None))

  tree_is : (w : ℕ) → (last w).tree ≡ tree_after es t
  tree_is w = ap (λ (s : Stored). s.tree) (sym (stored_is w))

  counts_is : (n : ℕ) → ((w : ℕ) → (last w).writes ≡ risen w n) → CountsAs es t n
  counts_is n h w = ap (λ (s : Stored). s.writes) (stored_is w) ∙ h w

-- a line that is printed behind it counts nothing
with_line : (es : List Effect) (t : Tree) (n shown : ℕ) → CountsAs es t n → CountsAs (es ++ prints_synced shown ∷ []) t n
with_line es t n shown h w = counts_then es (prints_synced shown ∷ []) t n 0 h (λ v. refl) w ∙ ap (risen w) (none n)
  where
    none : (m : ℕ) → m + 0 ≡ m
    none m = omega arith

-- ---- the openings of all levels
-- the names in a folder are the same where its files are
names_same : (d : Text) (t v : Tree) → ((name : Text) → file_at v d name ≡ file_at t d name) → files_of v d ≡ files_of t d
names_same d t v same = same_keys text_order (files_of v d) (files_of t d) (files_ascend v d) (files_ascend t d) (λ name. there v d name ∙ ap is_some (same name) ∙ sym (there t d name))

-- one, over a tree in which its folder is as at first
module _ (t v : Tree) (c : CatalogueValue) (q : Query) (same : (name : Text) → file_at v (view_folder q.view_db) name ≡ file_at t (view_folder q.view_db) name) where
  abbrev d : Text
  d = view_folder q.view_db

  abbrev fs : List File
  fs = files_of_view c q

  abbrev es : List Effect
  es = opening_sync d fs (files_of t d)

  abbrev store : ℕ → Stored
  store w = now d fs (record { tree = v; writes = w }) (are_view_files c q)

  did : (w : ℕ) (held : Option (List ℕ)) → performed es (record { stored = Some (record { tree = v; writes = w }); held = held }) ≡ record { stored = Some (store w); held = held }
  did w held =
      ap (λ (names : List Text). performed (opening_sync d fs names) (record { stored = Some (record { tree = v; writes = w }); held = held })) (sym (names_same d t v same))
      ∙ synced_files d fs (record { tree = v; writes = w }) (are_view_files c q) held

  one_opened : Holds d fs (tree_after es v)
  one_opened = subst (Holds d fs) (tree_is es v store did 0) (holds_exactly d fs (record { tree = v; writes = 0 }) (are_view_files c q)).tables

  one_counted : CountsAs es v (opening_count fs (files_of t d))
  one_counted =
      counts_is es v store did (opening_count fs (files_of t d))
      (λ w. counted_files d fs (record { tree = v; writes = w }) (are_view_files c q) ∙ ap (λ (names : List Text). risen w (opening_count fs names)) (names_same d t v same))

-- and all
pub openings_in : (qs : List Query) (t : Tree) (c : CatalogueValue) → AllIn (folder_names qs) (folders_opened t c qs)
openings_in [] t c = tt
openings_in (q ∷ qs) t c =
    let d : Text = view_folder q.view_db in
    first_and_rest d (folder_names qs) (opening_sync d (files_of_view c q) (files_of t d)) (folders_opened t (given_by c q) qs) (opening_in d (files_of_view c q) (files_of t d) (are_view_files c q)) (openings_in qs t (given_by c q))

record Opened (t v : Tree) (c : CatalogueValue) (qs : List Query) : Type 0 where
  folders : FoldersHold c qs (tree_after (folders_opened t c qs) v)
  counts : CountsAs (folders_opened t c qs) v (opening_sum t c qs)

all_opened : (qs : List Query) (c : CatalogueValue) (t v : Tree) → Apart (folder_names qs) → ((d : Text) → is_in d (folder_names qs) ≡ true → (name : Text) → file_at v d name ≡ file_at t d name) → Opened t v c qs
all_opened [] c t v apart same = record { folders = tt; counts = λ w. refl }
all_opened (q ∷ qs) c t v apart same =
    let d : Text = view_folder q.view_db in
    let above : CatalogueValue = given_by c q in
    let first : List Effect = opening_sync d (files_of_view c q) (files_of t d) in
    let others : List Effect = folders_opened t above qs in
    let here = same d (head_among d (folder_names qs)) in
    let rest = all_opened qs above t (tree_after first v) apart.1 (λ k among name.
    files_stay (one_folder d) first v (k, name) (opening_in d (files_of_view c q) (files_of t d) (are_view_files c q)) (apart_from d (folder_names qs) apart.0 k among)
    ∙ same k (tail_among d (folder_names qs) k among) name) in
    record {
      folders = subst (FoldersHold c (q ∷ qs)) (sym (tree_append first others v))
          (held_beside d (files_of_view c q) (folder_names qs) others (tree_after first v) (openings_in qs t above) apart.0 (one_opened t v c q here), rest.folders);
      counts = counts_then first others v (opening_count (files_of_view c q) (files_of t d)) (opening_sum t above qs) (one_counted t v c q here) rest.counts;
    }

-- ---- the syncs of all levels
-- of the levels over a catalogue only tables of labels that were named are others than those over the one at the last sync
pub record IsNamed (shown c : CatalogueValue) (l : LevelValue) : Type 0 where
  pub unnamed : (label : Text) → is_in label l.named ≡ false → table_of (meaning shown l.query) label ≡ table_of (meaning c l.query) label
  pub labels : l.synced ≡ labels_of (meaning shown l.query)
  pub apart : Apart l.named

abbrev pub AreNamed : CatalogueValue → CatalogueValue → List LevelValue → Type 0
AreNamed shown c [] = Unit {0}
AreNamed shown c (l ∷ ls) = IsNamed shown c l × AreNamed (given_by shown l.query) (given_by c l.query) ls

-- just behind a sync
just_synced : (qs : List Query) (c : CatalogueValue) → AreNamed c c (synced_over c qs)
just_synced [] c = tt
just_synced (q ∷ qs) c = (record { unnamed = λ label none. refl; labels = refl; apart = tt }, just_synced qs (given_by c q))

-- and behind the lines of each
with_lines_named : (ls : List LevelValue) (shown c d : CatalogueValue) → AreNamed shown c ls → AreNamed shown d (with_lines ls (lines_over c d (views_in ls)))
with_lines_named [] shown c d h = tt
with_lines_named (l ∷ ls) shown c d h = (
  record {
    unnamed = λ label none.
        let parts = or_parts (is_in label l.named) (is_in label (map label_of lines)) (sym (list_any-append (text_eq label) l.named (map label_of lines)) ∙ sym (in_ascending label all) ∙ none) in
        h.0.unnamed label parts.0 ∙ unnamed_table_stays label (meaning c q) (meaning d q) (meaning_in_order c q) (meaning_in_order d q) parts.1;
    labels = h.0.labels;
    apart = apart_sorted (ascending text_cmp all) (ascending_ascends text_cmp nat_list_cmp_total all);
  },
  with_lines_named ls (given_by shown q) (given_by c q) (given_by d q) h.1,
)
  where
    q : Query
    q = l.query

    lines : List TableLine
    lines = script (meaning c q) (meaning d q)

    all : List Text
    all = l.named ++ map label_of lines

-- one
module _ (l : LevelValue) (shown c : CatalogueValue) (u : Tree) (held : Holds (view_folder l.query.view_db) (files_of_view shown l.query) u) (named : IsNamed shown c l) where
  abbrev p : Query
  p = l.query

  abbrev folder : Text
  folder = view_folder p.view_db

  abbrev syncs : List Effect
  syncs = later_sync folder (shape_of p) (meaning c p) l.named

  abbrev left : ℕ → Stored
  left w = later folder (shape_of p) (meaning shown p) (meaning c p) l.named (record { tree = u; writes = w })

  held_tables : Holds folder (table_files (shape_of p) (meaning shown p)) u
  held_tables = subst (λ (files : List File). Holds folder files u) (opening_files shown p) held

  synced_so : (w : ℕ) (printed : Option (List ℕ)) → performed syncs (record { stored = Some (record { tree = u; writes = w }); held = printed }) ≡ record { stored = Some (left w); held = printed }
  synced_so w printed = later_synced folder (shape_of p) (meaning shown p) (meaning c p) l.named (record { tree = u; writes = w }) printed

  one_synced : Holds folder (files_of_view c p) (tree_after syncs u)
  one_synced =
      subst (λ (files : List File). Holds folder files (tree_after syncs u)) (sym (opening_files c p))
      (subst (Holds folder (table_files (shape_of p) (meaning c p))) (tree_is syncs u left synced_so 0)
      (later_holds folder (shape_of p) (meaning shown p) (meaning c p) l.named (record { tree = u; writes = 0 }) held_tables named.unnamed).tables)

  one_sync_counted : CountsAs syncs u (count_of l (meaning c p))
  one_sync_counted =
      counts_is syncs u left synced_so (count_of l (meaning c p))
      (λ w. later_counted folder (shape_of p) (meaning shown p) (meaning c p) l.named (record { tree = u; writes = w }) held_tables named.apart
      ∙ ap (λ (ls : List Text). risen w (length (filter (λ label. is_in label (labels_of (meaning c p)) || is_in label ls) l.named))) (sym named.labels))

-- and all
pub syncs_in : (ls : List LevelValue) (c : CatalogueValue) → AllIn (folder_names (views_in ls)) (folder_effects ls (tables_over c (views_in ls)))
syncs_in [] c = tt
syncs_in (l ∷ ls) c =
    let d : Text = view_folder l.query.view_db in
    first_and_rest d (folder_names (views_in ls)) (later_sync d (shape_of l.query) (meaning c l.query) l.named) (folder_effects ls (tables_over (given_by c l.query) (views_in ls)))
    (later_in d (shape_of l.query) (meaning c l.query) l.named) (syncs_in ls (given_by c l.query))

record LevelsSynced (ls : List LevelValue) (c : CatalogueValue) (u : Tree) : Type 0 where
  folders : FoldersHold c (views_in ls) (tree_after (folder_effects ls (tables_over c (views_in ls))) u)
  counts : CountsAs (folder_effects ls (tables_over c (views_in ls))) u (sync_count ls (tables_over c (views_in ls)))

all_synced : (ls : List LevelValue) (shown c : CatalogueValue) (u : Tree) → Apart (folder_names (views_in ls)) → FoldersHold shown (views_in ls) u → AreNamed shown c ls → LevelsSynced ls c u
all_synced [] shown c u apart held named = record { folders = tt; counts = λ w. refl }
all_synced (l ∷ ls) shown c u apart held named =
    let d : Text = view_folder l.query.view_db in
    let above : CatalogueValue = given_by c l.query in
    let first : List Effect = later_sync d (shape_of l.query) (meaning c l.query) l.named in
    let others : List Effect = folder_effects ls (tables_over above (views_in ls)) in
    let rest = all_synced ls (given_by shown l.query) above (tree_after first u) apart.1
    (folders_beside (given_by shown l.query) (views_in ls) (one_folder d) first u (later_in d (shape_of l.query) (meaning c l.query) l.named) (apart_from d (folder_names (views_in ls)) apart.0) held.1) named.1 in
    record {
      folders = subst (FoldersHold c (views_in (l ∷ ls))) (sym (tree_append first others u))
          (held_beside d (files_of_view c l.query) (folder_names (views_in ls)) others (tree_after first u) (syncs_in ls above) apart.0 (one_synced l shown c u held.0 named.0), rest.folders);
      counts = counts_then first others u (count_of l (meaning c l.query)) (sync_count ls (tables_over above (views_in ls))) (one_sync_counted l shown c u held.0 named.0) rest.counts;
    }

-- ---- the sources, of which none is in a view's folder
-- what is saved leaves the folders
saved_beside : (s : StackState) (c : CatalogueValue) (qs : List Query) (u : Tree) → FoldersHold c qs u → FoldersHold c qs (tree_after (Replace (saved s.catalogue s.databases s.relations) ∷ []) u)
saved_beside s c [] u held = tt
saved_beside s c (q ∷ qs) u held = (
  λ name csv. file_saved q.view_db s.catalogue s.databases s.relations u (view_folder q.view_db, name) refl ∙ held.0 name csv,
  saved_beside s (given_by c q) qs u held.1,
)

-- and the syncs of the folders leave the sources
module _ (t : Tree) (c0 : CatalogueValue) (y : Synced) where
  openings_beside : (qs : List Query) (c : CatalogueValue) (v : Tree) → SourcesKept t c0 y v → SourcesKept t c0 y (tree_after (folders_opened t c qs) v)
  openings_beside [] c v k = k
  openings_beside (q ∷ qs) c v k =
      let d : Text = view_folder q.view_db in
      let first : List Effect = opening_sync d (files_of_view c q) (files_of t d) in
      subst (SourcesKept t c0 y) (sym (tree_append first (folders_opened t (given_by c q) qs) v))
      (openings_beside qs (given_by c q) (tree_after first v) (kept_beside t c0 y v q.view_db first (in_view q.view_db first (opening_in d (files_of_view c q) (files_of t d) (are_view_files c q))) k))

  syncs_beside : (ls : List LevelValue) (c : CatalogueValue) (v : Tree) → SourcesKept t c0 y v → SourcesKept t c0 y (tree_after (folder_effects ls (tables_over c (views_in ls))) v)
  syncs_beside [] c v k = k
  syncs_beside (l ∷ ls) c v k =
      let d : Text = view_folder l.query.view_db in
      let first : List Effect = later_sync d (shape_of l.query) (meaning c l.query) l.named in
      subst (SourcesKept t c0 y) (sym (tree_append first (folder_effects ls (tables_over (given_by c l.query) (views_in ls))) v))
      (syncs_beside ls (given_by c l.query) (tree_after first v) (kept_beside t c0 y v l.query.view_db first (in_view l.query.view_db first (later_in d (shape_of l.query) (meaning c l.query) l.named)) k))

-- ---- a stack between two syncs
-- the sources of a stack, as those of a session
abbrev pub lowest : Query → StackState → SessionState
lowest q s = record { query = q; catalogue = s.catalogue; changed = record { labels = []; relations = s.relations; databases = s.databases }; held = s.held; proposed = None }

module _ (t : Tree) (c0 : CatalogueValue) (q0 : Query) (qs : List Query) (apart : Apart (folder_names qs)) where
  -- the folders show the catalogue at the last sync, at which the sources were saved, and what has changed since was named
  pub record IsKept (s : StackState) (y : Synced) (u : Tree) : Type 0 where
    pub views : queries_of s ≡ qs
    pub folders : FoldersHold y.catalogue qs u
    pub named : AreNamed y.catalogue s.catalogue s.levels
    pub sources : SourcesKept t c0 y u
    pub pending : Pending y (lowest q0 s)

  -- what effects leave that are kept, and how many files and folders they write, make or remove
  pub record Keeps (u : Tree) (es : List Effect) (s : StackState) (y : Synced) (n : ℕ) : Type 0 where
    pub kept : IsKept s y (tree_after es u)
    pub counts : CountsAs es u n

  alike_pending : (s p : StackState) (y : Synced) → AreAlike s p → Pending y (lowest q0 s) → Pending y (lowest q0 p)
  alike_pending s p y h w = record { sound = rw h.catalogue w.sound; relations = rw (h.catalogue, h.relations) w.relations; databases = rw (h.catalogue, h.databases) w.databases; labels = rw h.databases w.labels }

  alike_kept : (s p : StackState) (y : Synced) (u : Tree) → AreAlike s p → IsKept s y u → IsKept p y u
  alike_kept s p y u h k = record {
    views = ap views_in h.levels ∙ k.views;
    folders = k.folders;
    named = rw (h.catalogue, h.levels) k.named;
    sources = k.sources;
    pending = alike_pending s p y h k.pending;
  }

  -- prints save nothing
  prints_saved : (es : List Effect) (s : StackState) (y : Synced) → AllByRecursion IsPrint es → synced_by es s y ≡ y
  prints_saved [] s y h = refl
  prints_saved (Print bytes ∷ rest) s y h = refl
  prints_saved (Write d file bytes ∷ rest) s y h = absurd h.0
  prints_saved (Remove d file ∷ rest) s y h = absurd h.0
  prints_saved (Replace edits ∷ rest) s y h = absurd h.0

  prints_written : (es : List Effect) (s : StackState) (u : Tree) → AllByRecursion IsPrint es → writes_of es s u ≡ 0
  prints_written [] s u h = refl
  prints_written (Print bytes ∷ rest) s u h = refl
  prints_written (Write d file bytes ∷ rest) s u h = absurd h.0
  prints_written (Remove d file ∷ rest) s u h = absurd h.0
  prints_written (Replace edits ∷ rest) s u h = absurd h.0

  -- an answer that only prints
  told_keeps : (s : StackState) (y : Synced) (u : Tree) (a : Answer) → Tells s a → IsKept s y u → Keeps u a.effects a.stack (synced_by a.effects s y) (writes_of a.effects s u)
  told_keeps s y u a h k = record {
    kept = subst (λ (x : Synced). IsKept a.stack x (tree_after a.effects u)) (sym (prints_saved a.effects s y h.prints))
        (subst (IsKept a.stack y) (sym (prints_tree a.effects u h.prints)) (alike_kept s a.stack y u h.alike k));
    counts = λ w. ap (risen w) (prints_counted a.effects u h.prints ∙ sym (prints_written a.effects s u h.prints));
  }

  -- changes that are made
  made_kept : (s : StackState) (y : Synced) (u : Tree) (a : Answer) → (m : Makes s a) → IsKept s y u → IsKept (making s m.changes).stack y u
  made_kept s y u a m k =
      let d : CatalogueValue = after_all s.catalogue m.changes in
      let n : SessionState = record { query = q0; catalogue = s.catalogue; changed = record { labels = []; relations = s.relations; databases = s.databases }; held = Some m.changes; proposed = None } in
      let waits : Pending y n = record { sound = k.pending.sound; relations = k.pending.relations; databases = k.pending.databases; labels = k.pending.labels } in
      let moved = pending_committed y n m.formed m.accepted waits in
      record {
        views = views_with_lines s.levels (lines_over s.catalogue d (queries_of s)) ∙ k.views;
        folders = k.folders;
        named = with_lines_named s.levels y.catalogue s.catalogue d k.named;
        sources = k.sources;
        pending = record { sound = moved.sound; relations = moved.relations; databases = moved.databases; labels = moved.labels };
      }

  made_keeps : (s : StackState) (y : Synced) (u : Tree) (a : Answer) → Makes s a → IsKept s y u → Keeps u a.effects a.stack (synced_by a.effects s y) (writes_of a.effects s u)
  made_keeps s y u a m k =
      subst (λ (x : Answer). Keeps u x.effects x.stack (synced_by x.effects s y) (writes_of x.effects s u)) (sym m.is)
      (record { kept = made_kept s y u a m k; counts = λ w. refl })

  -- a sync
  module _ (first : loaded t ≡ Ok c0) (whole : IsWhole t) where
    sync_keeps : (s : StackState) (y : Synced) (u : Tree) → IsKept s y u → Keeps u (syncing s).effects (syncing s).stack (synced s y) (writes_of (syncing s).effects s u)
    sync_keeps s y u k =
        let saves : List Effect = Replace (saved s.catalogue s.databases s.relations) ∷ [] in
        let v : Tree = tree_after saves u in
        let es : List Effect = folder_effects s.levels (stack_tables s) in
        let line : List Effect = prints_synced (sync_count s.levels (stack_tables s)) ∷ [] in
        let all = all_synced s.levels y.catalogue s.catalogue v (subst (λ (ps : List Query). Apart (folder_names ps)) (sym k.views) apart)
        (saved_beside s y.catalogue (queries_of s) u (subst (λ (ps : List Query). FoldersHold y.catalogue ps u) (sym k.views) k.folders)) k.named in
        let tree : tree_after (es ++ line) v ≡ tree_after es v = tree_append es line v in
        record {
          kept = record {
            views = views_synced s.catalogue (queries_of s) ∙ k.views;
            folders = subst (FoldersHold s.catalogue qs) (sym tree) (subst (λ (ps : List Query). FoldersHold s.catalogue ps (tree_after es v)) k.views all.folders);
            named = just_synced (queries_of s) s.catalogue;
            sources = subst (SourcesKept t c0 (synced s y)) (sym tree) (syncs_beside t c0 (synced s y) s.levels s.catalogue v (kept_synced t c0 first whole y u (lowest q0 s) k.sources k.pending));
            pending = pending_first (synced s y) (lowest q0 (synced_stack s)) k.pending.sound refl refl;
          };
          counts = counts_then saves (es ++ line) u (counted saves u) (sync_count s.levels (stack_tables s)) (λ w. refl) (with_line es v (sync_count s.levels (stack_tables s)) (sync_count s.levels (stack_tables s)) all.counts);
        }

    -- any answer
    one_keeps : (s : StackState) (y : Synced) (u : Tree) (a : Answer) → MayGive s a → IsKept s y u → Keeps u a.effects a.stack (synced_by a.effects s y) (writes_of a.effects s u)
    one_keeps s y u a (ByTelling h) k = told_keeps s y u a h k
    one_keeps s y u a (ByMaking m) k = made_keeps s y u a m k
    one_keeps s y u a (BySyncing is) k = subst (λ (x : Answer). Keeps u x.effects x.stack (synced_by x.effects s y) (writes_of x.effects s u)) (sym is) (sync_keeps s y u k)

    -- and answers one after the other
    pub answers_keep : (answers : List Answer) (s : StackState) (y : Synced) (u : Tree) → AreGiven s answers → IsKept s y u → Keeps u (effects_by answers) (stack_after s answers) (last_synced s y answers) (writes_by u s answers)
    answers_keep [] s y u are k = record { kept = k; counts = λ w. refl }
    answers_keep (a ∷ answers) s y u are k =
        let one = one_keeps s y u a are.0 k in
        let rest = answers_keep answers a.stack (synced_by a.effects s y) (tree_after a.effects u) are.1 one.kept in
        record {
          kept = subst (IsKept (stack_after a.stack answers) (last_synced a.stack (synced_by a.effects s y) answers)) (sym (tree_append a.effects (effects_by answers) u)) rest.kept;
          counts = counts_then a.effects (effects_by answers) u (writes_of a.effects s u) (writes_by (tree_after a.effects u) a.stack answers) one.counts rest.counts;
        }

    -- behind the opening
    pub opened_keeps : Keeps t (opening_of t qs c0) (stack_at_first qs c0) (unsaved c0) (opening_sum t c0 qs)
    opened_keeps =
        let es : List Effect = folders_opened t c0 qs in
        let line : List Effect = prints_synced (opening_sum t c0 qs) ∷ [] in
        let all = all_opened qs c0 t t apart (λ d among name. refl) in
        let tree : tree_after (es ++ line) t ≡ tree_after es t = tree_append es line t in
        record {
          kept = record {
            views = views_synced c0 qs;
            folders = subst (FoldersHold c0 qs) (sym tree) all.folders;
            named = just_synced qs c0;
            sources = subst (SourcesKept t c0 (unsaved c0)) (sym tree) (openings_beside t c0 (unsaved c0) qs c0 t (kept_first t c0 whole first));
            pending = pending_first (unsaved c0) (lowest q0 (stack_at_first qs c0)) (sound_loaded t c0 first) refl refl;
          };
          counts = with_line es t (opening_sum t c0 qs) (opening_sum t c0 qs) all.counts;
        }
