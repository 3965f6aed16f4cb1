-- The effects of a sync follow one plan.
use Rattle.std.proofs.Common.{◌≡◌, ℕ, Bool, true, false, ◌&&◌, ◌||◌, not, cond, map, List, [], ◌∷◌, ◌++◌, Option, None, Some, is_some, drop, inl, inr, refl, sym, ap, ◌∙◌, append_assoc, arith, append-nil}
use Rattle.std.specs.Prelude.{codes, option_map, option_and_then}
use Rattle.std.specs.Option.{option_map_or}
use Rattle.std.specs.List.{AllByRecursion}
use Rattle.std.proofs.lemmas.Bool.{and_parts, or_right, false≢true, true≢false, false_from_ne_true}
use Rattle.std.proofs.lemmas.List.{append_cancel_left}
use Rattle.ss_text.specs.Texts.{Text, text_eq}
use Rattle.ss_text.proofs.KeyLemmas.{text_order, equal_itself}
use Rattle.outside.specs.Tree.{Place}
use Rattle.outside.specs.declared.edit.Edit.{Edit}
use Rattle.outside.specs.declared.edit.Edit.TheVariants as edit
use Rattle.outside.specs.Effects.{Effect, Write, Remove, Replace, Print, Stored, Contents, Partly}
use Rattle.schema_model.specs.declared.pair.Pair.{Pair}
use Rattle.schema_model.specs.Catalogue.{RelationValue, DatabaseValue, CatalogueValue, relation_in, database_of, relation_of}
use Rattle.schema_model.specs.Sound.{IsSound}
use Rattle.csv_catalog.specs.Loaded.{database_folder, label_of}
use Rattle.csv_catalog.specs.RecordText.{csv_text, relation_records}
use Rattle.csv_catalog.specs.Saved.{relation_file, is_there, those_there, those_gone, folders_made, folders_removed, pair_saved, pairs_saved, saved}
use Rattle.flow_law.specs.declared.shape.Shape.{Shape}
use Rattle.flow_law.specs.Tables.{TablesValue, table_of}
use Rattle.view_meaning.specs.Meaning.{shape_of}
use Rattle.view_folder.specs.declared.file.File.{File}
use Rattle.view_folder.specs.Files.{view_folder, is_csv_name, is_named, bytes_in, other_names, file_name, AreViewFiles}
use Rattle.view_folder.specs.TableFiles.{table_text}
use Rattle.view_folder.specs.Sync.{written, removed, opening_sync, tables_first, label_synced, later_sync, label_edit, later_edits}
use Rattle.view_folder.proofs.FolderLemmas.{none_named}
use Rattle.view_session.specs.Session.{tables_of}
use Rattle.source_law.specs.Counted.{tree_after}
use Rattle.source_law.specs.Synced.{saving}
use Rattle.source_law.proofs.AfterLemmas.{no_path}
use Rattle.source_law.proofs.ChangeLemmas.{legal_there}
use Rattle.source_law.proofs.FileLemmas.{label_of_file}
use Rattle.source_law.proofs.NamedLemmas.{same_text}
use Rattle.source_law.proofs.SavingLemmas.{not_slashed}
use Rattle.view_stages.specs.Open.{OpenValue}
use Rattle.view_stages.specs.Opening.{opening_effects}
use Rattle.view_stages.specs.Syncs.{view_effects, sync_effects}
use Rattle.view_stages.specs.Places.{Exempt, CsvFiles}
use Rattle.view_stages.proofs.PlaceLemmas.{AllWithin}
use Rattle.view_stages.proofs.WithinLemmas.{both_within, later_within, opening_within}
use Rattle.view_stages.proofs.BetweenLemmas.{AllPlanned, Planned, PlannedEdit, Stands, AtOnce, both_planned, LeftBetween, partly_between}

-- what effects that broke off leave of a store is between what was there and what is there after all of them; and what is not exempt is all the one or all the other
abbrev pub Stage : List Exempt → List Effect → Type 0
Stage exempt es = (s : Stored) (old new : Contents) → old.stored ≡ Some s → Partly es old new → LeftBetween exempt es s.tree (tree_after es s.tree) new

pub planned_stage : (exempt : List Exempt) (wanted : Place → Option (List ℕ)) (Gone : Text → Type 0) (es : List Effect) → AllPlanned wanted Gone es → AtOnce exempt es → Stage exempt es
planned_stage exempt wanted Gone es plan how s old new told h = partly_between exempt wanted Gone es old new s plan how told h

-- a print
pub print_stage : (exempt : List Exempt) (bytes : List ℕ) → Stage exempt (Print bytes ∷ [])
print_stage exempt bytes = planned_stage exempt (λ p. None) (λ d. ⊥) (Print bytes ∷ []) (tt, tt) (inl (tt, tt))

-- no folder is to go
abbrev NoneGone : Text → Type 0
NoneGone d = ⊥

-- an opening sync: each file is to hold its bytes, and others are to go
module _ (d : Text) (all : List File) where
  abbrev held_by : Place → Option (List ℕ)
  held_by p = bytes_in all p.1

  abbrev Opens : List Effect → Type 0
  Opens es = AllPlanned held_by NoneGone es

  written_planned : (fs : List File) → AreViewFiles fs → ((name : Text) → is_named fs name ≡ true → bytes_in all name ≡ bytes_in fs name) → Opens (written d fs)
  written_planned [] apart found = tt
  written_planned (f ∷ fs) apart found = ((at_first ∙ first_found, λ g none. absurd none), written_planned fs apart.2 later)
    where
      first_named : is_named (f ∷ fs) f.name ≡ true
      first_named = ap (λ b. b || is_named fs f.name) (equal_itself text_order f.name)

      at_first : bytes_in all f.name ≡ bytes_in (f ∷ fs) f.name
      at_first = found f.name first_named

      first_found : bytes_in (f ∷ fs) f.name ≡ Some f.bytes
      first_found = ap (λ b. cond b (Some f.bytes) (bytes_in fs f.name)) (equal_itself text_order f.name)

      another : (name : Text) → is_named fs name ≡ true → text_eq name f.name ≡ false
      another name named = false_from_ne_true _ (λ same. true≢false (sym named ∙ ap (is_named fs) (same_text name f.name same) ∙ apart.1))

      later : (name : Text) → is_named fs name ≡ true → bytes_in all name ≡ bytes_in fs name
      later name named = found name (or_right (text_eq name f.name) (is_named fs name) named) ∙ ap (λ b. cond b (Some f.bytes) (bytes_in fs name)) (another name named)

  removed_planned : (names : List Text) → Opens (removed d (other_names all names))
  removed_planned [] = tt
  removed_planned (n ∷ ns) = by_test (is_csv_name n && not (is_named all n)) refl (removed_planned ns)
    where
      unnamed : (b : Bool) → not b ≡ true → b ≡ false
      unnamed true h = absurd (cc h)
      unnamed false h = refl

      by_test : (b : Bool) → (is_csv_name n && not (is_named all n)) ≡ b → Opens (removed d (other_names all ns)) → Opens (map (Remove d) (cond b (n ∷ other_names all ns) (other_names all ns)))
      by_test true e rest = (none_named all n (unnamed (is_named all n) (and_parts (is_csv_name n) (not (is_named all n)) e).1), rest)
      by_test false e rest = rest

  pub opening_stage : (names : List Text) → AreViewFiles all → Stage (CsvFiles d ∷ []) (opening_effects d all names)
  opening_stage names apart =
      planned_stage (CsvFiles d ∷ []) held_by NoneGone (opening_effects d all names)
      (both_planned held_by NoneGone (opening_sync d all names) _
      (both_planned held_by NoneGone (written d all) (removed d (other_names all names)) (written_planned all apart (λ name named. refl)) (removed_planned names)) (tt, tt))
      (inl (opening_within d all names apart))

-- a later sync: the files of a view's labels are to hold their tables
module _ (x : Text) (shape : Shape) (ts : TablesValue) where
  abbrev table_at : Place → Option (List ℕ)
  table_at p = option_map (table_text shape) (table_of ts (label_of p.1))

  table_found : (l : Text) → table_at (view_folder x, file_name l) ≡ option_map (table_text shape) (table_of ts l)
  table_found l = ap (λ (k : Text). option_map (table_text shape) (table_of ts k)) (label_of_file l)

  module _ (wanted : Place → Option (List ℕ)) (Gone : Text → Type 0) (here : (name : Text) → wanted (view_folder x, name) ≡ table_at (view_folder x, name)) (stands : Stands wanted Gone (view_folder x)) where
    label_planned : (l : Text) → Planned wanted Gone (label_synced (view_folder x) shape ts l)
    label_planned l = by_table (table_of ts l) refl
      where
        by_table : (o : _) → table_of ts l ≡ o → Planned wanted Gone (option_map_or (λ t. Write (view_folder x) (file_name l) (table_text shape t)) o (Remove (view_folder x) (file_name l)))
        by_table None e = here (file_name l) ∙ table_found l ∙ ap (option_map (table_text shape)) e
        by_table (Some t) e = (here (file_name l) ∙ table_found l ∙ ap (option_map (table_text shape)) e, stands)

    labels_planned : (ls : List Text) → AllPlanned wanted Gone (map (label_synced (view_folder x) shape ts) ls)
    labels_planned [] = tt
    labels_planned (l ∷ ls) = (label_planned l, labels_planned ls)

    later_planned : (ls : List Text) → AllPlanned wanted Gone (later_sync (view_folder x) shape ts ls)
    later_planned ls = labels_planned (tables_first ts ls)

    edit_planned : (l : Text) → PlannedEdit wanted Gone (label_edit (view_folder x) shape ts l)
    edit_planned l = by_table (table_of ts l) refl
      where
        by_table : (o : _) → table_of ts l ≡ o → PlannedEdit wanted Gone (option_map_or (λ t. edit.Write (view_folder x) (file_name l) (table_text shape t)) o (edit.Remove (view_folder x) (file_name l)))
        by_table None e = here (file_name l) ∙ table_found l ∙ ap (option_map (table_text shape)) e
        by_table (Some t) e = (here (file_name l) ∙ table_found l ∙ ap (option_map (table_text shape)) e, stands)

    edits_planned : (ls : List Text) → AllByRecursion (PlannedEdit wanted Gone) (map (label_edit (view_folder x) shape ts) ls)
    edits_planned [] = tt
    edits_planned (l ∷ ls) = (edit_planned l, edits_planned ls)

  -- at once, with the line that is printed behind it
  pub replaced_stage : (ls : List Text) (bytes : List ℕ) → Stage [] (Replace (later_edits (view_folder x) shape ts ls) ∷ Print bytes ∷ [])
  replaced_stage ls bytes =
      planned_stage [] table_at NoneGone (Replace (later_edits (view_folder x) shape ts ls) ∷ Print bytes ∷ [])
      (edits_planned table_at NoneGone (λ name. refl) (λ d none. absurd none) (tables_first ts ls), (tt, tt))
      (inr (record { first = []; edits = later_edits (view_folder x) shape ts ls; last = Print bytes ∷ []; are = refl; before = tt; behind = (tt, tt) }))

-- the first byte of a view's folder is none of a source's
abbrev first_byte : List ℕ → ℕ
first_byte [] = 0
first_byte (b ∷ bs) = b

apart_folders : (db rest x : Text) → view_folder x ≡ database_folder db ++ rest → ⊥
apart_folders db rest x e = let bytes : 118 ≡ 115 = ap first_byte e in absurd (omega (arith, bytes))

-- a sync of an opened view: the sources that were named are to hold what the catalogue has, the folders of databases that it has not are to go, and the view's files are to hold its tables
module _ (o : OpenValue) (sound : IsSound o.session.catalogue) where
  abbrev c : CatalogueValue
  c = o.session.catalogue

  abbrev x : Text
  x = o.session.query.view_db

  abbrev relation_at : Place → Option (List ℕ)
  relation_at p = option_map (λ (r : RelationValue). csv_text (relation_records r)) (relation_of c (drop 8 p.0) (label_of p.1))

  abbrev meant : Place → Option (List ℕ)
  meant p = cond (text_eq p.0 (view_folder x)) (table_at x (shape_of o.session.query) (tables_of o.session) p) (relation_at p)

  abbrev Leaving : Text → Type 0
  Leaving d = (db : Text) × (d ≡ database_folder db) × (is_there c db ≡ false)

  abbrev Syncs : List Effect → Type 0
  Syncs es = AllPlanned meant Leaving es

  abbrev Saves : List Edit → Type 0
  Saves es = AllByRecursion (PlannedEdit meant Leaving) es

  -- what stands
  view_stands : Stands meant Leaving (view_folder x)
  view_stands d leaving =
      no_path d (view_folder x)
      (λ e. apart_folders leaving.0 [] x (sym e ∙ leaving.1 ∙ sym (append-nil (database_folder leaving.0))))
      (λ rest e. apart_folders leaving.0 (47 ∷ rest) x (e ∙ ap (λ (f : Text). f ++ 47 ∷ rest) leaving.1))

  there_stands : (db : Text) → is_there c db ≡ true → Stands meant Leaving (database_folder db)
  there_stands db there d leaving =
      no_path d (database_folder db)
      (λ e. false≢true (sym leaving.2 ∙ ap (is_there c) (append_cancel_left (codes "sources/") leaving.0 db (sym leaving.1 ∙ e)) ∙ there))
      (λ rest e.
      not_slashed db leaving.0 rest (legal_there c db sound there)
      (append_cancel_left (codes "sources/") db (leaving.0 ++ 47 ∷ rest) (e ∙ ap (λ (f : Text). f ++ 47 ∷ rest) leaving.1 ∙ append_assoc (codes "sources/") leaving.0 (47 ∷ rest))))

  -- the sources
  source_apart : (db : Text) → text_eq (database_folder db) (view_folder x) ≡ false
  source_apart db = refl

  relation_meant : (p : Pair) → meant (database_folder p.db, relation_file p.rel) ≡ option_map (λ (r : RelationValue). csv_text (relation_records r)) (relation_of c p.db p.rel)
  relation_meant p =
      ap (λ b. cond b (table_at x (shape_of o.session.query) (tables_of o.session) (database_folder p.db, relation_file p.rel)) (relation_at (database_folder p.db, relation_file p.rel))) (source_apart p.db)
      ∙ ap (λ (k : Text). option_map (λ (r : RelationValue). csv_text (relation_records r)) (relation_of c p.db k)) (label_of_file p.rel)

  some_database : (d : Option DatabaseValue) (rel : Text) (r : RelationValue) → option_and_then (relation_in rel) d ≡ Some r → is_some d ≡ true
  some_database None rel r e = absurd (cc e)
  some_database (Some d) rel r e = refl

  pair_planned : (p : Pair) → PlannedEdit meant Leaving (pair_saved c p)
  pair_planned p = by_relation (relation_of c p.db p.rel) refl
    where
      by_relation : (r : Option RelationValue) → relation_of c p.db p.rel ≡ r → PlannedEdit meant Leaving (option_map_or (λ (r : RelationValue). edit.Write (database_folder p.db) (relation_file p.rel) (csv_text (relation_records r))) r (edit.Remove (database_folder p.db) (relation_file p.rel)))
      by_relation None e = relation_meant p ∙ ap (option_map (λ (r : RelationValue). csv_text (relation_records r))) e
      by_relation (Some r) e = (relation_meant p ∙ ap (option_map (λ (r : RelationValue). csv_text (relation_records r))) e, there_stands p.db (some_database (database_of c p.db) p.rel r e))

  pairs_planned : (ps : List Pair) → Saves (pairs_saved c ps)
  pairs_planned [] = tt
  pairs_planned (p ∷ ps) = (pair_planned p, pairs_planned ps)

  made_planned : (dbs : List Text) → Saves (folders_made (those_there c dbs))
  made_planned [] = tt
  made_planned (db ∷ dbs) = by_test (is_there c db) refl (made_planned dbs)
    where
      by_test : (b : Bool) → is_there c db ≡ b → Saves (folders_made (those_there c dbs)) → Saves (folders_made (cond b (db ∷ those_there c dbs) (those_there c dbs)))
      by_test true e rest = (there_stands db e, rest)
      by_test false e rest = rest

  gone_planned : (dbs : List Text) → Saves (folders_removed (those_gone c dbs))
  gone_planned [] = tt
  gone_planned (db ∷ dbs) = by_test (is_there c db) refl (gone_planned dbs)
    where
      by_test : (b : Bool) → is_there c db ≡ b → Saves (folders_removed (those_gone c dbs)) → Saves (folders_removed (cond (not b) (db ∷ those_gone c dbs) (those_gone c dbs)))
      by_test true e rest = rest
      by_test false e rest = ((db, refl, e), rest)

  both_saves : (es fs : List Edit) → Saves es → Saves fs → Saves (es ++ fs)
  both_saves [] fs h k = k
  both_saves (e ∷ es) fs h k = (h.0, both_saves es fs h.1 k)

  saving_planned : Syncs (saving o.session)
  saving_planned =
      let dbs : List Text = o.session.changed.databases in
      let ps : List Pair = o.session.changed.relations in (
        both_saves (folders_made (those_there c dbs) ++ pairs_saved c ps) (folders_removed (those_gone c dbs))
            (both_saves (folders_made (those_there c dbs)) (pairs_saved c ps) (made_planned dbs) (pairs_planned ps)) (gone_planned dbs),
        tt,
      )

  -- and then the view's files
  view_meant : (name : Text) → meant (view_folder x, name) ≡ table_at x (shape_of o.session.query) (tables_of o.session) (view_folder x, name)
  view_meant name = ap (λ b. cond b (table_at x (shape_of o.session.query) (tables_of o.session) (view_folder x, name)) (relation_at (view_folder x, name))) (equal_itself text_order (view_folder x))

  view_planned : Syncs (view_effects o)
  view_planned =
      both_planned meant Leaving (later_sync (view_folder x) (shape_of o.session.query) (tables_of o.session) o.session.changed.labels) _
      (later_planned x (shape_of o.session.query) (tables_of o.session) meant Leaving view_meant view_stands o.session.changed.labels) (tt, tt)

  sync_planned : Syncs (sync_effects o)
  sync_planned = both_planned meant Leaving (saving o.session) (view_effects o) saving_planned view_planned

  -- they change the `.csv` files of the view's folder, and the sources at once
  view_within : AllWithin (CsvFiles (view_folder x) ∷ []) (view_effects o)
  view_within =
      both_within (CsvFiles (view_folder x) ∷ []) (later_sync (view_folder x) (shape_of o.session.query) (tables_of o.session) o.session.changed.labels) _
      (later_within (view_folder x) [] (shape_of o.session.query) (tables_of o.session) o.session.changed.labels) (tt, tt)

  -- behind effects that only print
  pub sync_stage : (es : List Effect) → ((wanted : Place → Option (List ℕ)) (Gone : Text → Type 0) → AllPlanned wanted Gone es) → AllWithin (CsvFiles (view_folder x) ∷ []) es → Stage (CsvFiles (view_folder x) ∷ []) (es ++ sync_effects o)
  sync_stage es printed within =
      planned_stage (CsvFiles (view_folder x) ∷ []) meant Leaving (es ++ sync_effects o) (both_planned meant Leaving es (sync_effects o) (printed meant Leaving) sync_planned)
      (inr (record {
        first = es;
        edits = saved c o.session.changed.databases o.session.changed.relations;
        last = view_effects o;
        are = refl;
        before = within;
        behind = view_within;
      }))
