-- The effects of an opening and of a sync are on what is exempt.
use Rattle.std.proofs.Common.{◌≡◌, Bool, true, false, ◌&&◌, ◌||◌, not, cond, map, List, [], ◌∷◌, ◌++◌, None, Some, refl, ap, ◌∙◌, subst}
use Rattle.std.specs.Option.{option_map_or}
use Rattle.std.specs.List.{list_any, AllByRecursion}
use Rattle.std.specs.Ordering.{eq_by_cmp, is_eq}
use Rattle.std.proofs.lemmas.Cmp.{tied_itself}
use Rattle.std.proofs.lemmas.List.Folds.{list_any-append}
use Rattle.std.proofs.lemmas.Bool.{and_parts, or_right}
use Rattle.ss_text.specs.Texts.{Text, is_in}
use Rattle.ss_text.proofs.KeyLemmas.{text_order, equal_itself}
use Rattle.outside.specs.Tree.{Tree, place_cmp, folder_path, files_of}
use Rattle.outside.proofs.PlaceLemmas.{place_total}
use Rattle.outside.specs.declared.edit.Edit.{Edit}
use Rattle.outside.specs.declared.edit.Edit.TheVariants as edit
use Rattle.outside.specs.Effects.{Effect, Write, Remove, Replace}
use Rattle.schema_model.specs.declared.pair.Pair.{Pair}
use Rattle.schema_model.specs.Catalogue.{RelationValue, CatalogueValue, relation_of}
use Rattle.csv_catalog.specs.Loaded.{database_folder}
use Rattle.csv_catalog.specs.RecordText.{csv_text, relation_records}
use Rattle.csv_catalog.specs.Saved.{relation_file, is_there, those_there, those_gone, folders_made, folders_removed, pair_saved, pairs_saved, saved}
use Rattle.csv_catalog.specs.SavedTree.{place_of}
use Rattle.source_law.specs.Synced.{Synced, synced, saving}
use Rattle.view_def.specs.Query.{Query}
use Rattle.flow_law.specs.declared.shape.Shape.{Shape}
use Rattle.flow_law.specs.Tables.{TablesValue, table_of}
use Rattle.view_meaning.specs.Meaning.{shape_of}
use Rattle.view_folder.specs.declared.file.File.{File}
use Rattle.view_folder.specs.Files.{view_folder, is_csv_name, is_named, other_names, file_name, AreViewFiles}
use Rattle.view_folder.specs.TableFiles.{table_text}
use Rattle.view_folder.specs.Sync.{written, removed, opening_sync, tables_first, label_synced, later_sync, label_edit, later_edits}
use Rattle.view_folder.proofs.LaterLemmas.{file_name_csv}
use Rattle.view_session.specs.Session.{SessionState, tables_of}
use Rattle.view_stages.specs.Open.{OpenValue}
use Rattle.view_stages.specs.Places.{Exempt, CsvFiles, RelationFile, DatabaseFolder, is_exempt, is_exempt_folder, sources_of}
use Rattle.view_stages.specs.Stages.{Accepted, files_of_view}
use Rattle.view_stages.specs.Opening.{opening_effects}
use Rattle.view_stages.specs.Syncs.{view_effects, sync_effects}
use Rattle.view_stages.specs.Opened.{folder_of}
use Rattle.view_stages.proofs.PlaceLemmas.{on_path, WithinEdit, Within, AllWithin}
use Rattle.view_stages.proofs.StageLemmas.{are_view_files}

module _ (exempt : List Exempt) where
  pub both_within : (es fs : List Effect) → AllWithin exempt es → AllWithin exempt fs → AllWithin exempt (es ++ fs)
  both_within [] fs h i = i
  both_within (e ∷ es) fs h i = (h.0, both_within es fs h.1 i)

-- what is exempt by one of two lists is by both
exempt_left : {A : Type 0} (f : A → Bool) (xs ys : List A) → list_any f xs ≡ true → list_any f (xs ++ ys) ≡ true
exempt_left f xs ys h = list_any-append f xs ys ∙ ap (λ b. b || list_any f ys) h ∙ refl

exempt_right : {A : Type 0} (f : A → Bool) (xs ys : List A) → list_any f ys ≡ true → list_any f (xs ++ ys) ≡ true
exempt_right f xs ys h = list_any-append f xs ys ∙ or_right (list_any f xs) (list_any f ys) h

-- the `.csv` files of a view's folder, before what else is exempt
module _ (d : Text) (more : List Exempt) where
  abbrev Here : List Effect → Type 0
  Here es = AllWithin (CsvFiles d ∷ more) es

  csv_exempt : (name : Text) → is_csv_name name ≡ true → list_any (is_exempt (d, name)) (CsvFiles d ∷ more) ≡ true
  csv_exempt name h = ap (λ b. (b && is_csv_name name) || list_any (is_exempt (d, name)) more) (equal_itself text_order d) ∙ ap (λ b. b || list_any (is_exempt (d, name)) more) h

  path_exempt : (x : Text) → is_in x (folder_path d) ≡ true → list_any (is_exempt_folder x) (CsvFiles d ∷ more) ≡ true
  path_exempt x h = ap (λ b. b || list_any (is_exempt_folder x) more) h

  written_within : (fs : List File) → AreViewFiles fs → Here (written d fs)
  written_within [] h = tt
  written_within (f ∷ fs) h = ((csv_exempt f.name h.0, path_exempt), written_within fs h.2)

  removed_within : (fs : List File) (names : List Text) → Here (removed d (other_names fs names))
  removed_within fs [] = tt
  removed_within fs (n ∷ ns) = by_test (is_csv_name n && not (is_named fs n)) refl (removed_within fs ns)
    where
      by_test : (b : Bool) → (is_csv_name n && not (is_named fs n)) ≡ b → Here (removed d (other_names fs ns)) → Here (map (Remove d) (cond b (n ∷ other_names fs ns) (other_names fs ns)))
      by_test true e rest = (csv_exempt n (and_parts (is_csv_name n) (not (is_named fs n)) e).0, rest)
      by_test false e rest = rest

  pub all_opening_within : (fs : List File) (names : List Text) → AreViewFiles fs → Here (opening_effects d fs names)
  all_opening_within fs names h =
      both_within (CsvFiles d ∷ more) (opening_sync d fs names) _ (both_within (CsvFiles d ∷ more) (written d fs) (removed d (other_names fs names)) (written_within fs h) (removed_within fs names)) (tt, tt)

  label_within : (shape : Shape) (ts : TablesValue) (l : Text) → Within (CsvFiles d ∷ more) (label_synced d shape ts l)
  label_within shape ts l =
      elim (table_of ts l) as (λ o. Within (CsvFiles d ∷ more) (option_map_or (λ t. Write d (file_name l) (table_text shape t)) o (Remove d (file_name l))))
      [ None ↦ csv_exempt (file_name l) (file_name_csv l) | Some t ↦ (csv_exempt (file_name l) (file_name_csv l), path_exempt) ]

  labels_within : (shape : Shape) (ts : TablesValue) (ls : List Text) → Here (map (label_synced d shape ts) ls)
  labels_within shape ts [] = tt
  labels_within shape ts (l ∷ ls) = (label_within shape ts l, labels_within shape ts ls)

  pub later_within : (shape : Shape) (ts : TablesValue) (ls : List Text) → Here (later_sync d shape ts ls)
  later_within shape ts ls = labels_within shape ts (tables_first ts ls)

  -- and the same at once
  edit_within : (shape : Shape) (ts : TablesValue) (l : Text) → WithinEdit (CsvFiles d ∷ more) (label_edit d shape ts l)
  edit_within shape ts l =
      elim (table_of ts l) as (λ o. WithinEdit (CsvFiles d ∷ more) (option_map_or (λ t. edit.Write d (file_name l) (table_text shape t)) o (edit.Remove d (file_name l))))
      [ None ↦ csv_exempt (file_name l) (file_name_csv l) | Some t ↦ (csv_exempt (file_name l) (file_name_csv l), path_exempt) ]

  edits_within : (shape : Shape) (ts : TablesValue) (ls : List Text) → AllByRecursion (WithinEdit (CsvFiles d ∷ more)) (map (label_edit d shape ts) ls)
  edits_within shape ts [] = tt
  edits_within shape ts (l ∷ ls) = (edit_within shape ts l, edits_within shape ts ls)

  pub replaced_within : (shape : Shape) (ts : TablesValue) (ls : List Text) → Within (CsvFiles d ∷ more) (Replace (later_edits d shape ts ls))
  replaced_within shape ts ls = edits_within shape ts (tables_first ts ls)

pub opening_within : (d : Text) (fs : List File) (names : List Text) → AreViewFiles fs → AllWithin (CsvFiles d ∷ []) (opening_effects d fs names)
opening_within d fs names h = all_opening_within d [] fs names h

-- edits on what is exempt alone
abbrev AllEdits : List Exempt → List Edit → Type 0
AllEdits exempt es = AllByRecursion (WithinEdit exempt) es

both_edits : (exempt : List Exempt) (es fs : List Edit) → AllEdits exempt es → AllEdits exempt fs → AllEdits exempt (es ++ fs)
both_edits exempt [] fs h i = i
both_edits exempt (e ∷ es) fs h i = (h.0, both_edits exempt es fs h.1 i)

-- relations and databases that are among those of a sync
pub record Covers (s : Synced) (pairs : List Pair) (dbs : List Text) : Type 0 where
  pub relations : (f : Pair → Bool) → list_any f pairs ≡ true → list_any f s.relations ≡ true
  pub databases : (f : Text → Bool) → list_any f dbs ≡ true → list_any f s.databases ≡ true

any_mapped : {A B : Type 0} (f : B → Bool) (g : A → B) (xs : List A) → list_any f (map g xs) ≡ list_any (λ x. f (g x)) xs
any_mapped f g [] = refl
any_mapped f g (x ∷ xs) = ap (λ b. f (g x) || b) (any_mapped f g xs)

module _ (first : List Exempt) (z : Synced) where
  abbrev All : List Exempt
  All = first ++ sources_of z

  relation_exempt : (test : Exempt → Bool) → list_any (λ (p : Pair). test (RelationFile p)) z.relations ≡ true → list_any test All ≡ true
  relation_exempt test h = exempt_right test first (sources_of z) (exempt_left test (map RelationFile z.relations) (map DatabaseFolder z.databases) (any_mapped test RelationFile z.relations ∙ h))

  database_exempt : (test : Exempt → Bool) → list_any (λ (db : Text). test (DatabaseFolder db)) z.databases ≡ true → list_any test All ≡ true
  database_exempt test h = exempt_right test first (sources_of z) (exempt_right test (map RelationFile z.relations) (map DatabaseFolder z.databases) (any_mapped test DatabaseFolder z.databases ∙ h))

  module _ (pairs : List Pair) (dbs : List Text) (covers : Covers z pairs dbs) where
    folder_of_pair : (p : Pair) → ((f : Pair → Bool) → f p ≡ true → list_any f pairs ≡ true) → (d : Text) → is_in d (folder_path (database_folder p.db)) ≡ true → list_any (is_exempt_folder d) All ≡ true
    folder_of_pair p among d h = relation_exempt (is_exempt_folder d) (covers.relations (λ (q : Pair). is_in d (folder_path (database_folder q.db))) (among (λ (q : Pair). is_in d (folder_path (database_folder q.db))) h))

    file_of_pair : (p : Pair) → ((f : Pair → Bool) → f p ≡ true → list_any f pairs ≡ true) → list_any (is_exempt (database_folder p.db, relation_file p.rel)) All ≡ true
    file_of_pair p among =
        relation_exempt (is_exempt (place_of p)) (covers.relations (λ (q : Pair). eq_by_cmp place_cmp (place_of p) (place_of q)) (among (λ (q : Pair). eq_by_cmp place_cmp (place_of p) (place_of q)) (ap is_eq (tied_itself place_total (place_of p)))))

    folder_of_database : (db : Text) → ((f : Text → Bool) → f db ≡ true → list_any f dbs ≡ true) → (d : Text) → is_in d (folder_path (database_folder db)) ≡ true → list_any (is_exempt_folder d) All ≡ true
    folder_of_database db among d h = database_exempt (is_exempt_folder d) (covers.databases (λ (x : Text). is_in d (folder_path (database_folder x))) (among (λ (x : Text). is_in d (folder_path (database_folder x))) h))

    module _ (c : CatalogueValue) where
      pair_within : (p : Pair) → ((f : Pair → Bool) → f p ≡ true → list_any f pairs ≡ true) → WithinEdit All (pair_saved c p)
      pair_within p among =
          elim (relation_of c p.db p.rel) as (λ o. WithinEdit All (option_map_or (λ (r : RelationValue). edit.Write (database_folder p.db) (relation_file p.rel) (csv_text (relation_records r))) o (edit.Remove (database_folder p.db) (relation_file p.rel))))
          [ None ↦ file_of_pair p among | Some r ↦ (file_of_pair p among, folder_of_pair p among) ]

      pairs_within : (ps : List Pair) → ((f : Pair → Bool) → list_any f ps ≡ true → list_any f pairs ≡ true) → AllEdits All (pairs_saved c ps)
      pairs_within [] among = tt
      pairs_within (p ∷ ps) among = (pair_within p (λ f h. among f (ap (λ b. b || list_any f ps) h)), pairs_within ps (λ f h. among f (or_right (f p) (list_any f ps) h)))

      made_within : (ds : List Text) → ((f : Text → Bool) → list_any f ds ≡ true → list_any f dbs ≡ true) → AllEdits All (folders_made (those_there c ds))
      made_within [] among = tt
      made_within (db ∷ ds) among = by_test (is_there c db) (made_within ds (λ f h. among f (or_right (f db) (list_any f ds) h)))
        where
          by_test : (b : Bool) → AllEdits All (folders_made (those_there c ds)) → AllEdits All (folders_made (cond b (db ∷ those_there c ds) (those_there c ds)))
          by_test true rest = (folder_of_database db (λ f h. among f (ap (λ b. b || list_any f ds) h)), rest)
          by_test false rest = rest

      gone_within : (ds : List Text) → ((f : Text → Bool) → list_any f ds ≡ true → list_any f dbs ≡ true) → AllEdits All (folders_removed (those_gone c ds))
      gone_within [] among = tt
      gone_within (db ∷ ds) among = by_test (not (is_there c db)) (gone_within ds (λ f h. among f (or_right (f db) (list_any f ds) h)))
        where
          by_test : (b : Bool) → AllEdits All (folders_removed (those_gone c ds)) → AllEdits All (folders_removed (cond b (db ∷ those_gone c ds) (those_gone c ds)))
          by_test true rest = (folder_of_database db (λ f h. among f (ap (λ b. b || list_any f ds) h)) (database_folder db) (on_path (database_folder db)), rest)
          by_test false rest = rest

      saved_within : Within All (Replace (saved c dbs pairs))
      saved_within =
          both_edits All (folders_made (those_there c dbs) ++ pairs_saved c pairs) (folders_removed (those_gone c dbs))
          (both_edits All (folders_made (those_there c dbs)) (pairs_saved c pairs) (made_within dbs (λ f h. h)) (pairs_within pairs (λ f h. h))) (gone_within dbs (λ f h. h))

-- what was saved before is among what is saved later
pub record Grows (y z : Synced) : Type 0 where
  pub relations : (f : Pair → Bool) → list_any f y.relations ≡ true → list_any f z.relations ≡ true
  pub databases : (f : Text → Bool) → list_any f y.databases ≡ true → list_any f z.databases ≡ true

pub grows_itself : (y : Synced) → Grows y y
grows_itself y = record { relations = λ f h. h; databases = λ f h. h }

pub grows_then : (x y z : Synced) → Grows x y → Grows y z → Grows x z
grows_then x y z g h = record { relations = λ f i. h.relations f (g.relations f i); databases = λ f i. h.databases f (g.databases f i) }

pub grows_synced : (n : SessionState) (y : Synced) → Grows y (synced n y)
grows_synced n y = record { relations = λ f h. exempt_left f y.relations n.changed.relations h; databases = λ f h. exempt_left f y.databases n.changed.databases h }

covers_synced : (n : SessionState) (y z : Synced) → Grows (synced n y) z → Covers z n.changed.relations n.changed.databases
covers_synced n y z g = record {
  relations = λ f h. g.relations f (exempt_right f y.relations n.changed.relations h);
  databases = λ f h. g.databases f (exempt_right f y.databases n.changed.databases h);
}

-- the effects of an open view
module _ (q : Query) (z : Synced) where
  abbrev d : Text
  d = view_folder q.view_db

  abbrev Of : List Effect → Type 0
  Of es = AllWithin (CsvFiles d ∷ sources_of z) es

  pub sync_within : (o : OpenValue) (y : Synced) → o.session.query ≡ q → Grows (synced o.session y) z → Of (sync_effects o)
  sync_within o y is g =
      both_within (CsvFiles d ∷ sources_of z) (saving o.session) (view_effects o)
      (saved_within (CsvFiles d ∷ []) z o.session.changed.relations o.session.changed.databases (covers_synced o.session y z g) o.session.catalogue, tt)
      (subst (λ (x : Query). AllWithin (CsvFiles (view_folder x.view_db) ∷ sources_of z) (view_effects o)) is
      (both_within (CsvFiles (view_folder o.session.query.view_db) ∷ sources_of z) (later_sync (view_folder o.session.query.view_db) (shape_of o.session.query) (tables_of o.session) o.session.changed.labels) _
      (later_within (view_folder o.session.query.view_db) (sources_of z) (shape_of o.session.query) (tables_of o.session) o.session.changed.labels) (tt, tt)))

-- those of each command
module _ (t : Tree) (a : Accepted) where
  pub opened_within : (c : CatalogueValue) (more : List Exempt) → AllWithin (CsvFiles (folder_of a) ∷ more) (opening_effects (folder_of a) (files_of_view c a.query) (files_of t (folder_of a)))
  opened_within c more = all_opening_within (folder_of a) more (files_of_view c a.query) (files_of t (folder_of a)) (are_view_files c a.query)
