-- A catalogue that was loaded is sound, and each of its relations is that of its file.
use Rattle.std.proofs.Common.{◌≡◌, ◌≤◌, ◌+◌, ◌∷◌, ◌∙◌, [], ℕ, Bool, true, false, cond, ◌&&◌, List, Option, Some, None, is_some, refl, sym, ap, subst, suc, length, map, arith}
use Rattle.std.specs.Prelude.{nat_lt, option_map, Result, Ok, Err, sum_by}
use Rattle.std.specs.List.{AllByRecursion, list_all, cons_option}
use Rattle.std.proofs.lemmas.Bool.{and_parts, true≢false}
use Rattle.std.proofs.lemmas.Bool.Decides.{nat_tests}
use Rattle.std.proofs.lemmas.List.{length-map}
use Rattle.std.proofs.lemmas.List.Sums.{sum_by-cons}
use Rattle.ss_text.specs.Texts.{Text}
use Rattle.ss_text.specs.Label.{is_table_label}
use Rattle.ss_text.specs.Ascending.{ascending}
use Rattle.outside.specs.Tree.{Tree, file_at, has_folder}
use Rattle.outside.specs.Whole.{IsWhole}
use Rattle.schema_model.specs.Catalogue.{RelationValue, CatalogueValue, relation_value, relation_name, database_names, database_of, relation_of, rows_in, row_count}
use Rattle.schema_model.specs.Sound.{AreNames, IsRelation, IsDatabase, IsSound}
use Rattle.schema_model.specs.declared.Which.TheVariants.{Databases, Relations}
use Rattle.csv_catalog.specs.declared.fault.LoadFault.{LoadFault}
use Rattle.csv_catalog.specs.declared.fault.LoadFault.TheVariants as load
use Rattle.csv_catalog.specs.FileFaults.{file_fault, rows_of, header_of, told_fault}
use Rattle.csv_catalog.specs.Loaded.{database_folder, label_of, is_relation_file, databases_in, files_in, files_read, database_files, relation_of as relation_of_file, by_name, database_in, catalogue_in, files_fault, database_fault, databases_fault, first_refusal, unless_refused, loaded, sources_folder}
use Rattle.csv_catalog.specs.Records.{records_of}
use Rattle.csv_catalog.specs.Saved.{relation_file, is_there}
use Rattle.csv_catalog.proofs.AllRecords.{records_have_fields}
use Rattle.csv_catalog.proofs.FaultLemmas.{sound_relation}
use Rattle.csv_catalog.proofs.LoadLemmas.{names_legal}
use Rattle.csv_catalog.proofs.JudgedLemmas.{both_none}
use Rattle.view_folder.proofs.FormLemmas.{none_mapped}
use Rattle.source_law.proofs.NamedLemmas.{ascending_by_name, length_ascending, sum_ascending, all_ascending}
use Rattle.source_law.proofs.TreeLemmas.{folders_ascend}
use Rattle.source_law.proofs.FileLemmas.{read_at, read_all, file_legal, files_legal, database_differ, found_relation, found_database}
use Rattle.schema_model.specs.Limits.{most_rows, most_databases, most_relations}

-- what is loaded
refused_not : (r : Option LoadFault) (x c : CatalogueValue) → unless_refused r x ≡ Ok c → (r ≡ None) × (x ≡ c)
refused_not None x c e = (refl, same (Ok x) (Ok c) e)
  where
    value_of : Result CatalogueValue LoadFault → CatalogueValue
    value_of (Ok y) = y
    value_of (Err f) = x

    same : (a b : Result CatalogueValue LoadFault) → a ≡ b → value_of a ≡ value_of b
    same a b e = ap value_of e
refused_not (Some f) x c e = absurd (cc e)

pub loaded_parts : (t : Tree) (c : CatalogueValue) → loaded t ≡ Ok c → (first_refusal t ≡ None) × (catalogue_in t ≡ c)
unfolding loaded
loaded_parts t c h = refused_not (first_refusal t) (catalogue_in t) c h

some_where : {A : Type 0} (a b : Bool) (x : A) → a ≡ true → is_some (cond (a && b) (Some x) None) ≡ b
some_where true true x e = refl
some_where true false x e = refl
some_where false b x e = absurd (cc)

pub there_loaded : (t : Tree) (c : CatalogueValue) (db : Text) → loaded t ≡ Ok c → is_table_label db ≡ true → is_there c db ≡ has_folder t (database_folder db)
there_loaded t c db h legal =
    ap (λ (x : CatalogueValue). is_there x db) (sym (loaded_parts t c h).1)
    ∙ ap is_some (found_database t db)
    ∙ some_where (is_table_label db) (has_folder t (database_folder db)) (database_in t db) legal

-- no file lies in a folder that is missing
no_file : (t : Tree) (folder rel : Text) → IsWhole t → has_folder t folder ≡ false → read_at t folder rel ≡ None
no_file t folder rel whole gone = by_file (file_at t folder (relation_file rel)) refl
  where
    by_file : (o : Option (List ℕ)) → file_at t folder (relation_file rel) ≡ o → option_map (λ (bytes : List ℕ). relation_value rel (header_of (records_of bytes)) (rows_of (records_of bytes))) o ≡ None
    by_file None e = refl
    by_file (Some bytes) e = absurd (true≢false (sym (whole.folder_of (folder, relation_file rel) (ap is_some e)) ∙ gone))

pub relation_loaded : (t : Tree) (c : CatalogueValue) (db rel : Text) → loaded t ≡ Ok c → IsWhole t → is_table_label db ≡ true → is_table_label rel ≡ true → relation_of c db rel ≡ read_at t (database_folder db) rel
relation_loaded t c db rel h whole legal_db legal =
    ap (λ (x : CatalogueValue). relation_of x db rel) (sym (loaded_parts t c h).1) ∙ by_folder (has_folder t (database_folder db)) refl
  where
    by_folder : (b : Bool) → has_folder t (database_folder db) ≡ b → relation_of (catalogue_in t) db rel ≡ read_at t (database_folder db) rel
    by_folder true e =
        let found : database_of (catalogue_in t) db ≡ Some (database_in t db) = found_database t db ∙ rw (legal_db, e) refl in
        rw found (found_relation t db rel ∙ rw legal refl)
    by_folder false e =
        let found : database_of (catalogue_in t) db ≡ None = found_database t db ∙ rw (legal_db, e) refl in
        rw found (sym (no_file t (database_folder db) rel whole e))

-- it is sound: the relations of files without a fault

plus_none : (n : ℕ) → n ≤ most_rows → n + 0 ≤ most_rows
plus_none n h = omega arith

grouped : (a b c d : ℕ) → d ≡ b + c → a + b + c ≤ most_rows → a + d ≤ most_rows
grouped a b c d e h = omega (arith, e, h)

module _ (t : Tree) (db folder : Text) where
  files_sound : (count : ℕ) (files : List Text) → count ≤ most_rows → files_fault db count (files_read t folder files) ≡ None
      → AllByRecursion IsRelation (read_all t folder files) × (count + sum_by (λ (r : RelationValue). length r.rows) (read_all t folder files) ≤ most_rows)
  unfolding files_fault
  files_sound count [] few none = (tt, plus_none count few)
  files_sound count (f ∷ fs) few none = by_file (file_at t folder f) none (λ n le e. files_sound n fs le e)
    where
      by_file : (o : Option (List ℕ)) → files_fault db count (cons_option (option_map (λ (bytes : List ℕ). (f, records_of bytes)) o) (files_read t folder fs)) ≡ None
          → ((n : ℕ) → n ≤ most_rows → files_fault db n (files_read t folder fs) ≡ None → AllByRecursion IsRelation (read_all t folder fs) × (n + sum_by (λ (r : RelationValue). length r.rows) (read_all t folder fs) ≤ most_rows))
          → AllByRecursion IsRelation (map relation_of_file (cons_option (option_map (λ (bytes : List ℕ). (f, records_of bytes)) o) (files_read t folder fs)))
          × (count + sum_by (λ (r : RelationValue). length r.rows) (map relation_of_file (cons_option (option_map (λ (bytes : List ℕ). (f, records_of bytes)) o) (files_read t folder fs))) ≤ most_rows)
      by_file None e rest = rest count few e
      by_file (Some bytes) e rest =
          let parts = both_none (option_map (told_fault db f) (file_fault count (records_of bytes))) (files_fault db (count + length (rows_of (records_of bytes))) (files_read t folder fs)) e in
          let one = sound_relation (label_of f) count (records_of bytes) (records_have_fields bytes) few (none_mapped (told_fault db f) (file_fault count (records_of bytes)) parts.0) in
          let more = rest (count + length (rows_of (records_of bytes))) one.1 parts.1 in
          ((one.0, more.0), grouped count (length (rows_of (records_of bytes))) _ _ (sum_by-cons (λ (r : RelationValue). length r.rows) (relation_of_file (f, records_of bytes)) (read_all t folder fs)) more.1)

  files_few : (files : List Text) → length (files_read t folder files) ≤ length files
  files_few [] = omega arith
  files_few (f ∷ fs) = by_file (file_at t folder f) (files_few fs)
    where
      by_file : (o : Option (List ℕ)) → length (files_read t folder fs) ≤ length fs → length (cons_option (option_map (λ (bytes : List ℕ). (f, records_of bytes)) o) (files_read t folder fs)) ≤ suc (length fs)
      by_file None h = omega (arith, h)
      by_file (Some bytes) h = omega (arith, h)

  names_of_files : (files : List Text) → list_all is_relation_file files ≡ true → AllByRecursion (λ (r : RelationValue). is_table_label r.name ≡ true) (read_all t folder files)
  names_of_files [] h = tt
  names_of_files (f ∷ fs) h =
      let parts = and_parts (is_relation_file f) (list_all is_relation_file fs) h in
      by_file (file_at t folder f) (file_legal f parts.0) (names_of_files fs parts.1)
    where
      by_file : (o : Option (List ℕ)) → is_table_label (label_of f) ≡ true → AllByRecursion (λ (r : RelationValue). is_table_label r.name ≡ true) (read_all t folder fs)
          → AllByRecursion (λ (r : RelationValue). is_table_label r.name ≡ true) (map relation_of_file (cons_option (option_map (λ (bytes : List ℕ). (f, records_of bytes)) o) (files_read t folder fs)))
      by_file None one rest = rest
      by_file (Some bytes) one rest = (one, rest)

all_legal : (rs : List RelationValue) → AllByRecursion (λ (r : RelationValue). is_table_label r.name ≡ true) rs → list_all is_table_label (map relation_name rs) ≡ true
all_legal [] h = refl
all_legal (r ∷ rs) h = rw (h.0, all_legal rs h.1) refl

not_above : (most n : ℕ) → nat_lt most n ≡ false → n ≤ most
not_above most n h = grind (arith, nat_tests)

no_fault : {A : Type 0} (b : Bool) (x : A) (o : Option A) → cond b (Some x) o ≡ None → (b ≡ false) × (o ≡ None)
no_fault true x o e = absurd (cc e)
no_fault false x o e = (refl, e)

at_most : (a b c : ℕ) → a ≤ b → b ≤ c → a ≤ c
at_most a b c h k = omega (arith, h, k)

module _ (t : Tree) where
  database_sound : (db : Text) (count : ℕ) → count ≤ most_rows → database_fault t db count ≡ None → IsDatabase (database_in t db) × (count + rows_in (database_in t db) ≤ most_rows)
  database_sound db count few none =
      let folder = database_folder db in
      let parts = no_fault (nat_lt most_relations (length (files_in t db))) (load.Limit Relations) (files_fault db count (database_files t db)) none in
      let sound = files_sound t db folder count (files_in t db) few parts.1 in
      let all = map relation_of_file (database_files t db) in
      let apart = database_differ t db in
      let many : length (ascending by_name all) ≡ length (database_files t db) = length_ascending relation_name all apart ∙ length-map (database_files t db) relation_of_file in
      let rows : rows_in (database_in t db) ≡ sum_by (λ (r : RelationValue). length r.rows) all = sum_ascending relation_name (λ (r : RelationValue). length r.rows) all apart in (
        record {
          names = record {
            ascend = ascending_by_name relation_name all;
            legal = all_legal (ascending by_name all) (all_ascending relation_name (λ (r : RelationValue). is_table_label r.name ≡ true) all (names_of_files t db folder (files_in t db) (files_legal t db)));
          };
          few = omega (arith, many, files_few t db folder (files_in t db), not_above most_relations (length (files_in t db)) parts.0);
          relations = all_ascending relation_name IsRelation all sound.0;
        },
        omega (arith, rows, sound.1),
      )

  databases_sound : (count : ℕ) (dbs : List Text) → count ≤ most_rows → databases_fault t count dbs ≡ None → AllByRecursion IsDatabase (map (database_in t) dbs) × (count + row_count (map (database_in t) dbs) ≤ most_rows)
  unfolding databases_fault
  databases_sound count [] few none = (tt, plus_none count few)
  databases_sound count (db ∷ dbs) few none =
      let parts = both_none (database_fault t db count) (databases_fault t (count + rows_in (database_in t db)) dbs) none in
      let one = database_sound db count few parts.0 in
      let more = databases_sound (count + rows_in (database_in t db)) dbs one.1 parts.1 in
      ((one.0, more.0), grouped count (rows_in (database_in t db)) _ _ (sum_by-cons rows_in (database_in t db) (map (database_in t) dbs)) more.1)

  pub names_of : (dbs : List Text) → database_names (map (database_in t) dbs) ≡ dbs
  names_of [] = refl
  names_of (db ∷ dbs) = ap (λ ds. db ∷ ds) (names_of dbs)

  pub sound_loaded : (c : CatalogueValue) → loaded t ≡ Ok c → IsSound c
  sound_loaded c h =
      let parts = loaded_parts t c h in
      let fine = no_fault (nat_lt most_databases (length (databases_in t))) (load.Limit Databases) (databases_fault t 0 (databases_in t)) parts.0 in
      let sound = databases_sound 0 (databases_in t) (omega arith) fine.1 in
      subst IsSound parts.1 (record {
        names = subst AreNames (sym (names_of (databases_in t))) (names_legal _ (folders_ascend t sources_folder));
        few = omega (arith, length-map (databases_in t) (database_in t), not_above most_databases (length (databases_in t)) fine.0);
        databases = sound.0;
        rows = omega (arith, sound.1);
      })
