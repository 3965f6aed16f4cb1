-- What is read of the files of a database, relation by relation.
use Rattle.std.proofs.Common.{◌≡◌, ◌-◌, ◌∷◌, ◌++◌, ◌∙◌, [], ℕ, Bool, true, false, cond, ◌&&◌, ◌||◌, List, Option, Some, None, is_some, refl, sym, ap, length, map, take, drop, arith, length-append}
use Rattle.std.specs.Prelude.{codes, option_map, bytes_eq}
use Rattle.std.specs.List.{AllByRecursion, list_all, cons_option}
use Rattle.std.specs.List.Sorted.{IsStrictlySortedBy}
use Rattle.std.specs.declared.cmp.Ordering.TheVariants.{Less}
use Rattle.std.proofs.lemmas.Bool.{and_parts}
use Rattle.std.proofs.lemmas.List.{take-append-drop}
use Rattle.std.proofs.lemmas.List.Kept.{IsStrictlySortedBy-filter}
use Rattle.ss_text.specs.Texts.{Text, text_cmp, text_eq, is_in}
use Rattle.ss_text.specs.Label.{is_table_label}
use Rattle.ss_text.proofs.KeyLemmas.{text_order, Lacks}
use Rattle.outside.specs.Tree.{Tree, file_at, files_of, subfolders_of, has_folder}
use Rattle.schema_model.specs.Catalogue.{RelationValue, relation_value, relation_name, relation_in, database_of}
use Rattle.csv_catalog.specs.FileFaults.{header_of, rows_of}
use Rattle.csv_catalog.specs.Loaded.{File, sources_folder, database_folder, label_of, is_relation_file, databases_in, files_in, files_read, database_files, relation_of, database_in, catalogue_in}
use Rattle.csv_catalog.specs.Records.{records_of}
use Rattle.csv_catalog.specs.Saved.{relation_file}
use Rattle.csv_catalog.proofs.ListLemmas.{all_pass}
use Rattle.view_folder.proofs.FolderLemmas.{there, files_ascend}
use Rattle.view_folder.proofs.LaterLemmas.{file_name_csv, same_file}
use Rattle.source_law.proofs.NamedLemmas.{same_text, apart_texts, in_kept, named, AllDiffer, named_ascending}
use Rattle.source_law.proofs.TreeLemmas.{label_part, in_sources}

-- the name of a relation's file
four_less : (rel : Text) → length (rel ++ codes ".csv") - 4 ≡ length rel
four_less rel = omega (arith, length-append rel (codes ".csv"))

taken_front : (xs ys : Text) → take (length xs) (xs ++ ys) ≡ xs
taken_front [] ys = refl
taken_front (x ∷ xs) ys = ap (λ t. x ∷ t) (taken_front xs ys)

pub label_of_file : (rel : Text) → label_of (relation_file rel) ≡ rel
label_of_file rel = ap (λ n. take n (relation_file rel)) (four_less rel) ∙ taken_front rel (codes ".csv")

pub file_test : (rel : Text) → is_relation_file (relation_file rel) ≡ is_table_label rel
file_test rel = ap (λ b. b && is_table_label (label_of (relation_file rel))) (file_name_csv rel) ∙ ap is_table_label (label_of_file rel)

pub file_parts : (file : Text) → is_relation_file file ≡ true → file ≡ relation_file (label_of file)
file_parts file h =
    let ends = (and_parts (bytes_eq (drop (length file - 4) file) (codes ".csv")) (is_table_label (label_of file)) h).0 in
    sym (take-append-drop (length file - 4) file) ∙ ap (λ (x : Text). label_of file ++ x) (same_text (drop (length file - 4) file) (codes ".csv") ends)

pub file_legal : (file : Text) → is_relation_file file ≡ true → is_table_label (label_of file) ≡ true
file_legal file h = (and_parts (bytes_eq (drop (length file - 4) file) (codes ".csv")) (is_table_label (label_of file)) h).1

-- a relation as its file gives it
abbrev pub read_at : Tree → Text → Text → Option RelationValue
read_at t folder rel = option_map (λ (bytes : List ℕ). relation_value rel (header_of (records_of bytes)) (rows_of (records_of bytes))) (file_at t folder (relation_file rel))

module _ (t : Tree) (folder : Text) where
  abbrev pub read_all : List Text → List RelationValue
  read_all files = map relation_of (files_read t folder files)

  none_either : {A : Type 0} (b : Bool) (o : Option A) → o ≡ None → cond b o None ≡ None
  none_either true o e = e
  none_either false o e = refl

  missing_read : (k f : Text) → relation_file k ≡ f → file_at t folder f ≡ None → read_at t folder k ≡ None
  missing_read k f is e = ap (option_map (λ (bytes : List ℕ). relation_value k (header_of (records_of bytes)) (rows_of (records_of bytes)))) (ap (file_at t folder) is ∙ e)

  there_read : (k f bytes : Text) → relation_file k ≡ f → k ≡ label_of f → file_at t folder f ≡ Some bytes → read_at t folder k ≡ Some (relation_of (f, records_of bytes))
  there_read k f bytes is label e =
      ap (option_map (λ (b : List ℕ). relation_value k (header_of (records_of b)) (rows_of (records_of b)))) (ap (file_at t folder) is ∙ e)
      ∙ ap (λ (l : Text). Some (relation_value l (header_of (records_of bytes)) (rows_of (records_of bytes)))) label

  one_found : (k f : Text) (files : List File) (rest : Bool) → f ≡ relation_file (label_of f) → (o : Option (List ℕ)) → file_at t folder f ≡ o
      → named relation_name k (map relation_of files) ≡ cond rest (read_at t folder k) None
      → named relation_name k (map relation_of (cons_option (option_map (λ (bytes : List ℕ). (f, records_of bytes)) o) files)) ≡ cond (text_eq (relation_file k) f || rest) (read_at t folder k) None
  one_found k f files rest is None e h = h ∙ missing (text_eq (relation_file k) f) refl
    where
      missing : (b : Bool) → text_eq (relation_file k) f ≡ b → cond rest (read_at t folder k) None ≡ cond (b || rest) (read_at t folder k) None
      missing true s =
          let none = missing_read k f (same_text (relation_file k) f s) e in
          none_either rest (read_at t folder k) none ∙ sym none
      missing false s = refl
  one_found k f files rest is (Some bytes) e h = by_name (text_eq k (label_of f)) refl
    where
      tests : text_eq (relation_file k) f ≡ text_eq k (label_of f)
      tests = ap (text_eq (relation_file k)) is ∙ same_file k (label_of f)

      by_name : (b : Bool) → text_eq k (label_of f) ≡ b → cond b (Some (relation_of (f, records_of bytes))) (named relation_name k (map relation_of files)) ≡ cond (text_eq (relation_file k) f || rest) (read_at t folder k) None
      by_name true s =
          let label = same_text k (label_of f) s in
          sym (there_read k f bytes (ap relation_file label ∙ sym is) label e) ∙ ap (λ b. cond (b || rest) (read_at t folder k) None) (sym (tests ∙ s))
      by_name false s = h ∙ ap (λ b. cond (b || rest) (read_at t folder k) None) (sym (tests ∙ s))

  pub found_file : (k : Text) (files : List Text) → list_all is_relation_file files ≡ true → named relation_name k (read_all files) ≡ cond (is_in (relation_file k) files) (read_at t folder k) None
  found_file k [] h = refl
  found_file k (f ∷ fs) h =
      let parts = and_parts (is_relation_file f) (list_all is_relation_file fs) h in
      one_found k f (files_read t folder fs) (is_in (relation_file k) fs) (file_parts f parts.0) (file_at t folder f) refl (found_file k fs parts.1)

  labels_apart : (f g : Text) → is_relation_file f ≡ true → is_relation_file g ≡ true → text_cmp f g ≡ Less → text_eq (label_of f) (label_of g) ≡ false
  labels_apart f g hf hg lt = sym (same_file (label_of f) (label_of g)) ∙ ap (λ (x : Text). text_eq x (relation_file (label_of g))) (sym (file_parts f hf)) ∙ ap (text_eq f) (sym (file_parts g hg)) ∙ apart_texts f g lt

  lacks_files : (f : Text) (fs : List Text) → is_relation_file f ≡ true → list_all is_relation_file fs ≡ true → AllByRecursion (λ g. text_cmp f g ≡ Less) fs → Lacks text_order relation_name (label_of f) (read_all fs)
  lacks_files f [] hf hs lt = tt
  lacks_files f (g ∷ gs) hf hs lt =
      let parts = and_parts (is_relation_file g) (list_all is_relation_file gs) hs in
      put (file_at t folder g) (lacks_files f gs hf parts.1 lt.1) (labels_apart f g hf parts.0 lt.0)
    where
      put : (o : Option (List ℕ)) → Lacks text_order relation_name (label_of f) (read_all gs) → text_eq (label_of f) (label_of g) ≡ false
          → Lacks text_order relation_name (label_of f) (map relation_of (cons_option (option_map (λ (bytes : List ℕ). (g, records_of bytes)) o) (files_read t folder gs)))
      put None rest apart = rest
      put (Some bytes) rest apart = (apart, rest)

  pub differ_files : (fs : List Text) → IsStrictlySortedBy text_cmp fs → list_all is_relation_file fs ≡ true → AllDiffer relation_name (read_all fs)
  unfolding IsStrictlySortedBy
  differ_files [] s h = tt
  differ_files (f ∷ fs) s h =
      let parts = and_parts (is_relation_file f) (list_all is_relation_file fs) h in
      put (file_at t folder f) (lacks_files f fs parts.0 parts.1 s.0) (differ_files fs s.1 parts.1)
    where
      put : (o : Option (List ℕ)) → Lacks text_order relation_name (label_of f) (read_all fs) → AllDiffer relation_name (read_all fs)
          → AllDiffer relation_name (map relation_of (cons_option (option_map (λ (bytes : List ℕ). (f, records_of bytes)) o) (files_read t folder fs)))
      put None lacks rest = rest
      put (Some bytes) lacks rest = (lacks, rest)

-- the relation files of a database
pub files_legal : (t : Tree) (db : Text) → list_all is_relation_file (files_in t db) ≡ true
files_legal t db = all_pass is_relation_file (files_of t (database_folder db))

pub files_sorted : (t : Tree) (db : Text) → IsStrictlySortedBy text_cmp (files_in t db)
files_sorted t db = IsStrictlySortedBy-filter text_cmp is_relation_file (files_of t (database_folder db)) (files_ascend t (database_folder db))

pub database_differ : (t : Tree) (db : Text) → AllDiffer relation_name (map relation_of (database_files t db))
database_differ t db = differ_files t (database_folder db) (files_in t db) (files_sorted t db) (files_legal t db)

where_there : {A B : Type 0} (a : Bool) (g : A → B) (o : Option A) → cond (a && is_some o) (option_map g o) None ≡ cond a (option_map g o) None
where_there true g None = refl
where_there true g (Some x) = refl
where_there false g o = refl

pub found_relation : (t : Tree) (db k : Text) → relation_in k (database_in t db) ≡ cond (is_table_label k) (read_at t (database_folder db) k) None
found_relation t db k =
    let folder = database_folder db in
    named_ascending relation_name k (map relation_of (database_files t db)) (database_differ t db)
    ∙ found_file t folder k (files_in t db) (files_legal t db)
    ∙ ap (λ b. cond b (read_at t folder k) None) (in_kept is_relation_file (relation_file k) (files_of t folder) ∙ ap (λ b. b && is_in (relation_file k) (files_of t folder)) (file_test k) ∙ ap (λ b. is_table_label k && b) (there t folder (relation_file k)))
    ∙ where_there (is_table_label k) (λ (bytes : List ℕ). relation_value k (header_of (records_of bytes)) (rows_of (records_of bytes))) (file_at t folder (relation_file k))

-- the databases of a store
found_named : (t : Tree) (db : Text) (names : List Text) → database_of (map (database_in t) names) db ≡ cond (is_in db names) (Some (database_in t db)) None
found_named t db [] = refl
found_named t db (n ∷ ns) = by_name (text_eq db n) refl (found_named t db ns)
  where
    by_name : (b : Bool) → text_eq db n ≡ b → database_of (map (database_in t) ns) db ≡ cond (is_in db ns) (Some (database_in t db)) None
        → cond b (Some (database_in t n)) (database_of (map (database_in t) ns) db) ≡ cond (b || is_in db ns) (Some (database_in t db)) None
    by_name true s h = ap (λ (x : Text). Some (database_in t x)) (sym (same_text db n s))
    by_name false s h = h

pub in_databases : (t : Tree) (db : Text) → is_in db (databases_in t) ≡ (is_table_label db && has_folder t (database_folder db))
in_databases t db = in_kept is_table_label db (subfolders_of t sources_folder) ∙ by_label (is_table_label db) refl
  where
    by_label : (b : Bool) → is_table_label db ≡ b → (b && is_in db (subfolders_of t sources_folder)) ≡ (b && has_folder t (database_folder db))
    by_label true e = in_sources db (label_part db e) t
    by_label false e = refl

pub found_database : (t : Tree) (db : Text) → database_of (catalogue_in t) db ≡ cond (is_table_label db && has_folder t (database_folder db)) (Some (database_in t db)) None
found_database t db = found_named t db (databases_in t) ∙ ap (λ b. cond b (Some (database_in t db)) None) (in_databases t db)
