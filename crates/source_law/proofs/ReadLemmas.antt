-- Folders whose files are those of a sound catalogue are loaded as it.
use Rattle.std.proofs.Common.{◌≡◌, ◌≤◌, ◌+◌, ◌∷◌, ◌++◌, ◌∙◌, [], ℕ, Bool, true, false, cond, ◌&&◌, ◌||◌, List, Option, Some, None, is_some, refl, sym, ap, subst, suc, length, map, arith, append_assoc}
use Rattle.std.specs.Prelude.{nat_le, option_map, bytes_eq, filter, Ok, sum_by}
use Rattle.std.specs.List.{AllByRecursion, list_all, cons_option, IsDistinct}
use Rattle.std.specs.List.Sorted.{IsStrictlySortedBy}
use Rattle.std.specs.Option.{option_or}
use Rattle.std.specs.declared.cmp.Ordering.TheVariants.{Less, Equal, Greater}
use Rattle.std.proofs.lemmas.Bool.{and_parts, true≢false, le-ltb, or_right}
use Rattle.std.proofs.lemmas.Bool.Decides.{nat_tests, Decides-eqb}
use Rattle.std.proofs.lemmas.List.{length-map}
use Rattle.std.proofs.lemmas.List.Sums.{sum_by-cons}
use Rattle.std.proofs.lemmas.List.Kept.{IsStrictlySortedBy-filter}
use Rattle.ss_text.specs.Texts.{Text, Row, text_cmp, text_eq, is_in}
use Rattle.ss_text.specs.Label.{is_table_label}
use Rattle.ss_text.specs.Ascending.{by_order, with_element, ascending}
use Rattle.ss_text.proofs.KeyLemmas.{text_order, equal_itself, Lacks}
use Rattle.outside.specs.Tree.{Tree, file_at, files_of, subfolders_of, has_folder}
use Rattle.schema_model.specs.Catalogue.{RelationValue, DatabaseValue, CatalogueValue, relation_value, database_value, relation_name, database_name, database_names, relation_in, database_of, relation_of, rows_in, row_count}
use Rattle.schema_model.specs.Sound.{IsHeader, IsRelation, IsDatabase, IsSound}
use Rattle.csv_catalog.specs.FileFaults.{repeated_after, rows_fault, header_fault, file_fault, rows_of, header_of, told_fault}
use Rattle.csv_catalog.specs.Loaded.{sources_folder, database_folder, label_of, is_relation_file, databases_in, files_in, files_read, database_files, relation_of as relation_of_file, by_name, database_in, catalogue_in, files_fault, database_fault, databases_fault, loaded}
use Rattle.csv_catalog.specs.Records.{records_of}
use Rattle.csv_catalog.specs.Saved.{is_there}
use Rattle.view_folder.proofs.FolderLemmas.{there}
use Rattle.source_law.proofs.NamedLemmas.{differs_back, in_kept, named, same_named, found_in, AllDiffer, by_key, ascending_by_name, length_ascending, sum_ascending, each_legal}
use Rattle.source_law.proofs.TreeLemmas.{folders_ascend}
use Rattle.source_law.proofs.FileLemmas.{read_at, read_all, database_differ, found_relation, found_database}
use Rattle.source_law.proofs.LoadedLemmas.{names_of}
use Rattle.schema_model.specs.Limits.{most_rows, most_attributes, most_databases, most_relations}

-- the records of a sound relation have no fault
parts_none : {A : Type 0} (a b : Option A) → a ≡ None → b ≡ None → option_or a b ≡ None
parts_none a b p q = rw (p, q) refl

apart_from : (seen : List Text) (t : Text) (ts : List Text) → IsDistinct bytes_eq (seen ++ t ∷ ts) → is_in t seen ≡ false
unfolding IsDistinct
apart_from [] t ts d = refl
apart_from (s ∷ seen) t ts d = rw (differs_back s t (at_seam (λ y. bytes_eq s y ≡ false) seen t ts d.0), apart_from seen t ts d.1) refl
  where
    at_seam : (P : Text → Type 0) (xs : List Text) (x : Text) (ys : List Text) → AllByRecursion P (xs ++ x ∷ ys) → P x
    at_seam P [] x ys h = h.0
    at_seam P (z ∷ xs) x ys h = at_seam P xs x ys h.1

none_repeated : (seen ts : List Text) → IsDistinct bytes_eq (seen ++ ts) → repeated_after seen ts ≡ None
unfolding repeated_after
none_repeated seen [] d = refl
none_repeated seen (t ∷ ts) d = rw (apart_from seen t ts d) (none_repeated (seen ++ t ∷ []) ts (subst (IsDistinct bytes_eq) (sym (append_assoc seen (t ∷ []) ts)) d))

header_sound : (header : Row) → IsHeader header → header_fault header ≡ None
header_sound header h = rw (le-ltb most_attributes (length header) h.few, none_repeated [] header h.distinct) refl

rows_sound : (want nth count : ℕ) (rows : List Row) → AllByRecursion (λ (row : Row). length row ≡ want) rows → count + length rows ≤ most_rows → rows_fault want nth count rows ≡ None
unfolding rows_fault
rows_sound want nth count [] fit few = refl
rows_sound want nth count (row ∷ rows) fit few = rw ((Decides-eqb (length row) want).1 fit.0, room count (length rows) few) (rows_sound want (nth + 1) (count + 1) rows fit.1 (moved count (length rows) few))
  where
    room : (n m : ℕ) → n + suc m ≤ most_rows → nat_le most_rows n ≡ false
    room n m h = grind (arith, nat_tests)

    moved : (n m : ℕ) → n + suc m ≤ most_rows → n + 1 + m ≤ most_rows
    moved n m h = omega (arith, h)

file_sound : (label : Text) (count : ℕ) (records : List Row) → IsRelation (relation_value label (header_of records) (rows_of records)) → count + length (rows_of records) ≤ most_rows → file_fault count records ≡ None
unfolding file_fault
file_sound label count [] h few = absurd (omega (arith, h.header.some))
file_sound label count (header ∷ rows) h few = parts_none (header_fault header) (rows_fault (length header) 2 count rows) (header_sound header h.header) (rows_sound (length header) 2 count rows h.fits few)

first_part : (a b c d : ℕ) → d ≡ b + c → a + d ≤ most_rows → a + b ≤ most_rows
first_part a b c d e h = omega (arith, e, h)

then_part : (a b c d : ℕ) → d ≡ b + c → a + d ≤ most_rows → a + b + c ≤ most_rows
then_part a b c d e h = omega (arith, e, h)

module _ (t : Tree) (db folder : Text) where
  files_fine : (count : ℕ) (files : List Text) → AllByRecursion IsRelation (read_all t folder files) → count + sum_by (λ (r : RelationValue). length r.rows) (read_all t folder files) ≤ most_rows → files_fault db count (files_read t folder files) ≡ None
  unfolding files_fault
  files_fine count [] sound few = refl
  files_fine count (f ∷ fs) sound few = by_file (file_at t folder f) sound few (λ n s le. files_fine n fs s le)
    where
      by_file : (o : Option (List ℕ)) → AllByRecursion IsRelation (map relation_of_file (cons_option (option_map (λ (bytes : List ℕ). (f, records_of bytes)) o) (files_read t folder fs)))
          → count + sum_by (λ (r : RelationValue). length r.rows) (map relation_of_file (cons_option (option_map (λ (bytes : List ℕ). (f, records_of bytes)) o) (files_read t folder fs))) ≤ most_rows
          → ((n : ℕ) → AllByRecursion IsRelation (read_all t folder fs) → n + sum_by (λ (r : RelationValue). length r.rows) (read_all t folder fs) ≤ most_rows → files_fault db n (files_read t folder fs) ≡ None)
          → files_fault db count (cons_option (option_map (λ (bytes : List ℕ). (f, records_of bytes)) o) (files_read t folder fs)) ≡ None
      by_file None sound few rest = rest count sound few
      by_file (Some bytes) sound few rest =
          let cons = sum_by-cons (λ (r : RelationValue). length r.rows) (relation_of_file (f, records_of bytes)) (read_all t folder fs) in
          let own = length (rows_of (records_of bytes)) in
          let more = sum_by (λ (r : RelationValue). length r.rows) (read_all t folder fs) in
          parts_none (option_map (told_fault db f) (file_fault count (records_of bytes))) _
          (ap (option_map (told_fault db f)) (file_sound (label_of f) count (records_of bytes) sound.0 (first_part count own more _ cons few)))
          (rest (count + own) sound.1 (then_part count own more _ cons few))

-- what holds of each element once they ascend holds of each
module _ {A : Type 0} (key : A → Text) (P : A → Type 0) where
  back_with : (x : A) (ys : List A) → Lacks text_order key (key x) ys → AllByRecursion P (with_element (by_key key) x ys) → P x × AllByRecursion P ys
  back_with x [] l h = h
  back_with x (y ∷ ys) l h =
      elim (by_key key x y) as (λ o. by_key key x y ≡ o → AllByRecursion P (by_order o (x ∷ y ∷ ys) (y ∷ ys) (y ∷ with_element (by_key key) x ys)) → P x × AllByRecursion P (y ∷ ys)) [
        | Less ↦ λ _ h. h
        | Equal ↦ λ e _. absurd (true≢false (sym (ap (text_eq (key x)) (sym (text_order.same (key x) (key y) e)) ∙ equal_itself text_order (key x)) ∙ l.0))
        | Greater ↦ λ _ h. let rest = back_with x ys l.1 h.1 in (rest.0, (h.0, rest.1))
      ] refl h

  all_back : (xs : List A) → AllDiffer key xs → AllByRecursion P (ascending (by_key key) xs) → AllByRecursion P xs
  all_back [] d h = tt
  all_back (x ∷ xs) d h = let parts = back_with x (ascending (by_key key) xs) (lacked x xs d.0) h in (parts.0, all_back xs d.1 parts.1)
    where
      put : (k : Text) (x : A) (ys : List A) → text_eq k (key x) ≡ false → Lacks text_order key k ys → Lacks text_order key k (with_element (by_key key) x ys)
      put k x [] h l = (h, tt)
      put k x (y ∷ ys) h l =
          elim (by_key key x y) as (λ o. Lacks text_order key k (by_order o (x ∷ y ∷ ys) (y ∷ ys) (y ∷ with_element (by_key key) x ys)))
          [ Less ↦ (h, l) | Equal ↦ l | Greater ↦ (l.0, put k x ys h l.1) ]

      lacked : (x : A) (xs : List A) → Lacks text_order key (key x) xs → Lacks text_order key (key x) (ascending (by_key key) xs)
      lacked x [] l = tt
      lacked x (y ∷ ys) l = put (key x) y (ascending (by_key key) ys) l.0 (lacked x ys l.1)

-- each listed file is read
read_count : (t : Tree) (folder : Text) (files : List Text) → ((f : Text) → is_in f files ≡ true → is_some (file_at t folder f) ≡ true) → length (files_read t folder files) ≡ length files
read_count t folder [] h = refl
read_count t folder (f ∷ fs) h = by_file (file_at t folder f) (h f (ap (λ b. b || is_in f fs) (equal_itself text_order f))) (read_count t folder fs (λ g i. h g (or_right (text_eq g f) (is_in g fs) i)))
  where
    by_file : (o : Option (List ℕ)) → is_some o ≡ true → length (files_read t folder fs) ≡ length fs → length (cons_option (option_map (λ (bytes : List ℕ). (f, records_of bytes)) o) (files_read t folder fs)) ≡ suc (length fs)
    by_file None some e = absurd (cc some)
    by_file (Some bytes) some e = ap suc e

kept_in : (p : Text → Bool) (xs : List Text) (x : Text) → is_in x (filter p xs) ≡ true → is_in x xs ≡ true
kept_in p xs x h = (and_parts (p x) (is_in x xs) (sym (in_kept p x xs) ∙ h)).1

files_count : (t : Tree) (db : Text) → length (database_files t db) ≡ length (files_in t db)
files_count t db = read_count t (database_folder db) (files_in t db) (λ f i. sym (there t (database_folder db) f) ∙ kept_in is_relation_file (files_of t (database_folder db)) f i)

database_fine : (t : Tree) (db : Text) (count : ℕ) → IsDatabase (database_in t db) → count + rows_in (database_in t db) ≤ most_rows → database_fault t db count ≡ None
database_fine t db count sound few =
    let all = map relation_of_file (database_files t db) in
    let apart = database_differ t db in
    let many : length (ascending by_name all) ≡ length (database_files t db) = length_ascending relation_name all apart ∙ length-map (database_files t db) relation_of_file in
    let rows : rows_in (database_in t db) ≡ sum_by (λ (r : RelationValue). length r.rows) all = sum_ascending relation_name (λ (r : RelationValue). length r.rows) all apart in
    let narrow : length (files_in t db) ≤ most_relations = omega (arith, sound.few, many, files_count t db) in
    rw (le-ltb most_relations (length (files_in t db)) narrow) (files_fine t db (database_folder db) count (files_in t db) (all_back relation_name IsRelation all apart sound.relations) (subst (λ (n : ℕ). count + n ≤ most_rows) rows few))

module _ (t : Tree) where
  databases_fine : (count : ℕ) (dbs : List Text) → AllByRecursion IsDatabase (map (database_in t) dbs) → count + row_count (map (database_in t) dbs) ≤ most_rows → databases_fault t count dbs ≡ None
  unfolding databases_fault
  databases_fine count [] sound few = refl
  databases_fine count (db ∷ dbs) sound few =
      let cons = sum_by-cons rows_in (database_in t db) (map (database_in t) dbs) in
      parts_none (database_fault t db count) (databases_fault t (count + rows_in (database_in t db)) dbs)
      (database_fine t db count sound.0 (first_part count (rows_in (database_in t db)) _ _ cons few))
      (databases_fine (count + rows_in (database_in t db)) dbs sound.1 (then_part count (rows_in (database_in t db)) _ _ cons few))

  -- a sound catalogue of folders is loaded
  sound_loads : IsSound (catalogue_in t) → loaded t ≡ Ok (catalogue_in t)
  unfolding loaded
  sound_loads h =
      let few : length (databases_in t) ≤ most_databases = omega (arith, h.few, length-map (databases_in t) (database_in t)) in
      rw (le-ltb most_databases (length (databases_in t)) few, databases_fine 0 (databases_in t) h.databases (omega (arith, h.rows))) refl

-- folders and files of a catalogue, by their names
module _ (u : Tree) (c : CatalogueValue) (s : IsSound c)
    (folders : (db : Text) → is_table_label db ≡ true → is_there c db ≡ has_folder u (database_folder db))
    (files : (db rel : Text) → is_table_label db ≡ true → is_table_label rel ≡ true → relation_of c db rel ≡ read_at u (database_folder db) rel) where
  none_named : {A : Type 0} (key : A → Text) (k : Text) (xs : List A) → list_all is_table_label (map key xs) ≡ true → is_table_label k ≡ false → named key k xs ≡ None
  none_named key k xs legal not_k = by_found (named key k xs) refl
    where
      by_found : (o : Option _) → named key k xs ≡ o → o ≡ None
      by_found None e = refl
      by_found (Some x) e =
          let has = found_in key (λ x. is_table_label (key x) ≡ true) k xs x (each_legal key xs legal) e in
          absurd (true≢false (sym (ap is_table_label (sym has.1) ∙ has.0) ∙ not_k))

  same_database : (d : DatabaseValue) → database_of c d.name ≡ Some d → IsDatabase d → is_table_label d.name ≡ true → database_in u d.name ≡ d
  same_database d found sound legal =
      ap (database_value d.name) (same_named relation_name (database_in u d.name).relations d.relations (ascending_by_name relation_name (map relation_of_file (database_files u d.name))) sound.names.ascend (λ k. found_relation u d.name k ∙ by_label k (is_table_label k) refl))
    where
      by_label : (k : Text) (b : Bool) → is_table_label k ≡ b → cond b (read_at u (database_folder d.name) k) None ≡ relation_in k d
      by_label k true e = sym (files d.name k legal e) ∙ rw found refl
      by_label k false e = sym (none_named relation_name k d.relations sound.names.legal e)

  names_ascend : IsStrictlySortedBy text_cmp (database_names (catalogue_in u))
  names_ascend = subst (IsStrictlySortedBy text_cmp) (sym (names_of u (databases_in u))) (IsStrictlySortedBy-filter text_cmp is_table_label (subfolders_of u sources_folder) (folders_ascend u sources_folder))

  by_database : (k : Text) (o : Option DatabaseValue) → database_of c k ≡ o → (b : Bool) → is_table_label k ≡ b → cond (b && has_folder u (database_folder k)) (Some (database_in u k)) None ≡ o
  by_database k None e false legal = refl
  by_database k None e true legal = ap (λ b. cond b (Some (database_in u k)) None) (sym (folders k legal) ∙ ap is_some e)
  by_database k (Some d) e b legal =
      let has = found_in database_name (λ (x : DatabaseValue). IsDatabase x) k c d s.databases e in
      let own = found_in database_name (λ (x : DatabaseValue). is_table_label x.name ≡ true) k c d (each_legal database_name c s.names.legal) e in
      let is_legal : is_table_label k ≡ true = ap is_table_label (sym own.1) ∙ own.0 in
      let here : has_folder u (database_folder k) ≡ true = sym (folders k is_legal) ∙ ap is_some e in
      let one : database_in u k ≡ d = ap (database_in u) (sym has.1) ∙ same_database d (ap (database_of c) has.1 ∙ e) has.0 own.0 in
      rw (sym legal ∙ is_legal, here) (ap Some one)

  same_catalogue : catalogue_in u ≡ c
  same_catalogue = same_named database_name (catalogue_in u) c names_ascend s.names.ascend (λ k. found_database u k ∙ by_database k (database_of c k) refl (is_table_label k) refl)

  -- they are loaded as it
  pub loads : loaded u ≡ Ok c
  loads = subst (λ (x : CatalogueValue). loaded u ≡ Ok x) same_catalogue (sound_loads u (subst IsSound (sym same_catalogue) s))
