-- The files and the folders in a folder.
use Rattle.std.proofs.Common.{◌≡◌, ◌∷◌, ◌∙◌, [], suc, Bool, true, false, cond, ◌||◌, ◌==◌, List, Option, Some, None, is_some, refl, sym, ap, length}
use Rattle.std.specs.Prelude.{codes}
use Rattle.std.specs.FinMap as map_of
use Rattle.std.specs.List.{list_any, cons_option}
use Rattle.std.specs.List.Sorted.{IsStrictlySortedBy}
use Rattle.std.specs.Ordering.{eq_by_cmp}
use Rattle.std.specs.Cmp.Lexicographic.{texts_ties}
use Rattle.std.proofs.lemmas.Bool.{or_right, ne_eqb, false_from_ne_true, true≢false}
use Rattle.std.proofs.lemmas.List.{append_cancel_left}
use Rattle.ss_text.specs.Texts.{Text, text_cmp, text_eq, is_in}
use Rattle.ss_text.specs.Label.{is_table_label}
use Rattle.ss_text.proofs.KeyLemmas.{text_order, equal_itself}
use Rattle.outside.specs.Tree.{Tree, file_at, files_of, subfolders_of, children_in, child_name, is_part, has_folder, has_empty_folder}
use Rattle.outside.proofs.TreeLemmas.{child_full, children_ascend}
use Rattle.csv_catalog.specs.Loaded.{sources_folder, database_folder}
use Rattle.csv_catalog.proofs.SavedTreeLemmas.{no_slash, label_bytes, no_child}
use Rattle.view_folder.proofs.FolderLemmas.{there, keys_ascend, is_true}
use Rattle.source_law.proofs.NamedLemmas.{same_text}

pub folders_ascend : (t : Tree) (folder : Text) → IsStrictlySortedBy text_cmp (subfolders_of t folder)
folders_ascend t folder = children_ascend folder (map_of.keys t.folders) (keys_ascend text_cmp (map_of.entries t.folders) (is_true _ (map_of.entries_sorted t.folders)))

-- a label has no `/`

pub label_slash : (label : Text) → is_table_label label ≡ true → list_any (λ b. b == 47) label ≡ false
label_slash label h = no_slash label (label_bytes label h)

pub label_some : (label : Text) → is_table_label label ≡ true → (length label == 0) ≡ false
unfolding is_table_label
label_some [] h = absurd (cc)
label_some (b ∷ bs) h = ne_eqb (suc (length bs)) 0 (λ z. cc z)

pub label_part : (label : Text) → is_table_label label ≡ true → is_part label ≡ true
label_part label h = rw (label_some label h, label_slash label h) refl

-- the folder of a database lies in that of the sources
child_of_sources : (db : Text) → child_name sources_folder (database_folder db) ≡ cond (is_part db) (Some db) None
child_of_sources db = refl

some_of : (b : Bool) (x : Text) → b ≡ true → cond b (Some x) None ≡ Some x
some_of b x e = rw e refl

module _ (db : Text) (part : is_part db ≡ true) where
  is_child : child_name sources_folder (database_folder db) ≡ Some db
  is_child = child_of_sources db ∙ some_of (is_part db) db part

  one_child : (k : Text) (o : Option Text) → child_name sources_folder k ≡ o → (rest : Bool) (names : List Text) → is_in db names ≡ rest → is_in db (cons_option o names) ≡ (eq_by_cmp text_cmp (database_folder db) k || rest)
  one_child k None e rest names h = h ∙ ap (λ b. b || rest) (sym (ties_not (λ same. none_some (sym e ∙ ap (child_name sources_folder) (sym same) ∙ is_child))))
    where
      none_some : None ≡ Some db → ⊥
      none_some e = absurd (cc)

      ties_not : (database_folder db ≡ k → ⊥) → eq_by_cmp text_cmp (database_folder db) k ≡ false
      ties_not other = sym (texts_ties (database_folder db) k) ∙ false_from_ne_true _ (λ s. other (same_text (database_folder db) k s))
  one_child k (Some name) e rest names h = ap (λ b. text_eq db name || b) h ∙ ap (λ b. b || rest) (by_case (text_eq db name) refl)
    where
      full : k ≡ database_folder name
      full = child_full sources_folder k name e

      by_case : (b : Bool) → text_eq db name ≡ b → b ≡ eq_by_cmp text_cmp (database_folder db) k
      by_case true s = sym (sym (texts_ties (database_folder db) k) ∙ ap (text_eq (database_folder db)) (full ∙ ap database_folder (sym (same_text db name s))) ∙ equal_itself text_order (database_folder db))
      by_case false s =
          sym (sym (texts_ties (database_folder db) k) ∙ false_from_ne_true _ (λ same.
          let is : db ≡ name = append_cancel_left (codes "sources/") db name (same_text (database_folder db) k same ∙ full) in
          true≢false (sym (equal_itself text_order name) ∙ ap (λ (x : Text). text_eq x name) (sym is) ∙ s)))

  in_children : (ks : List Text) → is_in db (children_in sources_folder ks) ≡ list_any (eq_by_cmp text_cmp (database_folder db)) ks
  in_children [] = refl
  in_children (k ∷ ks) = one_child k (child_name sources_folder k) refl _ (children_in sources_folder ks) (in_children ks)

  pub in_sources : (t : Tree) → is_in db (subfolders_of t sources_folder) ≡ has_folder t (database_folder db)
  in_sources t = in_children (map_of.keys t.folders) ∙ sym (map_of.contains_key-keys t.folders (database_folder db))

-- a folder without files and folders
no_names : (names : List Text) → ((name : Text) → is_in name names ≡ false) → names ≡ []
no_names [] h = refl
no_names (n ∷ ns) h = absurd (true≢false (sym (ap (λ b. b || is_in n ns) (equal_itself text_order n)) ∙ h n))

in_keys : (m : map_of.FinMap text_cmp (Unit {0})) (k : Text) → is_in k (map_of.keys m) ≡ map_of.contains_key m k
in_keys m k = any_same (map_of.keys m) ∙ sym (map_of.contains_key-keys m k)
  where
    any_same : (ks : List Text) → is_in k ks ≡ list_any (eq_by_cmp text_cmp k) ks
    any_same [] = refl
    any_same (j ∷ ks) = ap (λ b. b || is_in k ks) (texts_ties k j) ∙ ap (λ b. eq_by_cmp text_cmp k j || b) (any_same ks)

pub stands_empty : (t : Tree) (f : Text) → has_folder t f ≡ true → ((name : Text) → file_at t f name ≡ None) → ((d : Text) → has_folder t d ≡ true → child_name f d ≡ None) → has_empty_folder t f ≡ true
stands_empty t f here files folders =
    let no_files : files_of t f ≡ [] = no_names (files_of t f) (λ name. there t f name ∙ ap is_some (files name)) in
    let no_folders : subfolders_of t f ≡ [] = no_child f (map_of.keys t.folders) (λ d i. folders d (sym (in_keys t.folders d) ∙ i)) in
    rw (here, no_files, no_folders) refl

-- a folder in which none lies has no folder in it
child_in : (f : Text) (ks : List Text) (k name : Text) → is_in k ks ≡ true → child_name f k ≡ Some name → is_in name (children_in f ks) ≡ true
child_in f [] k name i e = absurd (cc)
child_in f (j ∷ ks) k name i e =
    elim (text_eq k j) as (λ b. text_eq k j ≡ b → (b || is_in k ks) ≡ true → is_in name (cons_option (child_name f j) (children_in f ks)) ≡ true) [
      | true ↦ λ s _.
          let is : child_name f j ≡ Some name = ap (child_name f) (sym (same_text k j s)) ∙ e in
          ap (λ o. is_in name (cons_option o (children_in f ks))) is ∙ ap (λ b. b || is_in name (children_in f ks)) (equal_itself text_order name)
      | false ↦ λ _ later. behind (child_name f j) (child_in f ks k name later e)
    ] refl i
  where
    behind : (o : Option Text) → is_in name (children_in f ks) ≡ true → is_in name (cons_option o (children_in f ks)) ≡ true
    behind None h = h
    behind (Some x) h = or_right (text_eq name x) (is_in name (children_in f ks)) h

pub none_in_folder : (t : Tree) (f d : Text) → subfolders_of t f ≡ [] → has_folder t d ≡ true → child_name f d ≡ None
none_in_folder t f d none here = by_child (child_name f d) refl
  where
    by_child : (o : Option Text) → child_name f d ≡ o → o ≡ None
    by_child None e = refl
    by_child (Some name) e = absurd (true≢false (sym (child_in f (map_of.keys t.folders) d name (in_keys t.folders d ∙ here) e) ∙ ap (is_in name) none))
