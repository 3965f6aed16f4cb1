-- What is in the folders after what has changed was saved.
use Rattle.std.proofs.Common.{◌≡◌, ◌≢◌, ℕ, suc, Bool, true, false, cond, not, ◌&&◌, ◌||◌, ◌==◌, List, [], ◌∷◌, ◌++◌, length, map, Option, None, Some, is_some, refl, sym, ap, ◌∙◌, subst, unwrap_or, append_assoc, arith}
use Rattle.std.specs.Prelude.{filter, codes, option_map, bytes_eq, slice_index}
use Rattle.std.specs.Str.{is_utf8}
use Rattle.std.specs.Option.{option_map_or}
use Rattle.std.specs.List.{list_any, list_all, cons_option}
use Rattle.std.specs.Ordering.{eq_by_cmp, is_eq}
use Rattle.std.specs.FinMap as map_of
use Rattle.std.specs.Cmp.{tied_itself}
use Rattle.std.specs.Cmp.Lexicographic.{nat_list_cmp_total, texts_ties}
use Rattle.std.proofs.lemmas.List.Folds.{list_any-append}
use Rattle.std.proofs.lemmas.Bool.{false_from_ne_true, or_right, and_parts, true≢false, eqb-true, and_from}
use Rattle.std.proofs.lemmas.List.{append_cancel_left, append_cancel_right}
use Rattle.std.proofs.lemmas.Map.Lookups.{exact_bytes}
use Rattle.std.proofs.lemmas.Slice.Eq.{bytes_eq-Decides}
use Rattle.ss_text.specs.Texts.{Text, text_cmp, is_in}
use Rattle.ss_text.specs.Label.{is_table_label, is_table_byte, has_label_length}
use Rattle.outside.specs.Tree.{Tree, Place, place_cmp, folder_path, with_folders, with_file, without_file, with_folder, without_folder, has_folder, has_empty_folder, files_of, subfolders_of, children_in, child_name}
use Rattle.outside.specs.WholeLaw.{is_eq_true, place_exact}
use Rattle.outside.proofs.PlaceLemmas.{place_total}
use Rattle.outside.specs.States.{StoreState, SinkState}
use Rattle.outside.proofs.TreeLemmas.{kept_made, child_full}
use Rattle.outside.proofs.WholeLemmas.{made_folder}
use Rattle.outside.specs.Stored.{Stored, stored_of, writing, removing, making_folder, removing_folder}
use Rattle.outside.specs.Edits.{edited, all_edited}
use Rattle.outside.specs.declared.edit.Edit.{Edit}
use Rattle.outside.specs.declared.edit.Edit.TheVariants as edit
use Rattle.outside.specs.Effects.{Replace, Contents, contents, after, world_of}
use Rattle.outside.proofs.EffectLemmas.{told_tree}
use Rattle.schema_model.specs.declared.pair.Pair.{Pair}
use Rattle.schema_model.specs.Catalogue.{RelationValue, CatalogueValue, relation_of}
use Rattle.csv_catalog.specs.Loaded.{database_folder}
use Rattle.csv_catalog.specs.RecordText.{csv_text, relation_records}
use Rattle.csv_catalog.specs.Saved.{relation_file, is_there, those_there, those_gone, folders_made, folders_removed, pairs_saved, saved}
use Rattle.csv_catalog.specs.SavedTree.{place_of, bytes_of, is_place_among, HoldsSaved}

-- the tree after each of the three groups
abbrev made : List Text → Tree → Tree
made [] t = t
made (db ∷ dbs) t = made dbs (with_folder (database_folder db) t)

abbrev cleared : List Text → Tree → Tree
cleared [] t = t
cleared (db ∷ dbs) t = cleared dbs (without_folder (database_folder db) t)

module _ (c : CatalogueValue) where
  abbrev one_saved : Pair → Tree → Tree
  one_saved p t = option_map_or (λ (r : RelationValue). with_file (database_folder p.db) (relation_file p.rel) (csv_text (relation_records r)) t) (relation_of c p.db p.rel) (without_file (database_folder p.db) (relation_file p.rel) t)

  abbrev all_saved : List Pair → Tree → Tree
  all_saved [] t = t
  all_saved (p ∷ ps) t = all_saved ps (one_saved p t)

  -- files
  made_files : (dbs : List Text) (t : Tree) → (made dbs t).files ≡ t.files
  made_files [] t = refl
  made_files (db ∷ dbs) t = made_files dbs (with_folder (database_folder db) t)

  cleared_files : (dbs : List Text) (t : Tree) → (cleared dbs t).files ≡ t.files
  cleared_files [] t = refl
  cleared_files (db ∷ dbs) t = cleared_files dbs (without_folder (database_folder db) t)

  get_one : (p : Pair) (t : Tree) (q : Place) → map_of.get (one_saved p t).files q ≡ cond (eq_by_cmp place_cmp q (place_of p)) (bytes_of c p) (map_of.get t.files q)
  get_one p t q =
      elim (relation_of c p.db p.rel) as (λ o. map_of.get (option_map_or (λ (r : RelationValue). with_file (database_folder p.db) (relation_file p.rel) (csv_text (relation_records r)) t) o (without_file (database_folder p.db) (relation_file p.rel) t)).files q ≡ cond (eq_by_cmp place_cmp q (place_of p)) (option_map (λ (r : RelationValue). csv_text (relation_records r)) o) (map_of.get t.files q)) [
        | None ↦ map_of.get-remove place_total t.files (place_of p) q
        | Some r ↦ map_of.get-insert place_total t.files (place_of p) (csv_text (relation_records r)) q
      ]

  get_other : (ps : List Pair) (t : Tree) (q : Place) → is_place_among ps q ≡ false → map_of.get (all_saved ps t).files q ≡ map_of.get t.files q
  get_other [] t q none = refl
  get_other (p ∷ ps) t q none =
      elim (eq_by_cmp place_cmp q (place_of p)) as (λ b. eq_by_cmp place_cmp q (place_of p) ≡ b → (b || is_place_among ps q) ≡ false → map_of.get (all_saved ps (one_saved p t)).files q ≡ map_of.get t.files q) [
        | true ↦ λ _ none. absurd (cc)
        | false ↦ λ e none. get_other ps (one_saved p t) q none ∙ get_one p t q ∙ ap (λ b. cond b (bytes_of c p) (map_of.get t.files q)) e
      ] refl none

  -- each relation of a place is one
  same_bytes : (p r : Pair) → eq_by_cmp place_cmp (place_of p) (place_of r) ≡ true → bytes_of c r ≡ bytes_of c p
  same_bytes p r e =
      let same : place_of p ≡ place_of r = place_exact (place_of p) (place_of r) (is_eq_true _ e) in
      let db : p.db ≡ r.db = append_cancel_left (codes "sources/") p.db r.db (ap (λ (q : Place). q.0) same) in
      let rel : p.rel ≡ r.rel = append_cancel_right p.rel r.rel (codes ".csv") (ap (λ (q : Place). q.1) same) in
      ap (λ (x : Text). option_map (λ (s : RelationValue). csv_text (relation_records s)) (relation_of c x r.rel)) (sym db) ∙ ap (λ (x : Text). option_map (λ (s : RelationValue). csv_text (relation_records s)) (relation_of c p.db x)) (sym rel)

  get_named : (ps : List Pair) (t : Tree) (p : Pair) → is_place_among ps (place_of p) ≡ true → map_of.get (all_saved ps t).files (place_of p) ≡ bytes_of c p
  get_named [] t p some = absurd (cc)
  get_named (r ∷ ps) t p some =
      elim (is_place_among ps (place_of p)) as (λ b. is_place_among ps (place_of p) ≡ b → (eq_by_cmp place_cmp (place_of p) (place_of r) || b) ≡ true → map_of.get (all_saved ps (one_saved r t)).files (place_of p) ≡ bytes_of c p) [
        | true ↦ λ later _. get_named ps (one_saved r t) p later
        | false ↦ λ none some.
            let here : eq_by_cmp place_cmp (place_of p) (place_of r) ≡ true = first_of_two (eq_by_cmp place_cmp (place_of p) (place_of r)) some in
            get_other ps (one_saved r t) (place_of p) none ∙ get_one r t (place_of p) ∙ ap (λ b. cond b (bytes_of c r) (map_of.get t.files (place_of p))) here ∙ same_bytes p r here
      ] refl some
    where
      first_of_two : (a : Bool) → (a || false) ≡ true → a ≡ true
      first_of_two true h = refl
      first_of_two false h = absurd (cc)

  -- folders that stay
  kept_one : (p : Pair) (t : Tree) (d : Text) → has_folder t d ≡ true → has_folder (one_saved p t) d ≡ true
  kept_one p t d h =
      elim (relation_of c p.db p.rel) as (λ o. has_folder (option_map_or (λ (r : RelationValue). with_file (database_folder p.db) (relation_file p.rel) (csv_text (relation_records r)) t) o (without_file (database_folder p.db) (relation_file p.rel) t)) d ≡ true) [
        | None ↦ h
        | Some r ↦ kept_made (folder_path (database_folder p.db)) t.folders d h
      ]

  kept_saved : (ps : List Pair) (t : Tree) (d : Text) → has_folder t d ≡ true → has_folder (all_saved ps t) d ≡ true
  kept_saved [] t d h = h
  kept_saved (p ∷ ps) t d h = kept_saved ps (one_saved p t) d (kept_one p t d h)

kept_with : (f : Text) (t : Tree) (d : Text) → has_folder t d ≡ true → has_folder (with_folder f t) d ≡ true
kept_with f t d h =
    elim (has_folder t f) as (λ b. map_of.contains_key (cond b t.folders (with_folders (folder_path f) t.folders)) d ≡ true) [
      | true ↦ h
      | false ↦ kept_made (folder_path f) t.folders d h
    ]

there_with : (f : Text) (t : Tree) → has_folder (with_folder f t) f ≡ true
there_with f t =
    elim (has_folder t f) as (λ b. has_folder t f ≡ b → map_of.contains_key (cond b t.folders (with_folders (folder_path f) t.folders)) f ≡ true) [
      | true ↦ λ e. e
      | false ↦ λ _. made_folder f t.folders
    ] refl

kept_made_all : (dbs : List Text) (t : Tree) (d : Text) → has_folder t d ≡ true → has_folder (made dbs t) d ≡ true
kept_made_all [] t d h = h
kept_made_all (db ∷ dbs) t d h = kept_made_all dbs (with_folder (database_folder db) t) d (kept_with (database_folder db) t d h)

there_made : (dbs : List Text) (t : Tree) (db : Text) → is_in db dbs ≡ true → has_folder (made dbs t) (database_folder db) ≡ true
there_made [] t db h = absurd (cc)
there_made (e ∷ dbs) t db h =
    elim (bytes_eq db e) as (λ b. bytes_eq db e ≡ b → (b || is_in db dbs) ≡ true → has_folder (made dbs (with_folder (database_folder e) t)) (database_folder db) ≡ true) [
      | true ↦ λ same _.
          let is : db ≡ e = (bytes_eq-Decides db e).0 same in
          kept_made_all dbs (with_folder (database_folder e) t) (database_folder db) (subst (λ (x : Text). has_folder (with_folder (database_folder e) t) (database_folder x) ≡ true) (sym is) (there_with (database_folder e) t))
      | false ↦ λ _ h. there_made dbs (with_folder (database_folder e) t) db h
    ] refl h

-- a folder other than the one that is removed
other_kept : (f : Text) (t : Tree) (d : Text) → d ≢ f → has_folder t d ≡ true → has_folder (without_folder f t) d ≡ true
other_kept f t d other h =
    elim (has_empty_folder t f) as (λ b. map_of.contains_key (cond b (map_of.remove t.folders f) t.folders) d ≡ true) [
      | true ↦ ap is_some (map_of.get-remove nat_list_cmp_total t.folders f d) ∙ stays (eq_by_cmp text_cmp d f) (map_of.get t.folders d) (λ e. other (exact_bytes d f (is_eq_true _ e))) h
      | false ↦ h
    ]
  where
    stays : (b : Bool) (o : Option (Unit {0})) → b ≢ true → is_some o ≡ true → is_some (cond b None o) ≡ true
    stays true o ne h = absurd (ne refl)
    stays false o ne h = h

kept_cleared : (dbs : List Text) (t : Tree) (d : Text) → is_in d (map database_folder dbs) ≡ false → has_folder t d ≡ true → has_folder (cleared dbs t) d ≡ true
kept_cleared [] t d none h = h
kept_cleared (db ∷ dbs) t d none h =
    elim (bytes_eq d (database_folder db)) as (λ b. bytes_eq d (database_folder db) ≡ b → (b || is_in d (map database_folder dbs)) ≡ false → has_folder (cleared dbs (without_folder (database_folder db) t)) d ≡ true) [
      | true ↦ λ _ none. absurd (cc)
      | false ↦ λ e none. kept_cleared dbs (without_folder (database_folder db) t) d none (other_kept (database_folder db) t d (λ same. not_both (bytes_eq d (database_folder db)) ((bytes_eq-Decides d (database_folder db)).1 same) e) h)
    ] refl none
  where
    not_both : (b : Bool) → b ≡ true → b ≡ false → ⊥
    not_both b t f = absurd (cc)

-- whether there is no child of a folder among folders
pub no_child : (f : Text) (ks : List Text) → ((d : Text) → is_in d ks ≡ true → child_name f d ≡ None) → children_in f ks ≡ []
no_child f [] h = refl
no_child f (k ∷ ks) h =
    let here : child_name f k ≡ None = h k (ap (λ b. b || is_in k ks) ((bytes_eq-Decides k k).1 refl)) in
    let rest : children_in f ks ≡ [] = no_child f ks (λ d i. h d (or_right (bytes_eq d k) (is_in d ks) i)) in
    rw (here, rest) refl

each_none : (f : Text) (ks : List Text) (d : Text) → (length (children_in f ks) == 0) ≡ true → is_in d ks ≡ true → child_name f d ≡ None
each_none f [] d none some = absurd (cc)
each_none f (k ∷ ks) d none some =
    elim (child_name f k) as (λ o. child_name f k ≡ o → (length (cons_option o (children_in f ks)) == 0) ≡ true → child_name f d ≡ None) [
      | Some name ↦ λ _ none. absurd (not_none (length (children_in f ks)) none)
      | None ↦ λ here none.
          elim (bytes_eq d k) as (λ b. bytes_eq d k ≡ b → (b || is_in d ks) ≡ true → child_name f d ≡ None) [
            | true ↦ λ same _. subst (λ (x : Text). child_name f x ≡ None) (sym ((bytes_eq-Decides d k).0 same)) here
            | false ↦ λ _ some. each_none f ks d none some
          ] refl some
    ] refl none
  where
    not_none : (n : ℕ) → (suc n == 0) ≡ true → ⊥
    not_none n h = omega (arith, eqb-true (suc n) 0 h)

in_keys : (m : map_of.FinMap text_cmp (Unit {0})) (d : Text) → map_of.contains_key m d ≡ is_in d (map_of.keys m)
in_keys m d = map_of.contains_key-keys m d ∙ any_same (map_of.keys m)
  where
    any_same : (ks : List Text) → list_any (eq_by_cmp text_cmp d) ks ≡ is_in d ks
    any_same [] = refl
    any_same (k ∷ ks) = ap (λ b. b || list_any (eq_by_cmp text_cmp d) ks) (sym (texts_ties d k)) ∙ ap (λ b. bytes_eq d k || b) (any_same ks)

-- a folder that is there after another was removed was there
was_there : (g : Text) (t : Tree) (d : Text) → has_folder (without_folder g t) d ≡ true → has_folder t d ≡ true
was_there g t d h =
    elim (has_empty_folder t g) as (λ b. map_of.contains_key (cond b (map_of.remove t.folders g) t.folders) d ≡ true → has_folder t d ≡ true) [
      | true ↦ λ h. was_some (eq_by_cmp text_cmp d g) (map_of.get t.folders d) (sym (ap is_some (map_of.get-remove nat_list_cmp_total t.folders g d)) ∙ h)
      | false ↦ λ h. h
    ] h
  where
    was_some : (b : Bool) (o : Option (Unit {0})) → is_some (cond b None o) ≡ true → is_some o ≡ true
    was_some true o h = absurd (cc)
    was_some false o h = h

-- a folder has no child where it has none after one was removed that is none
child_free : (f g : Text) (t : Tree) (d : Text) → child_name f g ≡ None → (length (subfolders_of (without_folder g t) f) == 0) ≡ true → is_in d (map_of.keys t.folders) ≡ true → child_name f d ≡ None
child_free f g t d apart none i =
    elim (bytes_eq d g) as (λ b. bytes_eq d g ≡ b → child_name f d ≡ None) [
      | true ↦ λ same. subst (λ (x : Text). child_name f x ≡ None) (sym ((bytes_eq-Decides d g).0 same)) apart
      | false ↦ λ other.
          each_none f (map_of.keys (without_folder g t).folders) d none
          (sym (in_keys (without_folder g t).folders d) ∙ other_kept g t d (λ same. apart_bools (bytes_eq d g) ((bytes_eq-Decides d g).1 same) other) (in_keys t.folders d ∙ i))
    ] refl
  where
    apart_bools : (b : Bool) → b ≡ true → b ≡ false → ⊥
    apart_bools b t f = absurd (cc)

-- a folder that is not empty stays so where one that is no child of it is removed
less_kept : (f g : Text) (t : Tree) → child_name f g ≡ None → has_empty_folder t f ≡ false → has_empty_folder (without_folder g t) f ≡ false
less_kept f g t apart full =
    false_from_ne_true _ (λ empty.
    let parts = and_parts (has_folder (without_folder g t) f && (length (files_of t f) == 0)) (length (subfolders_of (without_folder g t) f) == 0) empty in
    let first = and_parts (has_folder (without_folder g t) f) (length (files_of t f) == 0) parts.0 in
    let there : has_folder t f ≡ true = was_there g t f first.0 in
    let alone : (length (subfolders_of t f) == 0) ≡ true = ap (λ (xs : List Text). length xs == 0) (no_child f (map_of.keys t.folders) (λ d i. child_free f g t d apart parts.1 i)) in
    true≢false (sym (all_three (has_folder t f) (length (files_of t f) == 0) (length (subfolders_of t f) == 0) there first.1 alone) ∙ full))
  where
    all_three : (a b c : Bool) → a ≡ true → b ≡ true → c ≡ true → (a && b && c) ≡ true
    all_three a b c p q r = rw (p, q, r) refl

removed_or_full : (f : Text) (t : Tree) → has_empty_folder (without_folder f t) f ≡ false
removed_or_full f t =
    elim (has_empty_folder t f) as (λ b. has_empty_folder t f ≡ b → has_empty_folder (record { folders = cond b (map_of.remove t.folders f) t.folders; files = t.files }) f ≡ false) [
      | true ↦ λ _. gone_first (map_of.contains_key (map_of.remove t.folders f) f) _ _
          (ap is_some (map_of.get-remove nat_list_cmp_total t.folders f f) ∙ ap (λ b. is_some (cond b None (map_of.get t.folders f))) (ap is_eq (tied_itself nat_list_cmp_total f)))
      | false ↦ λ e. e
    ] refl
  where
    gone_first : (a b c : Bool) → a ≡ false → (a && b && c) ≡ false
    gone_first a b c e = rw e refl

-- a database lies in no other's folder
pub no_slash : (bytes : Text) → list_all is_table_byte bytes ≡ true → list_any (λ b. b == 47) bytes ≡ false
no_slash [] h = refl
no_slash (b ∷ bs) h =
    let parts = and_parts (is_table_byte b) (list_all is_table_byte bs) h in
    let other : (b == 47) ≡ false = false_from_ne_true _ (λ e. true≢false (sym parts.0 ∙ ap is_table_byte (eqb-true b 47 e))) in
    rw (other, no_slash bs parts.1) refl

pub label_bytes : (label : Text) → is_table_label label ≡ true → list_all is_table_byte label ≡ true
unfolding is_table_label
label_bytes label h = (and_parts (has_label_length label && not (slice_index label 0 == 46)) (list_all is_table_byte label) (and_parts (has_label_length label && not (slice_index label 0 == 46) && list_all is_table_byte label) (is_utf8 label) h).0).1

apart_folders : (x y : Text) → is_table_label y ≡ true → child_name (database_folder x) (database_folder y) ≡ None
apart_folders x y label =
    elim (child_name (database_folder x) (database_folder y)) as (λ o. child_name (database_folder x) (database_folder y) ≡ o → o ≡ None) [
      | None ↦ λ _. refl
      | Some name ↦ λ e.
          let full : database_folder y ≡ database_folder x ++ 47 ∷ name = child_full (database_folder x) (database_folder y) name e in
          let rest : y ≡ x ++ 47 ∷ name = append_cancel_left (codes "sources/") y (x ++ 47 ∷ name) (full ∙ append_assoc (codes "sources/") x (47 ∷ name)) in
          absurd (true≢false (sym (ap (list_any (λ b. b == 47)) rest ∙ list_any-append (λ b. b == 47) x (47 ∷ name) ∙ or_right (list_any (λ b. b == 47) x) true refl) ∙ no_slash y (label_bytes y label)))
    ] refl

full_cleared : (dbs : List Text) (t : Tree) (x : Text) → list_all is_table_label dbs ≡ true → has_empty_folder t (database_folder x) ≡ false → has_empty_folder (cleared dbs t) (database_folder x) ≡ false
full_cleared [] t x labels full = full
full_cleared (db ∷ dbs) t x labels full =
    let parts = and_parts (is_table_label db) (list_all is_table_label dbs) labels in
    full_cleared dbs (without_folder (database_folder db) t) x parts.1 (less_kept (database_folder x) (database_folder db) t (apart_folders x db parts.0) full)

gone_cleared : (dbs : List Text) (t : Tree) (x : Text) → list_all is_table_label dbs ≡ true → is_in x dbs ≡ true → has_empty_folder (cleared dbs t) (database_folder x) ≡ false
gone_cleared [] t x labels some = absurd (cc)
gone_cleared (db ∷ dbs) t x labels some =
    let parts = and_parts (is_table_label db) (list_all is_table_label dbs) labels in
    elim (bytes_eq x db) as (λ b. bytes_eq x db ≡ b → (b || is_in x dbs) ≡ true → has_empty_folder (cleared dbs (without_folder (database_folder db) t)) (database_folder x) ≡ false) [
      | true ↦ λ same _.
          let is : x ≡ db = (bytes_eq-Decides x db).0 same in
          full_cleared dbs (without_folder (database_folder db) t) x parts.1 (subst (λ (y : Text). has_empty_folder (without_folder (database_folder y) t) (database_folder x) ≡ false) is (removed_or_full (database_folder x) t))
      | false ↦ λ _ some. gone_cleared dbs (without_folder (database_folder db) t) x parts.1 some
    ] refl some

-- those that pass a test
passes : (p : Text → Bool) (dbs : List Text) (x : Text) → is_in x (filter p dbs) ≡ true → p x ≡ true
passes p [] x h = absurd (cc)
passes p (db ∷ dbs) x h =
    elim (p db) as (λ b. p db ≡ b → is_in x (cond b (db ∷ filter p dbs) (filter p dbs)) ≡ true → p x ≡ true) [
      | false ↦ λ _ h. passes p dbs x h
      | true ↦ λ good h.
          elim (bytes_eq x db) as (λ b. bytes_eq x db ≡ b → (b || is_in x (filter p dbs)) ≡ true → p x ≡ true) [
            | true ↦ λ same _. ap p ((bytes_eq-Decides x db).0 same) ∙ good
            | false ↦ λ _ h. passes p dbs x h
          ] refl h
    ] refl h

labels_pass : (p q : Text → Bool) (dbs : List Text) → list_all q dbs ≡ true → list_all q (filter p dbs) ≡ true
labels_pass p q [] h = refl
labels_pass p q (db ∷ dbs) h =
    let parts = and_parts (q db) (list_all q dbs) h in
    elim (p db) as (λ b. list_all q (cond b (db ∷ filter p dbs) (filter p dbs)) ≡ true) [
      | true ↦ and_from (q db) (list_all q (filter p dbs)) parts.0 (labels_pass p q dbs parts.1)
      | false ↦ labels_pass p q dbs parts.1
    ]

pub in_folders : (xs : List Text) (x : Text) → is_in (database_folder x) (map database_folder xs) ≡ is_in x xs
in_folders [] x = refl
in_folders (y ∷ ys) x = ap (λ b. b || is_in (database_folder x) (map database_folder ys)) (same_front (codes "sources/") x y) ∙ ap (λ b. bytes_eq x y || b) (in_folders ys x)
  where
    same_front : (front a b : Text) → bytes_eq (front ++ a) (front ++ b) ≡ bytes_eq a b
    same_front front a b = by_case (bytes_eq a b) refl
      where
        by_case : (t : Bool) → bytes_eq a b ≡ t → bytes_eq (front ++ a) (front ++ b) ≡ t
        by_case true e = (bytes_eq-Decides (front ++ a) (front ++ b)).1 (ap (λ (x : Text). front ++ x) ((bytes_eq-Decides a b).0 e))
        by_case false e = false_from_ne_true _ (λ h. true≢false (sym ((bytes_eq-Decides a b).1 (append_cancel_left front a b ((bytes_eq-Decides (front ++ a) (front ++ b)).0 h))) ∙ e))

there_not_gone : (c : CatalogueValue) (dbs : List Text) (x : Text) → is_in x (those_there c dbs) ≡ true → is_in (database_folder x) (map database_folder (those_gone c dbs)) ≡ false
there_not_gone c dbs x h =
    in_folders (those_gone c dbs) x ∙ false_from_ne_true _ (λ g. both_ways (is_there c x) (passes (is_there c) dbs x h) (passes (λ db. not (is_there c db)) dbs x g))
  where
    both_ways : (b : Bool) → b ≡ true → not b ≡ true → ⊥
    both_ways true t n = absurd (cc)
    both_ways false t n = absurd (cc)

-- what stands after all of it
abbrev tree_saved : CatalogueValue → List Text → List Pair → Tree → Tree
tree_saved c dbs pairs t = cleared (those_gone c dbs) (all_saved c pairs (made (those_there c dbs) t))

holds_saved : (c : CatalogueValue) (dbs : List Text) (pairs : List Pair) (t : Tree) → list_all is_table_label dbs ≡ true → HoldsSaved c dbs pairs t (tree_saved c dbs pairs t)
holds_saved c dbs pairs t labels =
    let begun = made (those_there c dbs) t in
    let wrote = all_saved c pairs begun in
    record {
      named = λ p some. ap (λ m. map_of.get m (place_of p)) (cleared_files c (those_gone c dbs) wrote) ∙ get_named c pairs begun p some;
      others = λ q none. ap (λ m. map_of.get m q) (cleared_files c (those_gone c dbs) wrote) ∙ get_other c pairs begun q none ∙ ap (λ m. map_of.get m q) (made_files c (those_there c dbs) t);
      there = λ db some. kept_cleared (those_gone c dbs) wrote (database_folder db) (there_not_gone c dbs db some) (kept_saved c pairs begun (database_folder db) (there_made (those_there c dbs) t db some));
      gone = λ db some. gone_cleared (those_gone c dbs) wrote db (labels_pass (λ x. not (is_there c x)) is_table_label dbs labels) some;
      kept = λ d none h. kept_cleared (those_gone c dbs) wrote d none (kept_saved c pairs begun d (kept_made_all (those_there c dbs) t d h));
    }

-- and the edits come to it
abbrev Reaches : List Edit → (Tree → Tree) → Type 0
Reaches es f = (s : Stored) → (all_edited es s).tree ≡ f s.tree

reaches_made : (dbs : List Text) → Reaches (folders_made dbs) (made dbs)
reaches_made [] = λ s. refl
reaches_made (db ∷ dbs) = λ s. reaches_made dbs (making_folder (database_folder db) s)

reaches_cleared : (dbs : List Text) → Reaches (folders_removed dbs) (cleared dbs)
reaches_cleared [] = λ s. refl
reaches_cleared (db ∷ dbs) = λ s. reaches_cleared dbs (removing_folder (database_folder db) s)

reaches_saved : (c : CatalogueValue) (ps : List Pair) → Reaches (pairs_saved c ps) (all_saved c ps)
reaches_saved c [] = λ s. refl
reaches_saved c (p ∷ ps) = λ s.
    elim (relation_of c p.db p.rel) as (λ o. (all_edited (option_map_or (λ (r : RelationValue). edit.Write (database_folder p.db) (relation_file p.rel) (csv_text (relation_records r))) o (edit.Remove (database_folder p.db) (relation_file p.rel)) ∷ pairs_saved c ps) s).tree
    ≡ all_saved c ps (option_map_or (λ (r : RelationValue). with_file (database_folder p.db) (relation_file p.rel) (csv_text (relation_records r)) s.tree) o (without_file (database_folder p.db) (relation_file p.rel) s.tree))) [
      | None ↦ reaches_saved c ps (removing (database_folder p.db) (relation_file p.rel) s)
      | Some r ↦ reaches_saved c ps (writing (database_folder p.db) (relation_file p.rel) (csv_text (relation_records r)) s)
    ]

edited_append : (es fs : List Edit) (s : Stored) → all_edited (es ++ fs) s ≡ all_edited fs (all_edited es s)
edited_append [] fs s = refl
edited_append (e ∷ es) fs s = edited_append es fs (edited e s)

reaches_both : (es fs : List Edit) (f g : Tree → Tree) → Reaches es f → Reaches fs g → Reaches (es ++ fs) (λ t. g (f t))
reaches_both es fs f g first later = λ s. ap (λ (x : Stored). x.tree) (edited_append es fs s) ∙ later (all_edited es s) ∙ ap g (first s)

reaches_all : (c : CatalogueValue) (dbs : List Text) (pairs : List Pair) → Reaches (saved c dbs pairs) (tree_saved c dbs pairs)
reaches_all c dbs pairs =
    reaches_both (folders_made (those_there c dbs) ++ pairs_saved c pairs) (folders_removed (those_gone c dbs)) (λ t. all_saved c pairs (made (those_there c dbs) t)) (cleared (those_gone c dbs))
    (reaches_both (folders_made (those_there c dbs)) (pairs_saved c pairs) (made (those_there c dbs)) (all_saved c pairs) (reaches_made (those_there c dbs)) (reaches_saved c pairs)) (reaches_cleared (those_gone c dbs))

pub all_held : (c : CatalogueValue) (dbs : List Text) (pairs : List Pair) (old new : StoreState) (o : SinkState) (t u : Tree) → old.tree ≡ Some t → new.tree ≡ Some u → list_all is_table_label dbs ≡ true
    → contents (world_of new o) ≡ after (Replace (saved c dbs pairs)) (contents (world_of old o)) → HoldsSaved c dbs pairs t u
unfolding contents
all_held c dbs pairs old new o t u was is labels did =
    let s : Stored = record { tree = t; writes = old.writes } in
    let last : Stored = all_edited (saved c dbs pairs) s in
    let stored : stored_of new.tree new.writes ≡ Some last =
    ap (λ (x : Contents). x.stored) did ∙ ap (λ (tree : Option Tree). option_map (all_edited (saved c dbs pairs)) (stored_of tree old.writes)) was in
    let same : tree_saved c dbs pairs t ≡ u = ap (λ (x : Option Tree). unwrap_or x u) (ap Some (sym (reaches_all c dbs pairs s)) ∙ sym (told_tree new.tree new.writes last stored) ∙ is) in
    subst (HoldsSaved c dbs pairs t) same (holds_saved c dbs pairs t labels)

pub nothing_held : SinkState
nothing_held = record { held = None; faults = 0 }
