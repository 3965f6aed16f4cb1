-- What the sources hold while changes are made and saved.
use Rattle.std.proofs.Common.{◌≡◌, ◌≢◌, ◌∷◌, ◌++◌, ◌∙◌, ◌==◌, [], ℕ, Bool, true, false, cond, not, ◌&&◌, ◌||◌, List, Option, Some, None, is_some, refl, sym, ap, subst, length, append_assoc, arith, ◌≤◌}
use Rattle.std.specs.Prelude.{codes, option_map, option_and_then, unwrap_or, Ok, IsTrue}
use Rattle.std.specs.FinMap as map_of
use Rattle.std.specs.List.{AllByRecursion, list_any, list_all}
use Rattle.std.specs.Option.{option_map_or}
use Rattle.std.specs.Ordering.{eq_by_cmp}
use Rattle.std.specs.declared.cmp.Ordering.TheVariants.{Less, Equal, Greater}
use Rattle.std.proofs.lemmas.Bool.{and_parts, or_right, true≢false, false_from_ne_true, or_parts, and_from, or_left, not_from_false}
use Rattle.std.proofs.lemmas.List.{append_cancel_left}
use Rattle.std.proofs.lemmas.List.Folds.{list_any-append}
use Rattle.ss_text.specs.Texts.{Text, Row, text_cmp, text_eq, is_in}
use Rattle.ss_text.specs.Label.{is_table_label}
use Rattle.ss_text.specs.Ascending.{by_order, with_element, ascending}
use Rattle.ss_text.proofs.KeyLemmas.{text_order}
use Rattle.ss_text.proofs.SetLemmas.{same_ascending}
use Rattle.outside.specs.Tree.{Tree, Place, place_cmp, file_at, files_of, child_name, folder_path, has_folder, has_empty_folder}
use Rattle.outside.specs.Whole.{IsWhole}
use Rattle.outside.specs.WholeLaw.{is_eq_true, place_exact}
use Rattle.outside.proofs.PlaceLemmas.{place_total}
use Rattle.outside.proofs.TreeLemmas.{child_full, kept_made, write_broke_off}
use Rattle.outside.specs.Edits.{all_edited}
use Rattle.outside.specs.declared.edit.Edit.{Edit}
use Rattle.outside.specs.declared.edit.Edit.TheVariants as edit
use Rattle.outside.specs.Effects.{Effect, Write, Remove, Replace, Print, Stored, contents}
use Rattle.schema_model.specs.declared.pair.Pair.{Pair}
use Rattle.schema_model.specs.declared.change.Change.{Change}
use Rattle.schema_model.specs.Catalogue.{RelationValue, DatabaseValue, CatalogueValue, relation_value, relation_name, database_name, relation_in, database_of, relation_of}
use Rattle.schema_model.specs.Changes.{after, after_all, is_well_formed}
use Rattle.schema_model.specs.Pairs.{pair}
use Rattle.schema_model.specs.Refusals.{fault, group_fault}
use Rattle.schema_model.specs.Sound.{IsRelation, IsDatabase, IsSound}
use Rattle.schema_model.proofs.PairOrder.{pair_same}
use Rattle.schema_model.proofs.SoundAfter.{sound_after}
use Rattle.schema_model.proofs.GroupLemmas.{first_none}
use Rattle.csv_catalog.specs.FileFaults.{header_of, rows_of}
use Rattle.csv_catalog.specs.Loaded.{loaded, database_folder, is_relation_file, label_of}
use Rattle.csv_catalog.specs.RecordText.{csv_text, relation_records, has_field}
use Rattle.csv_catalog.specs.Records.{records_of}
use Rattle.csv_catalog.specs.Saved.{relation_file, is_there, those_there, those_gone, folders_made, folders_removed, pair_saved, pairs_saved, saved}
use Rattle.csv_catalog.specs.SavedTree.{place_of, bytes_of, is_place_among, HoldsSaved}
use Rattle.csv_catalog.proofs.RoundTrip.{reads_back}
use Rattle.csv_catalog.proofs.SavedTreeLemmas.{all_held, nothing_held, in_folders}
use Rattle.view_folder.specs.Files.{view_folder}
use Rattle.view_folder.proofs.FolderLemmas.{there}
use Rattle.view_session.specs.Named.{Names, named_relations, named_databases, with_change, with_changes}
use Rattle.view_session.specs.Session.{SessionState, moved, committed}
use Rattle.view_session.proofs.ComingLemmas.{pair_total}
use Rattle.source_law.specs.Counted.{tree_by, tree_after}
use Rattle.source_law.specs.Synced.{Synced, unsaved, synced, saving, HeldOnlyRelations, ReadsBack, SourcesHold}
use Rattle.source_law.proofs.NamedLemmas.{same_text, in_kept, found_in}
use Rattle.source_law.proofs.TreeLemmas.{label_slash, stands_empty, none_in_folder}
use Rattle.source_law.proofs.FileLemmas.{file_parts, file_legal, read_at}
use Rattle.source_law.proofs.LoadedLemmas.{there_loaded, relation_loaded, sound_loaded}
use Rattle.source_law.proofs.ReadLemmas.{loads}
use Rattle.source_law.proofs.ChangeLemmas.{relation_stays, database_stays, legal_there, named_legal}
use Rattle.source_law.proofs.AfterLemmas.{EditMakesNot, MakesNot, tree_of_edits, whole_after, was_there, no_path}

-- saving makes no folder but those of databases that are there
slash_in : (xs ys : Text) → list_any (λ b. b == 47) (xs ++ 47 ∷ ys) ≡ true
slash_in xs ys = list_any-append (λ b. b == 47) xs (47 ∷ ys) ∙ or_right (list_any (λ b. b == 47) xs) true refl

pub not_slashed : (x xs ys : Text) → is_table_label x ≡ true → x ≡ xs ++ 47 ∷ ys → ⊥
not_slashed x xs ys legal e = true≢false (sym (ap (list_any (λ b. b == 47)) e ∙ slash_in xs ys) ∙ label_slash x legal)

module _ (c : CatalogueValue) (s : IsSound c) (d : Text) (apart : (x : Text) → is_there c x ≡ true → is_in d (folder_path (database_folder x)) ≡ false) where
  makes_made : (dbs : List Text) → AllByRecursion (EditMakesNot d) (folders_made (those_there c dbs))
  makes_made [] = tt
  makes_made (db ∷ dbs) = by_test (is_there c db) refl (makes_made dbs)
    where
      by_test : (b : Bool) → is_there c db ≡ b → AllByRecursion (EditMakesNot d) (folders_made (those_there c dbs)) → AllByRecursion (EditMakesNot d) (folders_made (cond b (db ∷ those_there c dbs) (those_there c dbs)))
      by_test true e rest = (apart db e, rest)
      by_test false e rest = rest

  makes_pair : (p : Pair) → EditMakesNot d (pair_saved c p)
  makes_pair p = by_relation (relation_of c p.db p.rel) refl
    where
      some_database : (o : Option DatabaseValue) (r : RelationValue) → option_and_then (relation_in p.rel) o ≡ Some r → is_some o ≡ true
      some_database None r e = absurd (cc e)
      some_database (Some x) r e = refl

      by_relation : (o : Option RelationValue) → relation_of c p.db p.rel ≡ o → EditMakesNot d (option_map_or (λ (r : RelationValue). edit.Write (database_folder p.db) (relation_file p.rel) (csv_text (relation_records r))) o (edit.Remove (database_folder p.db) (relation_file p.rel)))
      by_relation None e = tt
      by_relation (Some r) e = apart p.db (some_database (database_of c p.db) r e)

  makes_pairs : (ps : List Pair) → AllByRecursion (EditMakesNot d) (pairs_saved c ps)
  makes_pairs [] = tt
  makes_pairs (p ∷ ps) = (makes_pair p, makes_pairs ps)

  makes_removed : (dbs : List Text) → AllByRecursion (EditMakesNot d) (folders_removed dbs)
  makes_removed [] = tt
  makes_removed (db ∷ dbs) = (tt, makes_removed dbs)

  all_append : (es fs : List Edit) → AllByRecursion (EditMakesNot d) es → AllByRecursion (EditMakesNot d) fs → AllByRecursion (EditMakesNot d) (es ++ fs)
  all_append [] fs h k = k
  all_append (e ∷ es) fs h k = (h.0, all_append es fs h.1 k)

  makes_none : (dbs : List Text) (ps : List Pair) → AllByRecursion (EditMakesNot d) (saved c dbs ps)
  makes_none dbs ps =
      all_append (folders_made (those_there c dbs) ++ pairs_saved c ps) (folders_removed (those_gone c dbs)) (all_append (folders_made (those_there c dbs)) (pairs_saved c ps) (makes_made dbs) (makes_pairs ps)) (makes_removed (those_gone c dbs))

-- and it leaves what is named as the catalogue has it
module _ (c : CatalogueValue) where
  pub tree_saved : (dbs : List Text) (ps : List Pair) (u : Tree) → list_all is_table_label dbs ≡ true → HoldsSaved c dbs ps u (tree_after (Replace (saved c dbs ps) ∷ []) u)
  unfolding contents
  tree_saved dbs ps u legal =
      let s : Stored = record { tree = u; writes = 0 } in
      let l : Stored = all_edited (saved c dbs ps) s in
      subst (HoldsSaved c dbs ps u) (tree_of_edits (saved c dbs ps) s)
      (all_held c dbs ps (record { tree = Some u; writes = 0; read_faults = 0; write_faults = 0 }) (record { tree = Some l.tree; writes = l.writes; read_faults = 0; write_faults = 0 }) nothing_held u l.tree refl refl legal refl)

-- the sources at a sync: t and c0 are the tree and the catalogue at first
pub record SourcesKept (t : Tree) (c0 : CatalogueValue) (s : Synced) (u : Tree) : Type 0 where
  pub whole : IsWhole u
  pub sound : IsSound s.catalogue
  pub named : (p : Pair) → is_place_among s.relations (place_of p) ≡ true → map_of.get u.files (place_of p) ≡ bytes_of s.catalogue p
  pub stay : (db name : Text) → is_place_among s.relations (database_folder db, name) ≡ false → file_at u (database_folder db) name ≡ file_at t (database_folder db) name
  pub unmoved : (p : Pair) → is_place_among s.relations (place_of p) ≡ false → relation_of s.catalogue p.db p.rel ≡ relation_of c0 p.db p.rel
  pub there : (db : Text) → is_there s.catalogue db ≡ true → has_folder u (database_folder db) ≡ true
  pub gone : (db : Text) → is_table_label db ≡ true → is_there s.catalogue db ≡ false → (is_in db s.databases ≡ true → HeldOnlyRelations t db) → has_folder u (database_folder db) ≡ false
  pub inside : (db d name : Text) → child_name (database_folder db) d ≡ Some name → has_folder u d ≡ true → has_folder t d ≡ true

-- a session between two syncs
pub record Pending (s : Synced) (n : SessionState) : Type 0 where
  pub sound : IsSound n.catalogue
  pub relations : (p : Pair) → is_place_among n.changed.relations (place_of p) ≡ false → relation_of n.catalogue p.db p.rel ≡ relation_of s.catalogue p.db p.rel
  pub databases : (db : Text) → is_in db n.changed.databases ≡ false → is_there n.catalogue db ≡ is_there s.catalogue db
  pub labels : list_all is_table_label n.changed.databases ≡ true

-- at first
pub kept_first : (t : Tree) (c : CatalogueValue) → IsWhole t → loaded t ≡ Ok c → SourcesKept t c (unsaved c) t
kept_first t c whole h = record {
  whole = whole;
  sound = sound_loaded t c h;
  named = λ p none. absurd (cc none);
  stay = λ db name none. refl;
  unmoved = λ p none. refl;
  there = λ db is. sym (there_loaded t c db h (legal_there c db (sound_loaded t c h) is)) ∙ is;
  gone = λ db legal none held. sym (there_loaded t c db h legal) ∙ none;
  inside = λ db d name is here. here;
}

pub pending_first : (s : Synced) (n : SessionState) → IsSound n.catalogue → n.catalogue ≡ s.catalogue → n.changed.databases ≡ [] → Pending s n
pending_first s n sound same none = record {
  sound = sound;
  relations = λ p _. ap (λ (c : CatalogueValue). relation_of c p.db p.rel) same;
  databases = λ db _. ap (λ (c : CatalogueValue). is_there c db) same;
  labels = ap (list_all is_table_label) none;
}

-- a change

all_legal : (xs ys : List Text) → list_all is_table_label xs ≡ true → list_all is_table_label ys ≡ true → list_all is_table_label (xs ++ ys) ≡ true
all_legal [] ys h k = k
all_legal (x ∷ xs) ys h k = let parts = and_parts (is_table_label x) (list_all is_table_label xs) h in rw (parts.0, all_legal xs ys parts.1 k) refl

legal_with : (x : Text) (ys : List Text) → is_table_label x ≡ true → list_all is_table_label ys ≡ true → list_all is_table_label (with_element text_cmp x ys) ≡ true
legal_with x [] h k = rw h refl
legal_with x (y ∷ ys) h k =
    let parts = and_parts (is_table_label y) (list_all is_table_label ys) k in
    elim (text_cmp x y) as (λ o. list_all is_table_label (by_order o (x ∷ y ∷ ys) (y ∷ ys) (y ∷ with_element text_cmp x ys)) ≡ true)
    [ Less ↦ rw (h, k) refl | Equal ↦ k | Greater ↦ rw (parts.0, legal_with x ys h parts.1) refl ]

legal_ascending : (xs : List Text) → list_all is_table_label xs ≡ true → list_all is_table_label (ascending text_cmp xs) ≡ true
legal_ascending [] h = refl
legal_ascending (x ∷ xs) h = let parts = and_parts (is_table_label x) (list_all is_table_label xs) h in legal_with x (ascending text_cmp xs) parts.0 (legal_ascending xs parts.1)

-- a session whose catalogue is another, with more names
abbrev pub named_after : SessionState → CatalogueValue → Names → SessionState
named_after n c names = record n { catalogue = c; changed = names }

pending_named : (s : Synced) (n : SessionState) (g : Change) → IsTrue (is_well_formed g) → fault n.catalogue g ≡ None → Pending s n → Pending s (named_after n (after n.catalogue g) (with_change n.changed n.catalogue g))
pending_named s n g formed none p =
    let pairs : List Pair = n.changed.relations ++ named_relations n.catalogue g in
    let dbs : List Text = n.changed.databases ++ named_databases g in
    record {
      sound = sound_after n.catalogue g p.sound formed none;
      relations = λ q out.
          let parts = or_parts _ _ (sym (list_any-append (λ (r : Pair). eq_by_cmp place_cmp (place_of q) (place_of r)) n.changed.relations (named_relations n.catalogue g)) ∙ (same_ascending pair_total pair_same pairs).same (λ (r : Pair). eq_by_cmp place_cmp (place_of q) (place_of r)) ∙ out) in
          relation_stays n.catalogue q g none parts.1 ∙ p.relations q parts.0;
      databases = λ db out.
          let parts = or_parts _ _ (sym (list_any-append (text_eq db) n.changed.databases (named_databases g)) ∙ (same_ascending text_order.total text_order.same dbs).same (text_eq db) ∙ out) in
          database_stays n.catalogue db g none parts.1 ∙ p.databases db parts.0;
      labels = legal_ascending dbs (all_legal n.changed.databases (named_databases g) p.labels (named_legal n.catalogue g p.sound none));
    }

pub pending_change : (s : Synced) (n : SessionState) (g : Change) → IsTrue (is_well_formed g) → fault n.catalogue g ≡ None → Pending s n → Pending s (moved n g)
pending_change s n g formed none p =
    let m = pending_named s n g formed none p in
    record { sound = m.sound; relations = m.relations; databases = m.databases; labels = m.labels }

-- changes, one after another

pending_changes : (s : Synced) (n : SessionState) (gs : List Change) → AllByRecursion (λ g. IsTrue (is_well_formed g)) gs → group_fault n.catalogue gs ≡ None → Pending s n
    → Pending s (named_after n (after_all n.catalogue gs) (with_changes n.changed n.catalogue gs))
pending_changes s n [] formed none p = record { sound = p.sound; relations = p.relations; databases = p.databases; labels = p.labels }
pending_changes s n (g ∷ gs) formed none p =
    let parts = first_none (fault n.catalogue g) (group_fault (after n.catalogue g) gs) none in
    let m = pending_changes s (named_after n (after n.catalogue g) (with_change n.changed n.catalogue g)) gs formed.1 parts.1 (pending_named s n g formed.0 parts.0 p) in
    record { sound = m.sound; relations = m.relations; databases = m.databases; labels = m.labels }

-- and those of a group, all at once
pub pending_committed : (s : Synced) (n : SessionState) → AllByRecursion (λ g. IsTrue (is_well_formed g)) (unwrap_or n.held []) → group_fault n.catalogue (unwrap_or n.held []) ≡ None → Pending s n → Pending s (committed n)
pending_committed s n formed none p =
    let m = pending_changes s n (unwrap_or n.held []) formed none p in
    record { sound = m.sound; relations = m.relations; databases = m.databases; labels = m.labels }

-- a place among those of pairs is that of one
among_is : (ps : List Pair) (q : Place) → is_place_among ps q ≡ true → (p : Pair) × (q ≡ place_of p)
among_is [] q h = absurd (cc h)
among_is (p ∷ ps) q h =
    elim (eq_by_cmp place_cmp q (place_of p)) as (λ b. eq_by_cmp place_cmp q (place_of p) ≡ b → (b || is_place_among ps q) ≡ true → (r : Pair) × (q ≡ place_of r)) [
      | true ↦ λ e _. (p, place_exact q (place_of p) (is_eq_true _ e))
      | false ↦ λ _ h. among_is ps q h
    ] refl h

-- a sync
module _ (t : Tree) (c0 : CatalogueValue) (first : loaded t ≡ Ok c0) (whole : IsWhole t) (s : Synced) (u : Tree) (n : SessionState) (k : SourcesKept t c0 s u) (p : Pending s n) where
  abbrev c : CatalogueValue
  c = n.catalogue

  abbrev dbs : List Text
  dbs = n.changed.databases

  abbrev pairs : List Pair
  pairs = n.changed.relations

  abbrev new : Synced
  new = synced n s

  abbrev v : Tree
  v = tree_after (saving n) u

  held : HoldsSaved c dbs pairs u v
  held = tree_saved c dbs pairs u p.labels

  among_new : (q : Place) → is_place_among new.relations q ≡ (is_place_among s.relations q || is_place_among pairs q)
  among_new q = list_any-append (λ (r : Pair). eq_by_cmp place_cmp q (place_of r)) s.relations pairs

  in_new : (db : Text) → is_in db new.databases ≡ (is_in db s.databases || is_in db dbs)
  in_new db = list_any-append (text_eq db) s.databases dbs

  neither : (q : Place) → is_place_among new.relations q ≡ false → (is_place_among s.relations q ≡ false) × (is_place_among pairs q ≡ false)
  neither q h = or_parts _ _ (sym (among_new q) ∙ h)

  stay_new : (db name : Text) → is_place_among new.relations (database_folder db, name) ≡ false → file_at v (database_folder db) name ≡ file_at t (database_folder db) name
  stay_new db name h =
      let parts = neither (database_folder db, name) h in
      held.others (database_folder db, name) parts.1 ∙ k.stay db name parts.0

  named_new : (q : Pair) → is_place_among new.relations (place_of q) ≡ true → map_of.get v.files (place_of q) ≡ bytes_of c q
  named_new q h = by_case (is_place_among pairs (place_of q)) refl
    where
      either : (a b : Bool) → (a || b) ≡ true → b ≡ false → a ≡ true
      either true b h e = refl
      either false b h e = absurd (true≢false (sym h ∙ e))

      by_case : (b : Bool) → is_place_among pairs (place_of q) ≡ b → map_of.get v.files (place_of q) ≡ bytes_of c q
      by_case true e = held.named q e
      by_case false e =
          held.others (place_of q) e
          ∙ k.named q (either (is_place_among s.relations (place_of q)) (is_place_among pairs (place_of q)) (sym (among_new (place_of q)) ∙ h) e)
          ∙ ap (option_map (λ (r : RelationValue). csv_text (relation_records r))) (sym (p.relations q e))

  unmoved_new : (q : Pair) → is_place_among new.relations (place_of q) ≡ false → relation_of c q.db q.rel ≡ relation_of c0 q.db q.rel
  unmoved_new q h = let parts = neither (place_of q) h in p.relations q parts.1 ∙ k.unmoved q parts.0

  none_of : (a b : Bool) → a ≡ true → (not a && b) ≡ false
  none_of a b e = rw e refl

  there_new : (db : Text) → is_there c db ≡ true → has_folder v (database_folder db) ≡ true
  there_new db is = by_case (is_in db dbs) refl
    where
      by_case : (b : Bool) → is_in db dbs ≡ b → has_folder v (database_folder db) ≡ true
      by_case true e = held.there db (in_kept (is_there c) db dbs ∙ and_from (is_there c db) (is_in db dbs) is e)
      by_case false e =
          held.kept (database_folder db) (in_folders (those_gone c dbs) db ∙ in_kept (λ x. not (is_there c x)) db dbs ∙ none_of (is_there c db) (is_in db dbs) is)
          (k.there db (sym (p.databases db e) ∙ is))

  -- what is no folder of a database that is there was not made
  not_made : (d : Text) → ((x : Text) → is_table_label x ≡ true → is_there c x ≡ true → is_in d (folder_path (database_folder x)) ≡ false) → has_folder v d ≡ true → has_folder u d ≡ true
  not_made d apart h = was_there d (saving n) u (makes_none c p.sound d (λ x is. apart x (legal_there c x p.sound is) is) dbs pairs, tt) h

  inside_new : (db d name : Text) → child_name (database_folder db) d ≡ Some name → has_folder v d ≡ true → has_folder t d ≡ true
  inside_new db d name is h = k.inside db d name is (not_made d (λ x legal _. no_path d (database_folder x) (λ e. slashed x [] legal (sym e ∙ sym (none_behind d))) (λ rest e. slashed x (47 ∷ rest) legal e)) h)
    where
      none_behind : (xs : Text) → xs ++ [] ≡ xs
      none_behind [] = refl
      none_behind (x ∷ xs) = ap (λ ys. x ∷ ys) (none_behind xs)

      slashed : (x rest : Text) → is_table_label x ≡ true → database_folder x ≡ d ++ rest → ⊥
      slashed x rest legal e =
          let full : d ≡ database_folder db ++ 47 ∷ name = child_full (database_folder db) d name is in
          let all : database_folder x ≡ codes "sources/" ++ (db ++ 47 ∷ (name ++ rest)) =
          e ∙ ap (λ (y : Text). y ++ rest) full ∙ append_assoc (database_folder db) (47 ∷ name) rest ∙ append_assoc (codes "sources/") db (47 ∷ (name ++ rest)) in
          not_slashed x db (name ++ rest) legal (append_cancel_left (codes "sources/") x (db ++ 47 ∷ (name ++ rest)) all)

  not_back : (db : Text) → is_there c db ≡ false → has_folder v (database_folder db) ≡ true → has_folder u (database_folder db) ≡ true
  not_back db none h = not_made (database_folder db) (λ x legal is. no_path (database_folder db) (database_folder x)
      (λ e. true≢false (sym is ∙ ap (is_there c) (sym (append_cancel_left (codes "sources/") db x e)) ∙ none))
      (λ rest e. not_slashed x db rest legal (append_cancel_left (codes "sources/") x (db ++ 47 ∷ rest) (e ∙ append_assoc (codes "sources/") db (47 ∷ rest))))) h

  -- no relation of a database that is gone
  no_relation : (db rel : Text) → is_there c db ≡ false → relation_of c db rel ≡ None
  no_relation db rel h = by_found (database_of c db) h
    where
      by_found : (o : Option DatabaseValue) → is_some o ≡ false → option_and_then (relation_in rel) o ≡ None
      by_found None h = refl
      by_found (Some d) h = absurd (cc h)

  -- its folder holds no file
  no_file : (db name : Text) → is_table_label db ≡ true → is_there c db ≡ false → HeldOnlyRelations t db → file_at v (database_folder db) name ≡ None
  no_file db name legal none only = by_case (is_place_among new.relations (database_folder db, name)) refl
    where
      saved_away : (r : Pair) → (database_folder db, name) ≡ place_of r → is_place_among new.relations (database_folder db, name) ≡ true → file_at v (database_folder db) name ≡ None
      saved_away r is e =
          let same : r.db ≡ db = append_cancel_left (codes "sources/") r.db db (ap (λ (q : Place). q.0) (sym is)) in
          ap (λ (q : Place). map_of.get v.files q) is ∙ named_new r (ap (is_place_among new.relations) (sym is) ∙ e)
          ∙ ap (option_map (λ (x : RelationValue). csv_text (relation_records x))) (ap (λ (x : Text). relation_of c x r.rel) same ∙ no_relation db r.rel none)

      listed : (names : List Text) → list_all is_relation_file names ≡ true → is_in name names ≡ true → is_relation_file name ≡ true
      listed [] h i = absurd (cc i)
      listed (m ∷ ms) h i =
          let parts = and_parts (is_relation_file m) (list_all is_relation_file ms) h in
          elim (text_eq name m) as (λ b. text_eq name m ≡ b → (b || is_in name ms) ≡ true → is_relation_file name ≡ true) [
            | true ↦ λ e _. ap is_relation_file (same_text name m e) ∙ parts.0
            | false ↦ λ _ i. listed ms parts.1 i
          ] refl i

      none_some : {A : Type 0} (x : A) → None ≡ Some x → ⊥
      none_some x e = absurd (cc e)

      was_none : is_place_among new.relations (database_folder db, name) ≡ false → (o : Option (List ℕ)) → file_at t (database_folder db) name ≡ o → o ≡ None
      was_none out None e = refl
      was_none out (Some bytes) e =
          let test : is_relation_file name ≡ true = listed (files_of t (database_folder db)) only.files (there t (database_folder db) name ∙ ap is_some e) in
          let rel : Text = label_of name in
          let is : name ≡ relation_file rel = file_parts name test in
          let read : relation_of c0 db rel ≡ Some (relation_value rel (header_of (records_of bytes)) (rows_of (records_of bytes))) =
          relation_loaded t c0 db rel first whole legal (file_legal name test) ∙ ap (option_map (λ (b : List ℕ). relation_value rel (header_of (records_of b)) (rows_of (records_of b)))) (ap (file_at t (database_folder db)) (sym is) ∙ e) in
          absurd (none_some _ (sym (no_relation db rel none) ∙ unmoved_new (pair db rel) (ap (λ (x : Text). is_place_among new.relations (database_folder db, x)) (sym is) ∙ out) ∙ read))

      by_case : (b : Bool) → is_place_among new.relations (database_folder db, name) ≡ b → file_at v (database_folder db) name ≡ None
      by_case true e = let one = among_is new.relations (database_folder db, name) e in saved_away one.0 one.1 e
      by_case false e = stay_new db name e ∙ was_none e (file_at t (database_folder db) name) refl

  no_child : (db d : Text) → HeldOnlyRelations t db → has_folder v d ≡ true → child_name (database_folder db) d ≡ None
  no_child db d only h = by_child (child_name (database_folder db) d) refl
    where
      by_child : (o : Option Text) → child_name (database_folder db) d ≡ o → o ≡ None
      by_child None e = refl
      by_child (Some name) e = sym e ∙ none_in_folder t (database_folder db) d only.folders (inside_new db d name e h)

  gone_new : (db : Text) → is_table_label db ≡ true → is_there c db ≡ false → (is_in db new.databases ≡ true → HeldOnlyRelations t db) → has_folder v (database_folder db) ≡ false
  gone_new db legal none only = by_case (is_in db dbs) refl
    where
      by_case : (b : Bool) → is_in db dbs ≡ b → has_folder v (database_folder db) ≡ false
      by_case true e =
          let held_only = only (in_new db ∙ or_right (is_in db s.databases) (is_in db dbs) e) in
          let full : has_empty_folder v (database_folder db) ≡ false = held.gone db (in_kept (λ x. not (is_there c x)) db dbs ∙ and_from (not (is_there c db)) (is_in db dbs) (not_from_false (is_there c db) none) e) in
          false_from_ne_true _ (λ here. true≢false (sym (stands_empty v (database_folder db) here (λ name. no_file db name legal none held_only) (λ d h. no_child db d held_only h)) ∙ full))
      by_case false e =
          false_from_ne_true _ (λ here. true≢false (sym (not_back db none here)
          ∙ k.gone db legal (sym (p.databases db e) ∙ none) (λ i. only (in_new db ∙ or_left (is_in db s.databases) (is_in db dbs) i))))

  pub kept_synced : SourcesKept t c0 new v
  kept_synced = record {
    whole = whole_after (saving n) u k.whole;
    sound = p.sound;
    named = named_new;
    stay = stay_new;
    unmoved = unmoved_new;
    there = there_new;
    gone = gone_new;
    inside = inside_new;
  }

-- effects on a view's folder
abbrev pub InView : Text → Effect → Type 0
InView x (Write folder file bytes) = folder ≡ view_folder x
InView x (Remove folder file) = folder ≡ view_folder x
InView x (Replace edits) = ⊥
InView x (Print bytes) = Unit {0}

abbrev first_byte : Text → ℕ
first_byte [] = 0
first_byte (b ∷ bs) = b

view_apart : (x y : Text) → view_folder x ≡ database_folder y → ⊥
view_apart x y e = let same : 118 ≡ 115 = ap first_byte e in absurd (omega (arith, same))

module _ (x db : Text) where
  removed_other : (f name : Text) (t : Tree) (q : Place) → q ≢ (f, name) → map_of.get (map_of.remove t.files (f, name)) q ≡ map_of.get t.files q
  removed_other f name t q ne =
      map_of.get-remove place_total t.files (f, name) q
      ∙ ap (λ b. cond b None (map_of.get t.files q)) (false_from_ne_true _ (λ e. ne (place_exact q (f, name) (is_eq_true _ e))))

  view_files : (es : List Effect) (t : Tree) (name : Text) → AllByRecursion (InView x) es → file_at (tree_after es t) (database_folder db) name ≡ file_at t (database_folder db) name
  view_files [] t name h = refl
  view_files (e ∷ es) t name h = view_files es (tree_by e t) name h.1 ∙ one e h.0
    where
      other : (f file : Text) → f ≡ view_folder x → ◌≢◌ {A = Place} (database_folder db, name) (f, file)
      other f file is e = view_apart x db (sym is ∙ sym (ap (λ (q : Place). q.0) e))

      one : (e : Effect) → InView x e → file_at (tree_by e t) (database_folder db) name ≡ file_at t (database_folder db) name
      one (Write folder file bytes) is = (write_broke_off folder file bytes t).others (database_folder db, name) (other folder file is)
      one (Remove folder file) is = removed_other folder file t (database_folder db, name) (other folder file is)
      one (Replace edits) is = absurd is
      one (Print bytes) is = refl

  view_keeps : (es : List Effect) (t : Tree) (d : Text) → AllByRecursion (InView x) es → has_folder t d ≡ true → has_folder (tree_after es t) d ≡ true
  view_keeps [] t d h here = here
  view_keeps (e ∷ es) t d h here = view_keeps es (tree_by e t) d h.1 (one e h.0)
    where
      one : (e : Effect) → InView x e → has_folder (tree_by e t) d ≡ true
      one (Write folder file bytes) is = kept_made (folder_path folder) t.folders d here
      one (Remove folder file) is = here
      one (Replace edits) is = absurd is
      one (Print bytes) is = here

  view_makes : (es : List Effect) (rest : Text) → AllByRecursion (InView x) es → AllByRecursion (MakesNot (database_folder db ++ rest)) es
  view_makes [] rest h = tt
  view_makes (e ∷ es) rest h = (one e h.0, view_makes es rest h.1)
    where
      heads : (r : Text) → view_folder x ≡ (database_folder db ++ rest) ++ r → ⊥
      heads r e = let same : 118 ≡ 115 = ap first_byte e in absurd (omega (arith, same))

      none_behind : (xs : Text) → xs ++ [] ≡ xs
      none_behind [] = refl
      none_behind (x ∷ xs) = ap (λ ys. x ∷ ys) (none_behind xs)

      one : (e : Effect) → InView x e → MakesNot (database_folder db ++ rest) e
      one (Write folder file bytes) is = ap (λ (f : Text). is_in (database_folder db ++ rest) (folder_path f)) is ∙ no_path (database_folder db ++ rest) (view_folder x) (λ e. heads [] (sym e ∙ sym (none_behind (database_folder db ++ rest)))) (λ r e. heads (47 ∷ r) e)
      one (Remove folder file) is = tt
      one (Replace edits) is = absurd is
      one (Print bytes) is = tt

none_more : (xs : Text) → xs ++ [] ≡ xs
none_more [] = refl
none_more (x ∷ xs) = ap (λ ys. x ∷ ys) (none_more xs)

-- they leave the sources as they are
pub kept_beside : (t : Tree) (c0 : CatalogueValue) (s : Synced) (u : Tree) (x : Text) (es : List Effect) → AllByRecursion (InView x) es → SourcesKept t c0 s u → SourcesKept t c0 s (tree_after es u)
kept_beside t c0 s u x es view k = record {
  whole = whole_after es u k.whole;
  sound = k.sound;
  named = λ p is. view_files x p.db es u (relation_file p.rel) view ∙ k.named p is;
  stay = λ db name none. view_files x db es u name view ∙ k.stay db name none;
  unmoved = k.unmoved;
  there = λ db is. view_keeps x db es u (database_folder db) view (k.there db is);
  gone = λ db legal none only.
      false_from_ne_true _ (λ here. true≢false (sym (was_there (database_folder db) es u (subst (λ (d : Text). AllByRecursion (MakesNot d) es) (none_more (database_folder db)) (view_makes x db es [] view)) here) ∙ k.gone db legal none only));
  inside = λ db d name is here. k.inside db d name is (was_there d es u (subst (λ (y : Text). AllByRecursion (MakesNot y) es) (sym (child_full (database_folder db) d name is)) (view_makes x db es (47 ∷ name) view)) here);
}

-- what was saved is loaded again
field_some : (row : Row) (n : ℕ) → length row ≡ n → 1 ≤ n → has_field row ≡ true
field_some [] n e h = absurd (omega (arith, e, h))
field_some (x ∷ xs) n e h = refl

rows_have : (rows : List Row) (n : ℕ) → 1 ≤ n → AllByRecursion (λ (row : Row). length row ≡ n) rows → list_all has_field rows ≡ true
rows_have [] n h each = refl
rows_have (row ∷ rows) n h each = rw (field_some row n each.0 h, rows_have rows n h each.1) refl

records_have : (r : RelationValue) → IsRelation r → list_all has_field (relation_records r) ≡ true
records_have r h = rows_have (r.attributes ∷ r.rows) (length r.attributes) h.header.some (refl, h.fits)

module _ (t : Tree) (c0 : CatalogueValue) (first : loaded t ≡ Ok c0) (whole : IsWhole t) (s : Synced) (u : Tree) (k : SourcesKept t c0 s u) (h : ReadsBack t s) where
  folders_are : (db : Text) → is_table_label db ≡ true → is_there s.catalogue db ≡ has_folder u (database_folder db)
  folders_are db legal = by_case (is_there s.catalogue db) refl
    where
      by_case : (b : Bool) → is_there s.catalogue db ≡ b → b ≡ has_folder u (database_folder db)
      by_case true e = sym (k.there db e)
      by_case false e = sym (k.gone db legal e (λ i. h.emptied db i e))

  sound_of : (db rel : Text) (r : RelationValue) → relation_of s.catalogue db rel ≡ Some r → IsRelation r × (r.name ≡ rel)
  sound_of db rel r e = by_found (database_of s.catalogue db) refl e
    where
      by_found : (o : Option DatabaseValue) → database_of s.catalogue db ≡ o → option_and_then (relation_in rel) o ≡ Some r → IsRelation r × (r.name ≡ rel)
      by_found None found e = absurd (cc e)
      by_found (Some d) found e =
          let sound = (found_in database_name IsDatabase db s.catalogue d k.sound.databases found).0 in
          found_in relation_name IsRelation rel d.relations r sound.relations e

  read_saved : (db rel : Text) (o : Option RelationValue) → relation_of s.catalogue db rel ≡ o → is_place_among s.relations (place_of (pair db rel)) ≡ true → file_at u (database_folder db) (relation_file rel) ≡ option_map (λ (r : RelationValue). csv_text (relation_records r)) o → o ≡ read_at u (database_folder db) rel
  read_saved db rel None e among file = sym (ap (option_map (λ (b : List ℕ). relation_value rel (header_of (records_of b)) (rows_of (records_of b)))) file)
  read_saved db rel (Some r) e among file =
      let own = sound_of db rel r e in
      let back : records_of (csv_text (relation_records r)) ≡ relation_records r = reads_back (relation_records r) (records_have r own.0) (h.plain (pair db rel) r among e) in
      sym (ap (option_map (λ (b : List ℕ). relation_value rel (header_of (records_of b)) (rows_of (records_of b)))) file
      ∙ ap (λ (rs : List Row). Some (relation_value rel (header_of rs) (rows_of rs))) back
      ∙ ap (λ (name : Text). Some (relation_value name r.attributes r.rows)) (sym own.1))

  files_are : (db rel : Text) → is_table_label db ≡ true → is_table_label rel ≡ true → relation_of s.catalogue db rel ≡ read_at u (database_folder db) rel
  files_are db rel legal_db legal = by_case (is_place_among s.relations (place_of (pair db rel))) refl
    where
      by_case : (b : Bool) → is_place_among s.relations (place_of (pair db rel)) ≡ b → relation_of s.catalogue db rel ≡ read_at u (database_folder db) rel
      by_case true e = read_saved db rel (relation_of s.catalogue db rel) refl e (k.named (pair db rel) e)
      by_case false e =
          k.unmoved (pair db rel) e ∙ relation_loaded t c0 db rel first whole legal_db legal
          ∙ ap (option_map (λ (b : List ℕ). relation_value rel (header_of (records_of b)) (rows_of (records_of b)))) (sym (k.stay db (relation_file rel) e))

  loads_again : loaded u ≡ Ok s.catalogue
  loads_again = loads u s.catalogue k.sound folders_are files_are

pub sources_hold : (t : Tree) (c0 : CatalogueValue) → loaded t ≡ Ok c0 → IsWhole t → (s : Synced) (u : Tree) → SourcesKept t c0 s u → SourcesHold s t u
sources_hold t c0 first whole s u k = record { named = k.named; loads = loads_again t c0 first whole s u k }
