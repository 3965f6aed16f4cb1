-- What is saved of the sources leaves the folders of views.
use Rattle.std.proofs.Common.{◌≡◌, ◌≢◌, ℕ, Bool, true, false, not, cond, List, [], ◌∷◌, ◌++◌, None, Some, refl, sym, ap, ◌∙◌, arith, append-nil}
use Rattle.std.specs.Option.{option_map_or}
use Rattle.std.specs.List.{AllByRecursion}
use Rattle.std.specs.FinMap as map_of
use Rattle.std.proofs.lemmas.Bool.{true≢false}
use Rattle.ss_text.specs.Texts.{Text, is_in}
use Rattle.outside.specs.Tree.{Tree, Place, folder_path, with_folders, has_folder, has_empty_folder}
use Rattle.outside.proofs.TreeLemmas.{write_broke_off}
use Rattle.outside.specs.declared.edit.Edit.{Edit}
use Rattle.outside.specs.declared.edit.Edit.TheVariants as edit
use Rattle.schema_model.specs.Catalogue.{RelationValue, CatalogueValue, relation_of}
use Rattle.schema_model.specs.declared.pair.Pair.{Pair}
use Rattle.csv_catalog.specs.Loaded.{database_folder}
use Rattle.csv_catalog.specs.RecordText.{csv_text, relation_records}
use Rattle.csv_catalog.specs.Saved.{relation_file, is_there, those_there, those_gone, folders_made, folders_removed, pair_saved, pairs_saved, saved}
use Rattle.view_folder.specs.Files.{view_folder}
use Rattle.source_law.specs.Counted.{tree_edited, tree_replaced}
use Rattle.source_law.proofs.AfterLemmas.{made_was, no_path}
use Rattle.view_stages.proofs.PlaceLemmas.{on_path, removed_others, removed_folder}

-- an edit of the folder of a database, or of a file in it
abbrev IsOf : Text → Edit → Type 0
IsOf db (edit.MakeFolder folder) = folder ≡ database_folder db
IsOf db (edit.Write folder file bytes) = folder ≡ database_folder db
IsOf db (edit.Remove folder file) = folder ≡ database_folder db
IsOf db (edit.RemoveFolder folder) = folder ≡ database_folder db

abbrev IsOfSources : Edit → Type 0
IsOfSources e = (db : Text) × IsOf db e

abbrev AreOfSources : List Edit → Type 0
AreOfSources es = AllByRecursion IsOfSources es

both_of : (es fs : List Edit) → AreOfSources es → AreOfSources fs → AreOfSources (es ++ fs)
both_of [] fs h k = k
both_of (e ∷ es) fs h k = (h.0, both_of es fs h.1 k)

module _ (c : CatalogueValue) where
  made_of : (dbs : List Text) → AreOfSources (folders_made (those_there c dbs))
  made_of [] = tt
  made_of (db ∷ dbs) = by_test (is_there c db) (made_of dbs)
    where
      by_test : (b : Bool) → AreOfSources (folders_made (those_there c dbs)) → AreOfSources (folders_made (cond b (db ∷ those_there c dbs) (those_there c dbs)))
      by_test true rest = ((db, refl), rest)
      by_test false rest = rest

  gone_of : (dbs : List Text) → AreOfSources (folders_removed (those_gone c dbs))
  gone_of [] = tt
  gone_of (db ∷ dbs) = by_test (not (is_there c db)) (gone_of dbs)
    where
      by_test : (b : Bool) → AreOfSources (folders_removed (those_gone c dbs)) → AreOfSources (folders_removed (cond b (db ∷ those_gone c dbs) (those_gone c dbs)))
      by_test true rest = ((db, refl), rest)
      by_test false rest = rest

  pairs_of : (ps : List Pair) → AreOfSources (pairs_saved c ps)
  pairs_of [] = tt
  pairs_of (p ∷ ps) = ((p.db, one), pairs_of ps)
    where
      one : IsOf p.db (pair_saved c p)
      one =
          elim (relation_of c p.db p.rel) as (λ o. IsOf p.db (option_map_or (λ (r : RelationValue). edit.Write (database_folder p.db) (relation_file p.rel) (csv_text (relation_records r))) o (edit.Remove (database_folder p.db) (relation_file p.rel))))
          [ None ↦ refl | Some r ↦ refl ]

  saved_of : (dbs : List Text) (ps : List Pair) → AreOfSources (saved c dbs ps)
  saved_of dbs ps = both_of (folders_made (those_there c dbs) ++ pairs_saved c ps) (folders_removed (those_gone c dbs)) (both_of (folders_made (those_there c dbs)) (pairs_saved c ps) (made_of dbs) (pairs_of ps)) (gone_of dbs)

-- the folder of a database is none of a view
abbrev first_byte : Text → ℕ
first_byte [] = 0
first_byte (b ∷ bs) = b

apart_folders : (x db rest more : Text) → view_folder x ++ rest ≡ database_folder db ++ more → ⊥
apart_folders x db rest more e = let same : 118 ≡ 115 = ap first_byte e in absurd (omega (arith, same))

module _ (x : Text) where
  -- a file in a view's folder
  file_edited : (e : Edit) (t : Tree) (p : Place) → IsOfSources e → p.0 ≡ view_folder x → map_of.get (tree_edited e t).files p ≡ map_of.get t.files p
  file_edited (edit.MakeFolder folder) t p h in_view = refl
  file_edited (edit.Write folder file bytes) t p h in_view = (write_broke_off folder file bytes t).others p (λ same. other folder file p h.0 h.1 in_view same)
    where
      other : (folder file : Text) (p : Place) (db : Text) → folder ≡ database_folder db → p.0 ≡ view_folder x → ◌≡◌ {A = Place} p (folder, file) → ⊥
      other folder file p db is in_view same = apart_folders x db [] [] (append-nil (view_folder x) ∙ sym in_view ∙ ap (λ (q : Place). q.0) same ∙ is ∙ sym (append-nil (database_folder db)))
  file_edited (edit.Remove folder file) t p h in_view =
      removed_others folder file t p (λ same. apart_folders x h.0 [] [] (append-nil (view_folder x) ∙ sym in_view ∙ ap (λ (q : Place). q.0) same ∙ h.1 ∙ sym (append-nil (database_folder h.0))))
  file_edited (edit.RemoveFolder folder) t p h in_view = refl

  file_replaced : (es : List Edit) (t : Tree) (p : Place) → AreOfSources es → p.0 ≡ view_folder x → map_of.get (tree_replaced es t).files p ≡ map_of.get t.files p
  file_replaced [] t p h in_view = refl
  file_replaced (e ∷ es) t p h in_view = file_replaced es (tree_edited e t) p h.1 in_view ∙ file_edited e t p h.0 in_view

  pub file_saved : (c : CatalogueValue) (dbs : List Text) (ps : List Pair) (t : Tree) (p : Place) → p.0 ≡ view_folder x → map_of.get (tree_replaced (saved c dbs ps) t).files p ≡ map_of.get t.files p
  file_saved c dbs ps t p in_view = file_replaced (saved c dbs ps) t p (saved_of c dbs ps) in_view

  -- a folder on the path to it
  off_path : (d db : Text) → is_in d (folder_path (view_folder x)) ≡ true → is_in d (folder_path (database_folder db)) ≡ false
  off_path d db on =
      no_path d (database_folder db)
      (λ same. true≢false (sym on ∙ ap (λ (f : Text). is_in f (folder_path (view_folder x))) same ∙ not_on (database_folder db) db refl))
      (λ rest above. inside d rest above on)
    where
      not_on : (f db : Text) → f ≡ database_folder db → is_in f (folder_path (view_folder x)) ≡ false
      not_on f db is =
          no_path f (view_folder x)
          (λ same. apart_folders x db [] [] (append-nil (view_folder x) ∙ sym same ∙ is ∙ sym (append-nil (database_folder db))))
          (λ rest above. apart_folders x db [] (47 ∷ rest) (append-nil (view_folder x) ∙ above ∙ ap (λ (g : Text). g ++ 47 ∷ rest) is))

      -- a folder above that of a database begins as it does
      inside : (d rest : Text) → database_folder db ≡ d ++ 47 ∷ rest → is_in d (folder_path (view_folder x)) ≡ true → ⊥
      inside [] rest above on = let same : 115 ≡ 47 = ap first_byte above in absurd (omega (arith, same))
      inside (b ∷ bs) rest above on =
          true≢false (sym on ∙ no_path (b ∷ bs) (view_folder x)
          (λ same. let byte : 115 ≡ 118 = ap first_byte above ∙ ap first_byte same in absurd (omega (arith, byte)))
          (λ more here. let byte : 118 ≡ 115 = ap first_byte here ∙ sym (ap first_byte above) in absurd (omega (arith, byte))))

  folder_edited : (e : Edit) (t : Tree) (d : Text) → IsOfSources e → is_in d (folder_path (view_folder x)) ≡ true → has_folder (tree_edited e t) d ≡ has_folder t d
  folder_edited (edit.MakeFolder folder) t d h on = made (has_folder t folder)
    where
      made : (b : Bool) → map_of.contains_key (cond b t.folders (with_folders (folder_path folder) t.folders)) d ≡ has_folder t d
      made true = refl
      made false = made_was d (folder_path folder) t.folders (ap (λ (f : Text). is_in d (folder_path f)) h.1 ∙ off_path d h.0 on)
  folder_edited (edit.Write folder file bytes) t d h on = made_was d (folder_path folder) t.folders (ap (λ (f : Text). is_in d (folder_path f)) h.1 ∙ off_path d h.0 on)
  folder_edited (edit.Remove folder file) t d h on = refl
  folder_edited (edit.RemoveFolder folder) t d h on = gone (has_empty_folder t folder)
    where
      other : d ≢ folder
      other same = true≢false (sym (on_path folder) ∙ ap (λ (f : Text). is_in f (folder_path folder)) (sym same) ∙ ap (λ (f : Text). is_in d (folder_path f)) h.1 ∙ off_path d h.0 on)

      gone : (b : Bool) → map_of.contains_key (cond b (map_of.remove t.folders folder) t.folders) d ≡ has_folder t d
      gone true = removed_folder folder t d other
      gone false = refl

  folder_replaced : (es : List Edit) (t : Tree) (d : Text) → AreOfSources es → is_in d (folder_path (view_folder x)) ≡ true → has_folder (tree_replaced es t) d ≡ has_folder t d
  folder_replaced [] t d h on = refl
  folder_replaced (e ∷ es) t d h on = folder_replaced es (tree_edited e t) d h.1 on ∙ folder_edited e t d h.0 on

  pub folder_saved : (c : CatalogueValue) (dbs : List Text) (ps : List Pair) (t : Tree) (d : Text) → is_in d (folder_path (view_folder x)) ≡ true → has_folder (tree_replaced (saved c dbs ps) t) d ≡ has_folder t d
  folder_saved c dbs ps t d on = folder_replaced (saved c dbs ps) t d (saved_of c dbs ps) on
