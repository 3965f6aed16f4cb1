-- Effects on the `.csv` files of some folders.
use Rattle.std.proofs.Common.{◌≡◌, ◌≢◌, Bool, true, false, ◌&&◌, ◌||◌, not, cond, map, List, [], ◌∷◌, ◌++◌, None, Some, refl, sym, ap, ◌∙◌}
use Rattle.std.specs.Option.{option_map_or}
use Rattle.std.specs.List.{list_any, AllByRecursion}
use Rattle.std.proofs.lemmas.Bool.{and_parts, true≢false}
use Rattle.ss_text.specs.Texts.{Text, text_eq, is_in}
use Rattle.ss_text.proofs.KeyLemmas.{text_order, equal_itself}
use Rattle.outside.specs.Tree.{Tree, Place, folder_path, has_folder}
use Rattle.outside.proofs.TreeLemmas.{kept_made, write_broke_off}
use Rattle.std.specs.FinMap as map_of
use Rattle.outside.specs.Effects.{Effect, Write, Remove, Replace, Print}
use Rattle.flow_law.specs.declared.shape.Shape.{Shape}
use Rattle.flow_law.specs.Tables.{TablesValue, table_of}
use Rattle.view_folder.specs.declared.file.File.{File}
use Rattle.view_folder.specs.Files.{view_folder, is_csv_name, is_named, other_names, file_name, AreViewFiles}
use Rattle.view_folder.specs.TableFiles.{table_text}
use Rattle.view_folder.specs.Sync.{written, removed, opening_sync, tables_first, label_synced, later_sync}
use Rattle.view_folder.proofs.LaterLemmas.{file_name_csv}
use Rattle.source_law.specs.Counted.{tree_by, tree_after}
use Rattle.source_law.proofs.AfterLemmas.{made_was}
use Rattle.source_law.proofs.NamedLemmas.{same_text}
use Rattle.source_law.proofs.SavingLemmas.{InView}
use Rattle.view_stages.specs.Places.{Exempt, CsvFiles, is_exempt, is_exempt_folder}
use Rattle.view_stages.proofs.PlaceLemmas.{Within, AllWithin, removed_others}

-- an effect writes or removes a `.csv` file of one of these folders, or it prints
abbrev pub InFolders : List Text → Effect → Type 0
InFolders ds (Write folder file bytes) = (is_in folder ds ≡ true) × (is_csv_name file ≡ true)
InFolders ds (Remove folder file) = (is_in folder ds ≡ true) × (is_csv_name file ≡ true)
InFolders ds (Replace edits) = ⊥
InFolders ds (Print bytes) = Unit {0}

abbrev pub AllIn : List Text → List Effect → Type 0
AllIn ds es = AllByRecursion (InFolders ds) es

pub both_in : (ds : List Text) (es fs : List Effect) → AllIn ds es → AllIn ds fs → AllIn ds (es ++ fs)
both_in ds [] fs h k = k
both_in ds (e ∷ es) fs h k = (h.0, both_in ds es fs h.1 k)

-- those of more folders
module _ (ds ks : List Text) (more : (d : Text) → is_in d ds ≡ true → is_in d ks ≡ true) where
  one_more : (e : Effect) → InFolders ds e → InFolders ks e
  one_more (Write folder file bytes) h = (more folder h.0, h.1)
  one_more (Remove folder file) h = (more folder h.0, h.1)
  one_more (Replace edits) h = h
  one_more (Print bytes) h = h

  pub in_more : (es : List Effect) → AllIn ds es → AllIn ks es
  in_more [] h = tt
  in_more (e ∷ es) h = (one_more e h.0, in_more es h.1)

-- a sync of one folder
module _ (d : Text) where
  abbrev pub one_folder : List Text
  one_folder = d ∷ []

  here : is_in d one_folder ≡ true
  here = ap (λ b. b || false) (equal_itself text_order d)

  written_in : (fs : List File) → AreViewFiles fs → AllIn one_folder (written d fs)
  written_in [] h = tt
  written_in (f ∷ fs) h = ((here, h.0), written_in fs h.2)

  removed_in : (fs : List File) (names : List Text) → AllIn one_folder (removed d (other_names fs names))
  removed_in fs [] = tt
  removed_in fs (n ∷ ns) = by_test (is_csv_name n && not (is_named fs n)) refl (removed_in fs ns)
    where
      by_test : (b : Bool) → (is_csv_name n && not (is_named fs n)) ≡ b → AllIn one_folder (removed d (other_names fs ns)) → AllIn one_folder (map (Remove d) (cond b (n ∷ other_names fs ns) (other_names fs ns)))
      by_test true e rest = ((here, (and_parts (is_csv_name n) (not (is_named fs n)) e).0), rest)
      by_test false e rest = rest

  pub opening_in : (fs : List File) (names : List Text) → AreViewFiles fs → AllIn one_folder (opening_sync d fs names)
  opening_in fs names h = both_in one_folder (written d fs) (removed d (other_names fs names)) (written_in fs h) (removed_in fs names)

  module _ (shape : Shape) (ts : TablesValue) where
    labels_in : (ls : List Text) → AllIn one_folder (map (label_synced d shape ts) ls)
    labels_in [] = tt
    labels_in (l ∷ ls) = (
      elim (table_of ts l) as (λ o. InFolders one_folder (option_map_or (λ t. Write d (file_name l) (table_text shape t)) o (Remove d (file_name l)))) [ None ↦ (here, file_name_csv l) | Some t ↦ (here, file_name_csv l) ],
      labels_in ls,
    )

    pub later_in : (ls : List Text) → AllIn one_folder (later_sync d shape ts ls)
    later_in ls = labels_in (tables_first ts ls)

-- what they leave
module _ (ds : List Text) where
  -- the files of other folders
  apart : (folder : Text) (p : Place) → is_in folder ds ≡ true → is_in p.0 ds ≡ false → p.0 ≢ folder
  apart folder p within outside same = true≢false (sym within ∙ ap (λ (d : Text). is_in d ds) (sym same) ∙ outside)

  file_by : (e : Effect) (t : Tree) (p : Place) → InFolders ds e → is_in p.0 ds ≡ false → map_of.get (tree_by e t).files p ≡ map_of.get t.files p
  file_by (Write folder file bytes) t p h outside = (write_broke_off folder file bytes t).others p (λ same. apart folder p h.0 outside (ap (λ (q : Place). q.0) same))
  file_by (Remove folder file) t p h outside = removed_others folder file t p (λ same. apart folder p h.0 outside (ap (λ (q : Place). q.0) same))
  file_by (Replace edits) t p h outside = absurd h
  file_by (Print bytes) t p h outside = refl

  pub files_stay : (es : List Effect) (t : Tree) (p : Place) → AllIn ds es → is_in p.0 ds ≡ false → map_of.get (tree_after es t).files p ≡ map_of.get t.files p
  files_stay [] t p h outside = refl
  files_stay (e ∷ es) t p h outside = files_stay es (tree_by e t) p h.1 outside ∙ file_by e t p h.0 outside

  -- the folders that are there
  folder_by : (e : Effect) (t : Tree) (x : Text) → InFolders ds e → has_folder t x ≡ true → has_folder (tree_by e t) x ≡ true
  folder_by (Write folder file bytes) t x h there = kept_made (folder_path folder) t.folders x there
  folder_by (Remove folder file) t x h there = there
  folder_by (Replace edits) t x h there = absurd h
  folder_by (Print bytes) t x h there = there

  pub folders_stay : (es : List Effect) (t : Tree) (x : Text) → AllIn ds es → has_folder t x ≡ true → has_folder (tree_after es t) x ≡ true
  folders_stay [] t x h there = there
  folders_stay (e ∷ es) t x h there = folders_stay es (tree_by e t) x h.1 (folder_by e t x h.0 there)

  -- and those that are on no path to these
  unmade_by : (e : Effect) (t : Tree) (x : Text) → InFolders ds e → ((d : Text) → is_in d ds ≡ true → is_in x (folder_path d) ≡ false) → has_folder (tree_by e t) x ≡ has_folder t x
  unmade_by (Write folder file bytes) t x h off = made_was x (folder_path folder) t.folders (off folder h.0)
  unmade_by (Remove folder file) t x h off = refl
  unmade_by (Replace edits) t x h off = absurd h
  unmade_by (Print bytes) t x h off = refl

  pub folders_unmade : (es : List Effect) (t : Tree) (x : Text) → AllIn ds es → ((d : Text) → is_in d ds ≡ true → is_in x (folder_path d) ≡ false) → has_folder (tree_after es t) x ≡ has_folder t x
  folders_unmade [] t x h off = refl
  folders_unmade (e ∷ es) t x h off = folders_unmade es (tree_by e t) x h.1 off ∙ unmade_by e t x h.0 off

  -- they are on what is exempt, where the `.csv` files of these folders are
  module _ (exempt : List Exempt) (among : (d : Text) → is_in d ds ≡ true → (f : Exempt → Bool) → f (CsvFiles d) ≡ true → list_any f exempt ≡ true) where
    csv_among : (folder file : Text) → is_in folder ds ≡ true → is_csv_name file ≡ true → list_any (is_exempt (folder, file)) exempt ≡ true
    csv_among folder file within csv = among folder within (is_exempt (folder, file)) (ap (λ b. b && is_csv_name file) (equal_itself text_order folder) ∙ csv)

    one_within : (e : Effect) → InFolders ds e → Within exempt e
    one_within (Write folder file bytes) h = (csv_among folder file h.0 h.1, λ x on. among folder h.0 (is_exempt_folder x) on)
    one_within (Remove folder file) h = csv_among folder file h.0 h.1
    one_within (Replace edits) h = absurd h
    one_within (Print bytes) h = tt

    pub in_within : (es : List Effect) → AllIn ds es → AllWithin exempt es
    in_within [] h = tt
    in_within (e ∷ es) h = (one_within e h.0, in_within es h.1)

-- effects on one view's folder
module _ (x : Text) where
  that_folder : (folder : Text) → is_in folder (one_folder (view_folder x)) ≡ true → folder ≡ view_folder x
  that_folder folder h = same_text folder (view_folder x) (either (text_eq folder (view_folder x)) h)
    where
      either : (b : Bool) → (b || false) ≡ true → b ≡ true
      either true e = refl
      either false e = absurd (cc e)

  one_in_view : (e : Effect) → InFolders (one_folder (view_folder x)) e → InView x e
  one_in_view (Write folder file bytes) h = that_folder folder h.0
  one_in_view (Remove folder file) h = that_folder folder h.0
  one_in_view (Replace edits) h = h
  one_in_view (Print bytes) h = tt

  pub in_view : (es : List Effect) → AllIn (one_folder (view_folder x)) es → AllByRecursion (InView x) es
  in_view [] h = tt
  in_view (e ∷ es) h = (one_in_view e h.0, in_view es h.1)
