-- Stages on several folders: what they leave where they break off is between what was there and what is there at their end.
use Rattle.std.proofs.Common.{◌≡◌, Bool, true, false, ◌⊎◌, ◌||◌, inl, inr, List, [], ◌∷◌, ◌++◌, Option, None, Some, map, refl, sym, ap, ◌∙◌, subst}
use Rattle.std.specs.Prelude.{option_map}
use Rattle.std.specs.Option.{option_map_or}
use Rattle.std.specs.FinMap as map_of
use Rattle.std.specs.List.{list_any}
use Rattle.std.proofs.lemmas.Bool.{false≢true, true≢false, false_from_ne_true, or_parts}
use Rattle.ss_text.specs.Texts.{Text, text_eq, is_in}
use Rattle.outside.specs.Tree.{Tree, Place, folder_path, has_folder}
use Rattle.outside.specs.Effects.{Effect, Write, Remove, Replace, Print, Stored, Contents, performed, Partly}
use Rattle.outside.proofs.EffectLemmas.{partly_more}
use Rattle.schema_model.specs.Catalogue.{CatalogueValue}
use Rattle.schema_model.specs.declared.pair.Pair.{Pair}
use Rattle.csv_catalog.specs.Loaded.{label_of}
use Rattle.csv_catalog.specs.Saved.{saved}
use Rattle.flow_law.specs.declared.shape.Shape.{Shape}
use Rattle.flow_law.specs.Tables.{TablesValue, table_of}
use Rattle.view_def.specs.Query.{Query}
use Rattle.view_folder.specs.declared.file.File.{File}
use Rattle.view_folder.specs.Files.{view_folder, file_name, AreViewFiles}
use Rattle.view_folder.specs.TableFiles.{table_text}
use Rattle.view_folder.specs.Sync.{opening_sync, tables_first, label_synced, later_sync}
use Rattle.source_law.specs.Counted.{tree_after, tree_replaced}
use Rattle.source_law.proofs.AfterLemmas.{stored_by, stored_after}
use Rattle.source_law.proofs.FileLemmas.{label_of_file}
use Rattle.source_law.proofs.NamedLemmas.{same_text}
use Rattle.course.proofs.FrontLemmas.{partly_split}
use Rattle.view_stages.specs.Between.{IsBrokenBy, IsBetween, AllOrNothing}
use Rattle.view_stages.specs.Places.{Exempt, CsvFiles, OthersStay}
use Rattle.view_stages.proofs.PlaceLemmas.{AllWithin, stays_told, performed_stays}
use Rattle.view_stages.proofs.BetweenLemmas.{LeftBetween, none_by, Planned, AllPlanned, tree_append}
use Rattle.view_stages.proofs.SyncLemmas.{Stage, planned_stage, opening_stage}
use Rattle.stack_law.proofs.FolderLemmas.{AllIn, files_stay, folders_stay, folders_unmade}
use Rattle.stack_law.proofs.SourceLemmas.{file_saved, folder_saved}
use Rattle.stack_law.proofs.WithinLemmas.{Covers}

-- ---- the effect that broke off is one of these and more
broken_front : (b : Option Place) (es fs : List Effect) → IsBrokenBy b es → IsBrokenBy b (es ++ fs)
broken_front b [] fs h = subst (λ (x : Option Place). IsBrokenBy x fs) (sym h) (none_by fs)
broken_front b (e ∷ es) fs h = elim h [ inl here ↦ inl here | inr later ↦ inr (broken_front b es fs later) ]

broken_back : (b : Option Place) (es fs : List Effect) → IsBrokenBy b fs → IsBrokenBy b (es ++ fs)
broken_back b [] fs h = h
broken_back b (e ∷ es) fs h = inr (broken_back b es fs h)

-- without a print at the end
broken_before : (b : Option Place) (es : List Effect) (bytes : Text) → IsBrokenBy b (es ++ Print bytes ∷ []) → IsBrokenBy b es
broken_before b [] bytes h = elim h [ inl here ↦ here | inr none ↦ none ]
broken_before b (e ∷ es) bytes h = elim h [ inl here ↦ inl here | inr later ↦ inr (broken_before b es bytes later) ]

-- ---- what is not exempt
module _ (exempt : List Exempt) where
  both_stay : (t u v : Tree) → OthersStay exempt t u → OthersStay exempt t v → OthersStay exempt u v
  both_stay t u v h k = record { stay = λ p ne. k.stay p ne ∙ sym (h.stay p ne); folders = λ d ne. k.folders d ne ∙ sym (h.folders d ne) }

  nothing_moved : (t : Tree) → OthersStay exempt t t
  nothing_moved t = record { stay = λ p ne. refl; folders = λ d ne. refl }

  -- effects on what is exempt leave it
  effects_stay : (es : List Effect) (t : Tree) → AllWithin exempt es → OthersStay exempt t (tree_after es t)
  effects_stay es t within =
      let s : Stored = record { tree = t; writes = 0 } in
      let c : Contents = record { stored = Some s; held = None } in
      stays_told exempt t (performed es c) (stored_by es s) (stored_after es c s refl) (performed_stays exempt t es c within (record { store = s; told = refl; others = nothing_moved t }))

  -- and what else is exempt by more
  module _ (wider : List Exempt) (more : Covers exempt wider) where
    less : (f : Exempt → Bool) → list_any f wider ≡ false → list_any f exempt ≡ false
    less f none = false_from_ne_true _ (λ some. false≢true (sym none ∙ more f some))

    wider_stay : (t u : Tree) → OthersStay exempt t u → OthersStay wider t u
    wider_stay t u h = record { stay = λ p ne. h.stay p (less _ ne); folders = λ d ne. h.folders d (less _ ne) }

    wider_once : (t u v : Tree) → AllOrNothing exempt t u v → AllOrNothing wider t u v
    wider_once t u v h = elim h [ inl was ↦ inl (wider_stay t v was) | inr is ↦ inr (wider_stay u v is) ]

    pub wider_stage : (es : List Effect) → Stage exempt es → Stage wider es
    wider_stage es stage s old new told h =
        let l = stage s old new told h in
        record { stored = l.stored; told = l.told; broken = l.broken; by = l.by; between = l.between; at_once = wider_once s.tree (tree_after es s.tree) l.stored.tree l.at_once }

  -- a stage without the line that is printed at its end
  pub unprinted_stage : (es : List Effect) (bytes : Text) → Stage exempt (es ++ Print bytes ∷ []) → Stage exempt es
  unprinted_stage es bytes stage s old new told h =
      let l = stage s old new told (partly_more es (Print bytes ∷ []) old new h) in
      let same : tree_after (es ++ Print bytes ∷ []) s.tree ≡ tree_after es s.tree = tree_append es (Print bytes ∷ []) s.tree in
      record {
        stored = l.stored;
        told = l.told;
        broken = l.broken;
        by = broken_before l.broken es bytes l.by;
        between = subst (λ (u : Tree). IsBetween l.broken s.tree u l.stored.tree) same l.between;
        at_once = subst (λ (u : Tree). AllOrNothing exempt s.tree u l.stored.tree) same l.at_once;
      }

  -- a print, and then a stage
  pub print_then : (bytes : Text) (fs : List Effect) → Stage exempt fs → Stage exempt (Print bytes ∷ fs)
  unfolding Partly
  print_then bytes fs later s old new told h = elim h [
    | inl same ↦ nothing_yet (ap (λ (x : Contents). x.stored) same ∙ told)
    | inr rest ↦ elim rest [
      | inl off ↦ nothing_yet (ap (λ (x : Contents). x.stored) off.1 ∙ told)
      | inr behind ↦
          let l = later s (performed (Print bytes ∷ []) old) new told behind in
          record { stored = l.stored; told = l.told; broken = l.broken; by = inr l.by; between = l.between; at_once = l.at_once }
    ]
  ]
    where
      nothing_yet : new.stored ≡ Some s → LeftBetween exempt (Print bytes ∷ fs) s.tree (tree_after (Print bytes ∷ fs) s.tree) new
      nothing_yet is = record {
        stored = s;
        told = is;
        broken = None;
        by = none_by (Print bytes ∷ fs);
        between = record { files = λ p whole. inl refl; folders = λ d. inl refl };
        at_once = inl (nothing_moved s.tree);
      }

  -- ---- a stage, and one on other folders
  module _ (ds ks : List Text) (es fs : List Effect) (in_ds : AllIn ds es) (in_ks : AllIn ks fs) (apart : (d : Text) → is_in d ds ≡ true → is_in d ks ≡ false) (within : AllWithin exempt fs) where
    module _ (t : Tree) where
      abbrev u : Tree
      u = tree_after es t

      abbrev last : Tree
      last = tree_after fs u

      file_once : (p : Place) → (map_of.get u.files p ≡ map_of.get t.files p) ⊎ (map_of.get last.files p ≡ map_of.get u.files p)
      file_once p = by_test (is_in p.0 ds) refl
        where
          by_test : (b : Bool) → is_in p.0 ds ≡ b → (map_of.get u.files p ≡ map_of.get t.files p) ⊎ (map_of.get last.files p ≡ map_of.get u.files p)
          by_test true e = inr (files_stay ks fs u p in_ks (apart p.0 e))
          by_test false e = inl (files_stay ds es t p in_ds e)

      folder_once : (x : Text) → (has_folder u x ≡ has_folder t x) ⊎ (has_folder last x ≡ has_folder u x)
      folder_once x = by_test (has_folder u x) refl
        where
          by_test : (b : Bool) → has_folder u x ≡ b → (has_folder u x ≡ has_folder t x) ⊎ (has_folder last x ≡ has_folder u x)
          by_test true e = inr (folders_stay ks fs u x in_ks e ∙ sym e)
          by_test false e = inl (e ∙ sym (false_from_ne_true _ (λ was. true≢false (sym (folders_stay ds es t x in_ds was) ∙ e))))

      others_on : OthersStay exempt u last
      others_on = effects_stay fs u within

      early : (c : Contents) → LeftBetween exempt es t u c → LeftBetween exempt (es ++ fs) t last c
      early c l = record {
        stored = l.stored;
        told = l.told;
        broken = l.broken;
        by = broken_front l.broken es fs l.by;
        between = record {
          files = λ p whole. elim (l.between.files p whole) [ inl was ↦ inl was | inr is ↦ elim (file_once p) [ inl same ↦ inl (is ∙ same) | inr same ↦ inr (is ∙ sym same) ] ];
          folders = λ x. elim (l.between.folders x) [ inl was ↦ inl was | inr is ↦ elim (folder_once x) [ inl same ↦ inl (is ∙ same) | inr same ↦ inr (is ∙ sym same) ] ];
        };
        at_once = elim l.at_once [ inl was ↦ inl was | inr is ↦ inr (both_stay u last l.stored.tree others_on is) ];
      }

      late : (c : Contents) → LeftBetween exempt fs u last c → LeftBetween exempt (es ++ fs) t last c
      late c l = record {
        stored = l.stored;
        told = l.told;
        broken = l.broken;
        by = broken_back l.broken es fs l.by;
        between = record {
          files = λ p whole. elim (l.between.files p whole) [ inl was ↦ elim (file_once p) [ inl same ↦ inl (was ∙ same) | inr same ↦ inr (was ∙ sym same) ] | inr is ↦ inr is ];
          folders = λ x. elim (l.between.folders x) [ inl was ↦ elim (folder_once x) [ inl same ↦ inl (was ∙ same) | inr same ↦ inr (was ∙ sym same) ] | inr is ↦ inr is ];
        };
        at_once = elim l.at_once [ inl was ↦ inr (both_stay u last l.stored.tree others_on was) | inr is ↦ inr is ];
      }

    pub stage_then : Stage exempt es → Stage exempt fs → Stage exempt (es ++ fs)
    stage_then first later s old new told h =
        subst (λ (v : Tree). LeftBetween exempt (es ++ fs) s.tree v new) (sym (tree_append es fs s.tree))
        (elim (partly_split es fs old new h) [
          | inl here ↦ early s.tree new (first s old new told here)
          | inr behind ↦ late s.tree new (later (stored_by es s) (performed es old) new (stored_after es old s told) behind)
        ])

  -- ---- what is saved of the sources, and then a stage on the folders of views
  module _ (c : CatalogueValue) (dbs : List Text) (ps : List Pair) (qs : List Query) (fs : List Effect) (in_ks : AllIn (map (λ (q : Query). view_folder q.view_db) qs) fs) (within : AllWithin exempt fs) where
    abbrev ks : List Text
    ks = map (λ (q : Query). view_folder q.view_db) qs

    module _ (t : Tree) where
      abbrev v : Tree
      v = tree_replaced (saved c dbs ps) t

      abbrev end : Tree
      end = tree_after fs v

      -- a file of a view is not saved, and others are not synced
      file_saved_or : (p : Place) → (map_of.get v.files p ≡ map_of.get t.files p) ⊎ (map_of.get end.files p ≡ map_of.get v.files p)
      file_saved_or p = by_test (is_in p.0 ks) refl
        where
          in_view : (rs : List Query) → is_in p.0 (map (λ (q : Query). view_folder q.view_db) rs) ≡ true → map_of.get v.files p ≡ map_of.get t.files p
          in_view [] h = absurd (cc h)
          in_view (q ∷ rs) h = by_first (λ among. in_view rs among) (text_eq p.0 (view_folder q.view_db)) refl h
            where
              by_first : (is_in p.0 (map (λ (r : Query). view_folder r.view_db) rs) ≡ true → map_of.get v.files p ≡ map_of.get t.files p) → (b : Bool) → text_eq p.0 (view_folder q.view_db) ≡ b
                  → (b || is_in p.0 (map (λ (r : Query). view_folder r.view_db) rs)) ≡ true → map_of.get v.files p ≡ map_of.get t.files p
              by_first later true e h = file_saved q.view_db c dbs ps t p (same_text p.0 (view_folder q.view_db) e)
              by_first later false e h = later h

          by_test : (b : Bool) → is_in p.0 ks ≡ b → (map_of.get v.files p ≡ map_of.get t.files p) ⊎ (map_of.get end.files p ≡ map_of.get v.files p)
          by_test true e = inl (in_view qs e)
          by_test false e = inr (files_stay ks fs v p in_ks e)

      -- a folder on the path to a view is not made or removed by what is saved
      on_path : Text → List Query → Bool
      on_path x rs = list_any (λ (q : Query). is_in x (folder_path (view_folder q.view_db))) rs

      saved_path : (x : Text) (rs : List Query) → on_path x rs ≡ true → has_folder v x ≡ has_folder t x
      unfolding on_path
      saved_path x [] h = absurd (cc h)
      saved_path x (q ∷ rs) h = by_first (λ among. saved_path x rs among) (is_in x (folder_path (view_folder q.view_db))) refl h
        where
          by_first : (list_any (λ (r : Query). is_in x (folder_path (view_folder r.view_db))) rs ≡ true → has_folder v x ≡ has_folder t x) → (b : Bool) → is_in x (folder_path (view_folder q.view_db)) ≡ b
              → (b || list_any (λ (r : Query). is_in x (folder_path (view_folder r.view_db))) rs) ≡ true → has_folder v x ≡ has_folder t x
          by_first later true e h = folder_saved q.view_db c dbs ps t x e
          by_first later false e h = later h

      off_paths : (x : Text) (rs : List Query) → on_path x rs ≡ false → (d : Text) → is_in d (map (λ (q : Query). view_folder q.view_db) rs) ≡ true → is_in x (folder_path d) ≡ false
      unfolding on_path
      off_paths x [] h d among = absurd (cc among)
      off_paths x (q ∷ rs) h d among = by_first (λ none later. off_paths x rs none d later) (text_eq d (view_folder q.view_db)) refl among (or_parts (is_in x (folder_path (view_folder q.view_db))) (list_any (λ (r : Query). is_in x (folder_path (view_folder r.view_db))) rs) h)
        where
          by_first : (list_any (λ (r : Query). is_in x (folder_path (view_folder r.view_db))) rs ≡ false → is_in d (map (λ (r : Query). view_folder r.view_db) rs) ≡ true → is_in x (folder_path d) ≡ false)
              → (b : Bool) → text_eq d (view_folder q.view_db) ≡ b → (b || is_in d (map (λ (r : Query). view_folder r.view_db) rs)) ≡ true
              → ((is_in x (folder_path (view_folder q.view_db)) ≡ false) × (list_any (λ (r : Query). is_in x (folder_path (view_folder r.view_db))) rs ≡ false)) → is_in x (folder_path d) ≡ false
          by_first later true e h parts = ap (λ (f : Text). is_in x (folder_path f)) (same_text d (view_folder q.view_db) e) ∙ parts.0
          by_first later false e h parts = later parts.1 h

      folder_saved_or : (x : Text) → (has_folder v x ≡ has_folder t x) ⊎ (has_folder end x ≡ has_folder v x)
      folder_saved_or x = by_test (on_path x qs) refl
        where
          by_test : (b : Bool) → on_path x qs ≡ b → (has_folder v x ≡ has_folder t x) ⊎ (has_folder end x ≡ has_folder v x)
          by_test true e = inl (saved_path x qs e)
          by_test false e = inr (folders_unmade ks fs v x in_ks (off_paths x qs e))

      others_then : OthersStay exempt v end
      others_then = effects_stay fs v within

      not_begun : (now : Contents) (s : Stored) → now.stored ≡ Some s → s.tree ≡ t → LeftBetween exempt (Replace (saved c dbs ps) ∷ fs) t end now
      not_begun now s told is = record {
        stored = s;
        told = told;
        broken = None;
        by = none_by (Replace (saved c dbs ps) ∷ fs);
        between = record { files = λ p whole. inl (ap (λ (x : Tree). map_of.get x.files p) is); folders = λ x. inl (ap (λ (y : Tree). has_folder y x) is) };
        at_once = inl (subst (OthersStay exempt t) (sym is) (nothing_moved t));
      }

      begun : (now : Contents) → LeftBetween exempt fs v end now → LeftBetween exempt (Replace (saved c dbs ps) ∷ fs) t end now
      begun now l = record {
        stored = l.stored;
        told = l.told;
        broken = l.broken;
        by = inr l.by;
        between = record {
          files = λ p whole. elim (l.between.files p whole) [ inl was ↦ elim (file_saved_or p) [ inl same ↦ inl (was ∙ same) | inr same ↦ inr (was ∙ sym same) ] | inr is ↦ inr is ];
          folders = λ x. elim (l.between.folders x) [ inl was ↦ elim (folder_saved_or x) [ inl same ↦ inl (was ∙ same) | inr same ↦ inr (was ∙ sym same) ] | inr is ↦ inr is ];
        };
        at_once = elim l.at_once [ inl was ↦ inr (both_stay v end l.stored.tree others_then was) | inr is ↦ inr is ];
      }

    pub saved_then : Stage exempt fs → Stage exempt (Replace (saved c dbs ps) ∷ fs)
    unfolding Partly
    saved_then later s old new told h = elim h [
      | inl same ↦ not_begun s.tree new s (ap (λ (x : Contents). x.stored) same ∙ told) refl
      | inr rest ↦ elim rest [
        | inl off ↦ absurd off
        | inr behind ↦ begun s.tree new (later (stored_by (Replace (saved c dbs ps) ∷ []) s) (performed (Replace (saved c dbs ps) ∷ []) old) new (stored_after (Replace (saved c dbs ps) ∷ []) old s told) behind)
      ]
    ]

-- ---- the stages of one folder
-- an opening sync, without its line
pub opening_part : (d : Text) (fs : List File) (names : List Text) → AreViewFiles fs → Stage (CsvFiles d ∷ []) (opening_sync d fs names)
opening_part d fs names h = unprinted_stage (CsvFiles d ∷ []) (opening_sync d fs names) _ (opening_stage d fs names h)

-- a later sync: the files of labels are to hold their tables
module _ (d : Text) (shape : Shape) (ts : TablesValue) where
  abbrev meant : Place → Option Text
  meant p = option_map (table_text shape) (table_of ts (label_of p.1))

  abbrev Gone : Text → Type 0
  Gone x = ⊥

  label_planned : (l : Text) → Planned meant Gone (label_synced d shape ts l)
  label_planned l = by_table (table_of ts l) refl
    where
      found : meant (d, file_name l) ≡ option_map (table_text shape) (table_of ts l)
      found = ap (λ (k : Text). option_map (table_text shape) (table_of ts k)) (label_of_file l)

      by_table : (o : _) → table_of ts l ≡ o → Planned meant Gone (option_map_or (λ t. Write d (file_name l) (table_text shape t)) o (Remove d (file_name l)))
      by_table None e = found ∙ ap (option_map (table_text shape)) e
      by_table (Some t) e = (found ∙ ap (option_map (table_text shape)) e, λ x none. absurd none)

  labels_planned : (ls : List Text) → AllPlanned meant Gone (map (label_synced d shape ts) ls)
  labels_planned [] = tt
  labels_planned (l ∷ ls) = (label_planned l, labels_planned ls)

  pub later_part : (exempt : List Exempt) (ls : List Text) → AllWithin exempt (later_sync d shape ts ls) → Stage exempt (later_sync d shape ts ls)
  later_part exempt ls within = planned_stage exempt meant Gone (later_sync d shape ts ls) (labels_planned (tables_first ts ls)) (inl within)
