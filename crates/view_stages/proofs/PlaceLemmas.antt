-- Effects on what is exempt leave every other file and folder as it was.
use Rattle.std.proofs.Common.{◌≡◌, ◌≢◌, Bool, true, false, ◌||◌, List, [], ◌∷◌, Option, None, Some, is_some, length, refl, sym, ap, ◌∙◌, subst, cond, inl, inr}
use Rattle.std.specs.Prelude.{option_map, unwrap_or}
use Rattle.std.specs.Cmp.{both_ways}
use Rattle.std.specs.Cmp.Lexicographic.{nat_list_cmp_total, texts_ties}
use Rattle.std.specs.List.{list_any, AllByRecursion}
use Rattle.std.specs.FinMap as map
use Rattle.std.proofs.lemmas.Bool.{false≢true, false_from_ne_true, or_right}
use Rattle.std.proofs.lemmas.List.Folds.{list_any-append}
use Rattle.ss_text.specs.Texts.{Text, text_eq, is_in}
use Rattle.ss_text.proofs.KeyLemmas.{text_order, equal_itself}
use Rattle.outside.specs.Tree.{Tree, Place, fronts, folder_path, with_folders, has_folder, has_empty_folder}
use Rattle.outside.specs.WholeLaw.{is_eq_true, place_exact}
use Rattle.outside.proofs.PlaceLemmas.{place_total}
use Rattle.outside.proofs.TreeLemmas.{write_broke_off}
use Rattle.outside.specs.Edits.{edited, all_edited}
use Rattle.outside.specs.declared.edit.Edit.{Edit}
use Rattle.outside.specs.declared.edit.Edit.TheVariants as edit
use Rattle.outside.specs.Effects.{Effect, Write, Remove, Replace, Print, Stored, World, Contents, contents, after, performed, writing, removing, Off, Partly}
use Rattle.source_law.proofs.AfterLemmas.{made_was}
use Rattle.course.proofs.ToldLemmas.{contents_told}
use Rattle.view_stages.specs.Places.{Exempt, is_exempt, is_exempt_folder, OthersStay}

-- a folder lies on its own path
pub on_path : (folder : Text) → is_in folder (folder_path folder) ≡ true
on_path folder = list_any-append (text_eq folder) (fronts folder (length folder)) (folder ∷ []) ∙ or_right (is_in folder (fronts folder (length folder))) (text_eq folder folder || false) (ap (λ b. b || false) (equal_itself text_order folder))

-- an edit, and an effect, on what is exempt alone
abbrev pub PathExempt : List Exempt → Text → Type 0
PathExempt exempt folder = (d : Text) → is_in d (folder_path folder) ≡ true → list_any (is_exempt_folder d) exempt ≡ true

abbrev pub WithinEdit : List Exempt → Edit → Type 0
WithinEdit exempt (edit.MakeFolder folder) = PathExempt exempt folder
WithinEdit exempt (edit.Write folder file bytes) = (list_any (is_exempt (folder, file)) exempt ≡ true) × PathExempt exempt folder
WithinEdit exempt (edit.Remove folder file) = list_any (is_exempt (folder, file)) exempt ≡ true
WithinEdit exempt (edit.RemoveFolder folder) = list_any (is_exempt_folder folder) exempt ≡ true

abbrev pub Within : List Exempt → Effect → Type 0
Within exempt (Write folder file bytes) = (list_any (is_exempt (folder, file)) exempt ≡ true) × PathExempt exempt folder
Within exempt (Remove folder file) = list_any (is_exempt (folder, file)) exempt ≡ true
Within exempt (Replace edits) = AllByRecursion (WithinEdit exempt) edits
Within exempt (Print bytes) = Unit {0}

abbrev pub AllWithin : List Exempt → List Effect → Type 0
AllWithin exempt es = AllByRecursion (Within exempt) es

-- a store that is told, with its other files and folders as they were
pub record StaysIn (exempt : List Exempt) (t : Tree) (c : Contents) : Type 0 where
  pub store : Stored
  pub told : c.stored ≡ Some store
  pub others : OthersStay exempt t store.tree

pub stays_told : (exempt : List Exempt) (t : Tree) (c : Contents) (s : Stored) → c.stored ≡ Some s → StaysIn exempt t c → OthersStay exempt t s.tree
stays_told exempt t c s e h = subst (λ (x : Stored). OthersStay exempt t x.tree) (ap (λ (o : Option Stored). unwrap_or o s) (sym h.told ∙ e)) h.others

pub at_first_stays : (exempt : List Exempt) (t : Tree) (w : World) → w.store.tree ≡ Some t → StaysIn exempt t (contents w)
unfolding contents
at_first_stays exempt t w told = record {
  store = record { tree = t; writes = w.store.writes };
  told = ap (λ (c : Contents). c.stored) (contents_told w t told);
  others = record { stay = λ p ne. refl; folders = λ d ne. refl };
}

pub removed_others : (folder file : Text) (t : Tree) (p : Place) → p ≢ (folder, file) → map.get (map.remove t.files (folder, file)) p ≡ map.get t.files p
removed_others folder file t p ne =
    map.get-remove place_total t.files (folder, file) p
    ∙ ap (λ b. cond b None (map.get t.files p)) (false_from_ne_true _ (λ e. ne (place_exact p (folder, file) (is_eq_true _ e))))

pub removed_folder : (folder : Text) (t : Tree) (d : Text) → d ≢ folder → map.contains_key (map.remove t.folders folder) d ≡ has_folder t d
removed_folder folder t d ne =
    ap is_some (map.get-remove nat_list_cmp_total t.folders folder d
    ∙ ap (λ b. cond b None (map.get t.folders d)) (sym (texts_ties d folder) ∙ false_from_ne_true _ (λ e. ne (text_order.same d folder (is_eq_true _ (sym (text_order.ties d folder) ∙ e))))))

module _ (exempt : List Exempt) (t : Tree) where
  apart : (p q : Place) → list_any (is_exempt p) exempt ≡ false → list_any (is_exempt q) exempt ≡ true → p ≢ q
  apart p q outside within e = false≢true (sym outside ∙ ap (λ (r : Place). list_any (is_exempt r) exempt) e ∙ within)

  off_path : (d folder : Text) → list_any (is_exempt_folder d) exempt ≡ false → PathExempt exempt folder → is_in d (folder_path folder) ≡ false
  off_path d folder outside path = false_from_ne_true _ (λ i. false≢true (sym outside ∙ path d i))

  not_folder : (d folder : Text) → list_any (is_exempt_folder d) exempt ≡ false → list_any (is_exempt_folder folder) exempt ≡ true → d ≢ folder
  not_folder d folder outside within e = false≢true (sym outside ∙ ap (λ (x : Text). list_any (is_exempt_folder x) exempt) e ∙ within)

  edit_stays : (e : Edit) (s : Stored) → WithinEdit exempt e → OthersStay exempt t s.tree → OthersStay exempt t (edited e s).tree
  edit_stays (edit.MakeFolder folder) s within h = record { stay = h.stay; folders = λ d ne. made d (off_path d folder ne within) (has_folder s.tree folder) ∙ h.folders d ne }
    where
      made : (d : Text) → is_in d (folder_path folder) ≡ false → (b : Bool) → map.contains_key (cond b s.tree.folders (with_folders (folder_path folder) s.tree.folders)) d ≡ has_folder s.tree d
      made d off true = refl
      made d off false = made_was d (folder_path folder) s.tree.folders off
  edit_stays (edit.Write folder file bytes) s within h = record {
    stay = λ p ne. (write_broke_off folder file bytes s.tree).others p (apart p (folder, file) ne within.0) ∙ h.stay p ne;
    folders = λ d ne. made_was d (folder_path folder) s.tree.folders (off_path d folder ne within.1) ∙ h.folders d ne;
  }
  edit_stays (edit.Remove folder file) s within h = record { stay = λ p ne. removed_others folder file s.tree p (apart p (folder, file) ne within) ∙ h.stay p ne; folders = h.folders }
  edit_stays (edit.RemoveFolder folder) s within h = record { stay = h.stay; folders = λ d ne. gone d (not_folder d folder ne within) (has_empty_folder s.tree folder) ∙ h.folders d ne }
    where
      gone : (d : Text) → d ≢ folder → (b : Bool) → map.contains_key (cond b (map.remove s.tree.folders folder) s.tree.folders) d ≡ has_folder s.tree d
      gone d other true = removed_folder folder s.tree d other
      gone d other false = refl

  edits_stay : (es : List Edit) (s : Stored) → AllByRecursion (WithinEdit exempt) es → OthersStay exempt t s.tree → OthersStay exempt t (all_edited es s).tree
  edits_stay [] s within h = h
  edits_stay (e ∷ es) s within h = edits_stay es (edited e s) within.1 (edit_stays e s within.0 h)

  after_stays : (e : Effect) (c : Contents) → Within exempt e → StaysIn exempt t c → StaysIn exempt t (after e c)
  after_stays (Write folder file bytes) c within s = record {
    store = writing folder file bytes s.store;
    told = ap (option_map (writing folder file bytes)) s.told;
    others = edit_stays (edit.Write folder file bytes) s.store within s.others;
  }
  after_stays (Remove folder file) c within s = record {
    store = removing folder file s.store;
    told = ap (option_map (removing folder file)) s.told;
    others = edit_stays (edit.Remove folder file) s.store within s.others;
  }
  after_stays (Replace edits) c within s = record {
    store = all_edited edits s.store;
    told = ap (option_map (all_edited edits)) s.told;
    others = edits_stay edits s.store within s.others;
  }
  after_stays (Print bytes) c within s = record { store = s.store; told = s.told; others = s.others }

  off_stays : (e : Effect) (c d : Contents) → Within exempt e → Off e c d → StaysIn exempt t c → StaysIn exempt t d
  off_stays (Write folder file bytes) c d within off s =
      let left = off.0.told s.store s.told in
      record {
        store = left.0;
        told = left.1;
        others = record {
          stay = λ p ne. left.2.others p (apart p (folder, file) ne within.0) ∙ s.others.stay p ne;
          folders = λ x ne.
              both_ways (has_folder left.0.tree x) (has_folder s.store.tree x) (λ h. sym (made_was x (folder_path folder) s.store.tree.folders (off_path x folder ne within.1)) ∙ left.2.made x h) (λ h. left.2.kept x h)
              ∙ s.others.folders x ne;
        };
      }
  off_stays (Remove folder file) c d within off s =
      let left = off.0.told s.store s.told in
      record {
        store = left.0;
        told = left.1;
        others = record {
          stay = λ p ne. left.2.others p (apart p (folder, file) ne within) ∙ s.others.stay p ne;
          folders = λ x ne. both_ways (has_folder left.0.tree x) (has_folder s.store.tree x) (λ h. left.2.made x h) (λ h. left.2.kept x h) ∙ s.others.folders x ne;
        };
      }
  off_stays (Replace edits) c d within off s = absurd off
  off_stays (Print bytes) c d within off s = record { store = s.store; told = ap (λ (x : Contents). x.stored) off.1 ∙ s.told; others = s.others }

  pub performed_stays : (es : List Effect) (c : Contents) → AllWithin exempt es → StaysIn exempt t c → StaysIn exempt t (performed es c)
  performed_stays [] c within s = s
  performed_stays (e ∷ es) c within s = performed_stays es (after e c) within.1 (after_stays e c within.0 s)

  pub partly_stays : (es : List Effect) (c d : Contents) → AllWithin exempt es → Partly es c d → StaysIn exempt t c → StaysIn exempt t d
  unfolding Partly
  partly_stays [] c d within h s = subst (StaysIn exempt t) (sym h) s
  partly_stays (e ∷ es) c d within h s = elim h [
    | inl same ↦ subst (StaysIn exempt t) (sym same) s
    | inr rest ↦ elim rest [
      | inl off ↦ off_stays e c d within.0 off s
      | inr later ↦ partly_stays es (after e c) d within.1 later (after_stays e c within.0 s)
    ]
  ]
