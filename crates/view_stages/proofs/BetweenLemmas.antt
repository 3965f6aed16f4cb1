-- Effects of one plan, broken off anywhere, leave each file and folder as before or as after, but for one file; and what one of them makes at once is all there or not at all.
use Rattle.std.proofs.Common.{◌≡◌, ◌≢◌, ℕ, Bool, true, false, ◌⊎◌, inl, inr, List, [], ◌∷◌, ◌++◌, Option, None, Some, is_some, refl, sym, ap, ◌∙◌, subst, cond}
use Rattle.std.specs.Cmp.{both_ways}
use Rattle.std.specs.Cmp.Lexicographic.{nat_list_cmp_total, texts_ties}
use Rattle.std.specs.List.{AllByRecursion}
use Rattle.std.specs.FinMap as map
use Rattle.std.specs.Ordering.{eq_by_cmp}
use Rattle.std.proofs.lemmas.Bool.{false≢true, true≢false, false_from_ne_true}
use Rattle.ss_text.specs.Texts.{Text, text_cmp, text_eq, is_in}
use Rattle.outside.specs.Tree.{Tree, Place, place_cmp, folder_path, with_folders, has_folder, has_empty_folder}
use Rattle.outside.specs.WholeLaw.{is_eq_true, place_exact}
use Rattle.outside.specs.declared.edit.Edit.{Edit}
use Rattle.outside.specs.declared.edit.Edit.TheVariants as edit
use Rattle.outside.proofs.PlaceLemmas.{place_total}
use Rattle.outside.proofs.TreeLemmas.{get_made}
use Rattle.outside.specs.Effects.{Effect, Write, Remove, Replace, Print, Stored, Contents, after, performed, Off, Partly}
use Rattle.source_law.specs.Counted.{tree_edited, tree_replaced, tree_by, tree_after}
use Rattle.source_law.proofs.AfterLemmas.{stored_by, stored_after, made_was, any_same}
use Rattle.source_law.proofs.NamedLemmas.{same_text}
use Rattle.course.proofs.FrontLemmas.{partly_split}
use Rattle.view_stages.specs.Between.{IsBrokenBy, IsBetween, AllOrNothing}
use Rattle.view_stages.specs.Places.{Exempt, OthersStay}
use Rattle.view_stages.proofs.PlaceLemmas.{AllWithin, StaysIn, stays_told, performed_stays, partly_stays}

-- what these effects left of a store, between two trees
pub record LeftBetween (exempt : List Exempt) (es : List Effect) (before after : Tree) (c : Contents) : Type 0 where
  pub stored : Stored
  pub told : c.stored ≡ Some stored
  pub broken : Option Place
  pub by : IsBrokenBy broken es
  pub between : IsBetween broken before after stored.tree
  pub at_once : AllOrNothing exempt before after stored.tree

-- nothing broke off
pub none_by : (es : List Effect) → IsBrokenBy None es
none_by [] = refl
none_by (e ∷ es) = inr (none_by es)

-- nothing was done
none_between : (before after : Tree) → IsBetween None before after before
none_between before after = record { files = λ p whole. inl refl; folders = λ d. inl refl }

-- a folder on a path is there once the path is made
made_there : (d : Text) (path : List Text) (s : map.FinMap text_cmp (Unit {0})) → is_in d path ≡ true → map.contains_key (with_folders path s) d ≡ true
made_there d path s h = ap is_some (get_made path s d ∙ ap (λ b. cond b (Some tt) (map.get s d)) (any_same d path ∙ h))

-- a folder that is removed is not there
removed_is : (d : Text) (s : map.FinMap text_cmp (Unit {0})) (folder : Text) → map.contains_key (map.remove s folder) d ≡ is_some (cond (text_eq d folder) None (map.get s d))
removed_is d s folder = ap is_some (map.get-remove nat_list_cmp_total s folder d ∙ ap (λ b. cond b None (map.get s d)) (sym (texts_ties d folder)))

-- the edits that an effect makes, one by one or at once
abbrev edits_in : Effect → List Edit
edits_in (Write folder file bytes) = edit.Write folder file bytes ∷ []
edits_in (Remove folder file) = edit.Remove folder file ∷ []
edits_in (Replace edits) = edits
edits_in (Print bytes) = []

by_edits : (e : Effect) (t : Tree) → tree_replaced (edits_in e) t ≡ tree_by e t
by_edits (Write folder file bytes) t = refl
by_edits (Remove folder file) t = refl
by_edits (Replace edits) t = refl
by_edits (Print bytes) t = refl

-- a plan: what each file is to hold, and which folders are to go
module _ (wanted : Place → Option (List ℕ)) (Gone : Text → Type 0) where
  -- none of the folders that are to go lies on this path
  abbrev pub Stands : Text → Type 0
  Stands folder = (d : Text) → Gone d → is_in d (folder_path folder) ≡ false

  -- an edit, and an effect, that does what is planned
  abbrev pub PlannedEdit : Edit → Type 0
  PlannedEdit (edit.MakeFolder folder) = Stands folder
  PlannedEdit (edit.Write folder file bytes) = (wanted (folder, file) ≡ Some bytes) × Stands folder
  PlannedEdit (edit.Remove folder file) = wanted (folder, file) ≡ None
  PlannedEdit (edit.RemoveFolder folder) = Gone folder

  abbrev pub Planned : Effect → Type 0
  Planned (Write folder file bytes) = (wanted (folder, file) ≡ Some bytes) × Stands folder
  Planned (Remove folder file) = wanted (folder, file) ≡ None
  Planned (Replace edits) = AllByRecursion PlannedEdit edits
  Planned (Print bytes) = Unit {0}

  abbrev pub AllPlanned : List Effect → Type 0
  AllPlanned es = AllByRecursion Planned es

  pub both_planned : (es fs : List Effect) → AllPlanned es → AllPlanned fs → AllPlanned (es ++ fs)
  both_planned [] fs h k = k
  both_planned (e ∷ es) fs h k = (h.0, both_planned es fs h.1 k)

  as_edits : (e : Effect) → Planned e → AllByRecursion PlannedEdit (edits_in e)
  as_edits (Write folder file bytes) h = (h, tt)
  as_edits (Remove folder file) h = (h, tt)
  as_edits (Replace edits) h = h
  as_edits (Print bytes) h = tt

  -- a file is as it was, or as it is wanted
  abbrev FileMoves : Place → Tree → Tree → Type 0
  FileMoves p t u = (map.get u.files p ≡ map.get t.files p) ⊎ (map.get u.files p ≡ wanted p)

  file_then : (p : Place) (t u v : Tree) → FileMoves p t u → FileMoves p u v → FileMoves p t v
  file_then p t u v first later = elim later [ inl same ↦ elim first [ inl was ↦ inl (same ∙ was) | inr is ↦ inr (same ∙ is) ] | inr is ↦ inr is ]

  at_place : (k p : Place) (v o : Option (List ℕ)) → wanted k ≡ v → (cond (eq_by_cmp place_cmp p k) v o ≡ o) ⊎ (cond (eq_by_cmp place_cmp p k) v o ≡ wanted p)
  at_place k p v o is = by_case (eq_by_cmp place_cmp p k) refl
    where
      by_case : (b : Bool) → eq_by_cmp place_cmp p k ≡ b → (cond b v o ≡ o) ⊎ (cond b v o ≡ wanted p)
      by_case true e = inr (sym is ∙ ap wanted (sym (place_exact p k (is_eq_true _ e))))
      by_case false e = inl refl

  file_edit : (p : Place) (e : Edit) (t : Tree) → PlannedEdit e → FileMoves p t (tree_edited e t)
  file_edit p (edit.MakeFolder folder) t plan = inl refl
  file_edit p (edit.Write folder file bytes) t plan =
      let is = map.get-insert place_total t.files (folder, file) bytes p in
      elim (at_place (folder, file) p (Some bytes) (map.get t.files p) plan.0) [ inl same ↦ inl (is ∙ same) | inr meant ↦ inr (is ∙ meant) ]
  file_edit p (edit.Remove folder file) t plan =
      let is = map.get-remove place_total t.files (folder, file) p in
      elim (at_place (folder, file) p None (map.get t.files p) plan) [ inl same ↦ inl (is ∙ same) | inr meant ↦ inr (is ∙ meant) ]
  file_edit p (edit.RemoveFolder folder) t plan = inl refl

  file_edits : (p : Place) (es : List Edit) (t : Tree) → AllByRecursion PlannedEdit es → FileMoves p t (tree_replaced es t)
  file_edits p [] t plan = inl refl
  file_edits p (e ∷ es) t plan = file_then p t (tree_edited e t) (tree_replaced es (tree_edited e t)) (file_edit p e t plan.0) (file_edits p es (tree_edited e t) plan.1)

  file_by : (p : Place) (e : Effect) (t : Tree) → Planned e → FileMoves p t (tree_by e t)
  file_by p e t plan = subst (FileMoves p t) (by_edits e t) (file_edits p (edits_in e) t (as_edits e plan))

  file_after : (p : Place) (es : List Effect) (t : Tree) → AllPlanned es → FileMoves p t (tree_after es t)
  file_after p [] t plan = inl refl
  file_after p (e ∷ es) t plan = file_then p t (tree_by e t) (tree_after es (tree_by e t)) (file_by p e t plan.0) (file_after p es (tree_by e t) plan.1)

  -- one that is as it is wanted stays so
  file_stays : (p : Place) (es : List Effect) (t : Tree) → AllPlanned es → map.get t.files p ≡ wanted p → map.get (tree_after es t).files p ≡ wanted p
  file_stays p es t plan was = elim (file_after p es t plan) [ inl same ↦ same ∙ was | inr is ↦ is ]

  -- a folder is as it was, or there and not to go, or gone as it is to be
  abbrev Settled : Text → Bool → Type 0
  Settled d b = ((b ≡ true) × (Gone d → ⊥)) ⊎ ((b ≡ false) × Gone d)

  abbrev FolderMoves : Text → Tree → Tree → Type 0
  FolderMoves d t u = (has_folder u d ≡ has_folder t d) ⊎ Settled d (has_folder u d)

  folder_then : (d : Text) (t u v : Tree) → FolderMoves d t u → FolderMoves d u v → FolderMoves d t v
  folder_then d t u v first later = elim later [ inl same ↦ elim first [ inl was ↦ inl (same ∙ was) | inr is ↦ inr (subst (Settled d) (sym same) is) ] | inr is ↦ inr is ]

  one_settled : (d : Text) (a b : Bool) → Settled d a → Settled d b → b ≡ a
  one_settled d a b h k = elim h [
    | inl there ↦ elim k [ inl here ↦ here.0 ∙ sym there.0 | inr gone ↦ absurd (there.1 gone.1) ]
    | inr gone ↦ elim k [ inl here ↦ absurd (here.1 gone.1) | inr too ↦ too.0 ∙ sym gone.0 ]
  ]

  -- the folders of a path that stands are not to go
  on_standing : (folder d : Text) → Stands folder → is_in d (folder_path folder) ≡ true → Gone d → ⊥
  on_standing folder d stands on goes = true≢false (sym on ∙ stands d goes)

  path_made : (folder d : Text) (t u : Tree) → Stands folder → u.folders ≡ with_folders (folder_path folder) t.folders → FolderMoves d t u
  path_made folder d t u stands is = by_path (is_in d (folder_path folder)) refl
    where
      here : has_folder u d ≡ map.contains_key (with_folders (folder_path folder) t.folders) d
      here = ap (λ (s : map.FinMap text_cmp (Unit {0})). map.contains_key s d) is

      by_path : (b : Bool) → is_in d (folder_path folder) ≡ b → FolderMoves d t u
      by_path true e = inr (inl (here ∙ made_there d (folder_path folder) t.folders e, on_standing folder d stands e))
      by_path false e = inl (here ∙ made_was d (folder_path folder) t.folders e)

  folder_edit : (d : Text) (e : Edit) (t : Tree) → PlannedEdit e → FolderMoves d t (tree_edited e t)
  folder_edit d (edit.MakeFolder folder) t plan =
      elim (has_folder t folder) as (λ b. FolderMoves d t (record { folders = cond b t.folders (with_folders (folder_path folder) t.folders); files = t.files })) [ true ↦ inl refl | false ↦ path_made folder d t more plan refl ]
    where
      more : Tree
      more = record { folders = with_folders (folder_path folder) t.folders; files = t.files }
  folder_edit d (edit.Write folder file bytes) t plan = path_made folder d t (tree_edited (edit.Write folder file bytes) t) plan.1 refl
  folder_edit d (edit.Remove folder file) t plan = inl refl
  folder_edit d (edit.RemoveFolder folder) t plan =
      elim (has_empty_folder t folder) as (λ b. FolderMoves d t (record { folders = cond b (map.remove t.folders folder) t.folders; files = t.files })) [ true ↦ by_same (text_eq d folder) refl | false ↦ inl refl ]
    where
      less : Tree
      less = record { folders = map.remove t.folders folder; files = t.files }

      by_same : (b : Bool) → text_eq d folder ≡ b → FolderMoves d t less
      by_same true e = inr (inr (removed_is d t.folders folder ∙ ap (λ b. is_some (cond b None (map.get t.folders d))) e, subst Gone (sym (same_text d folder e)) plan))
      by_same false e = inl (removed_is d t.folders folder ∙ ap (λ b. is_some (cond b None (map.get t.folders d))) e)

  folder_edits : (d : Text) (es : List Edit) (t : Tree) → AllByRecursion PlannedEdit es → FolderMoves d t (tree_replaced es t)
  folder_edits d [] t plan = inl refl
  folder_edits d (e ∷ es) t plan = folder_then d t (tree_edited e t) (tree_replaced es (tree_edited e t)) (folder_edit d e t plan.0) (folder_edits d es (tree_edited e t) plan.1)

  folder_by : (d : Text) (e : Effect) (t : Tree) → Planned e → FolderMoves d t (tree_by e t)
  folder_by d e t plan = subst (FolderMoves d t) (by_edits e t) (folder_edits d (edits_in e) t (as_edits e plan))

  folder_after : (d : Text) (es : List Effect) (t : Tree) → AllPlanned es → FolderMoves d t (tree_after es t)
  folder_after d [] t plan = inl refl
  folder_after d (e ∷ es) t plan = folder_then d t (tree_by e t) (tree_after es (tree_by e t)) (folder_by d e t plan.0) (folder_after d es (tree_by e t) plan.1)

  -- one that is settled stays so
  folder_stays : (d : Text) (es : List Effect) (t : Tree) → AllPlanned es → Settled d (has_folder t d) → has_folder (tree_after es t) d ≡ has_folder t d
  folder_stays d es t plan was = elim (folder_after d es t plan) [ inl same ↦ same | inr is ↦ one_settled d (has_folder t d) (has_folder (tree_after es t) d) was is ]

  -- what one effect made of a file and of a folder is what is there at the end, or it left it as it was
  module _ (es : List Effect) (plan : AllPlanned es) (t : Tree) where
    -- so what is between this effect's tree and the end is between what was before it and the end
    widened : (e : Effect) (k : Option Place) (left : Tree) → Planned e → IsBetween k (tree_by e t) (tree_after es (tree_by e t)) left → IsBetween k t (tree_after es (tree_by e t)) left
    widened e k left h between =
        let u : Tree = tree_by e t in
        record {
          files = λ p whole. elim (between.files p whole) [ inl was ↦ elim (file_by p e t h) [ inl same ↦ inl (was ∙ same) | inr is ↦ inr (was ∙ is ∙ sym (file_stays p es u plan is)) ] | inr is ↦ inr is ];
          folders = λ d. elim (between.folders d) [ inl was ↦ elim (folder_by d e t h) [ inl same ↦ inl (was ∙ same) | inr is ↦ inr (was ∙ sym (folder_stays d es u plan is)) ] | inr is ↦ inr is ];
        }

    -- a write that broke off: the folders that are left are those before it, or on a path that is there at the end
    folder_between : (u left : Tree) (path : Text) (d : Text) → (is_in d (folder_path path) ≡ true → has_folder (tree_after es u) d ≡ true)
        → (has_folder t d ≡ true → has_folder left d ≡ true) → (has_folder left d ≡ true → map.contains_key (with_folders (folder_path path) t.folders) d ≡ true)
        → (has_folder left d ≡ has_folder t d) ⊎ (has_folder left d ≡ has_folder (tree_after es u) d)
    folder_between u left path d last kept made = by_both (has_folder left d) (is_in d (folder_path path)) refl refl
      where
        by_both : (a b : Bool) → has_folder left d ≡ a → is_in d (folder_path path) ≡ b → (has_folder left d ≡ has_folder t d) ⊎ (has_folder left d ≡ has_folder (tree_after es u) d)
        by_both true true e f = inr (e ∙ sym (last f))
        by_both true false e f = inl (e ∙ sym (sym (made_was d (folder_path path) t.folders f) ∙ made e))
        by_both false b e f = inl (e ∙ sym (false_from_ne_true _ (λ was. false≢true (sym e ∙ kept was))))

  -- what is left of a store whose effects are of a plan
  pub record Left (es : List Effect) (before after : Tree) (c : Contents) : Type 0 where
    pub stored : Stored
    pub told : c.stored ≡ Some stored
    pub broken : Option Place
    pub by : IsBrokenBy broken es
    pub between : IsBetween broken before after stored.tree

  some_place : (q p : Place) → ◌≢◌ {A = Option Place} (Some q) (Some p) → p ≢ q
  some_place q p other same = other (ap Some (sym same))

  off_between : (e : Effect) (es : List Effect) (old new : Contents) (s : Stored) → Planned e → AllPlanned es → old.stored ≡ Some s → Off e old new → Left (e ∷ es) s.tree (tree_after es (tree_by e s.tree)) new
  off_between (Write folder file bytes) es old new s h plan told off =
      let left = off.0.told s told in
      let u : Tree = tree_by (Write folder file bytes) s.tree in
      record {
        stored = left.0;
        told = left.1;
        broken = Some (folder, file);
        by = inl refl;
        between = record {
          files = λ p other. inl (left.2.others p (some_place (folder, file) p other));
          folders = λ d. folder_between es plan s.tree u left.0.tree folder d (λ on.
              let made : has_folder u d ≡ true = made_there d (folder_path folder) s.tree.folders on in
              folder_stays d es u plan (inl (made, on_standing folder d h.1 on)) ∙ made) (left.2.kept d) (left.2.made d);
        };
      }
  off_between (Remove folder file) es old new s h plan told off =
      let left = off.0.told s told in
      record {
        stored = left.0;
        told = left.1;
        broken = Some (folder, file);
        by = inl refl;
        between = record { files = λ p other. inl (left.2.others p (some_place (folder, file) p other)); folders = λ d. inl (both_ways (has_folder left.0.tree d) (has_folder s.tree d) (left.2.made d) (left.2.kept d)) };
      }
  off_between (Replace edits) es old new s h plan told off = absurd off
  off_between (Print bytes) es old new s h plan told off = record { stored = s; told = ap (λ (x : Contents). x.stored) off.1 ∙ told; broken = None; by = inl refl; between = none_between s.tree (tree_after es s.tree) }

  -- the effects of a plan, up to some place
  partly_left : (es : List Effect) (old new : Contents) (s : Stored) → AllPlanned es → old.stored ≡ Some s → Partly es old new → Left es s.tree (tree_after es s.tree) new
  unfolding Partly
  partly_left [] old new s plan told same = record { stored = s; told = ap (λ (x : Contents). x.stored) same ∙ told; broken = None; by = refl; between = none_between s.tree s.tree }
  partly_left (e ∷ es) old new s plan told h = elim h [
    | inl same ↦ record { stored = s; told = ap (λ (x : Contents). x.stored) same ∙ told; broken = None; by = none_by (e ∷ es); between = none_between s.tree (tree_after (e ∷ es) s.tree) }
    | inr rest ↦ elim rest [
      | inl off ↦ off_between e es old new s plan.0 plan.1 told off
      | inr done ↦
          let b = partly_left es (after e old) new (stored_by (e ∷ []) s) plan.1 (stored_after (e ∷ []) old s told) done in
          record { stored = b.stored; told = b.told; broken = b.broken; by = inr b.by; between = widened es plan.1 s.tree e b.broken b.stored.tree plan.0 b.between }
    ]
  ]

-- effects on what is exempt, but for one list of edits that is made at once
pub record IsOnce (exempt : List Exempt) (es : List Effect) : Type 0 where
  pub first : List Effect
  pub edits : List Edit
  pub last : List Effect
  pub are : es ≡ first ++ Replace edits ∷ last
  pub before : AllWithin exempt first
  pub behind : AllWithin exempt last

abbrev pub AtOnce : List Exempt → List Effect → Type 0
AtOnce exempt es = AllWithin exempt es ⊎ IsOnce exempt es

pub tree_append : (es fs : List Effect) (t : Tree) → tree_after (es ++ fs) t ≡ tree_after fs (tree_after es t)
tree_append [] fs t = refl
tree_append (e ∷ es) fs t = tree_append es fs (tree_by e t)

module _ (exempt : List Exempt) where
  -- a store as it is
  at_now : (c : Contents) (s : Stored) → c.stored ≡ Some s → StaysIn exempt s.tree c
  at_now c s told = record { store = s; told = told; others = record { stay = λ p ne. refl; folders = λ d ne. refl } }

  -- two trees that one stayed as
  both_stay : (t u v : Tree) → OthersStay exempt t u → OthersStay exempt t v → OthersStay exempt u v
  both_stay t u v h k = record { stay = λ p ne. k.stay p ne ∙ sym (h.stay p ne); folders = λ d ne. k.folders d ne ∙ sym (h.folders d ne) }

  module _ (first : List Effect) (edits : List Edit) (last : List Effect) (before : AllWithin exempt first) (behind : AllWithin exempt last) (old new : Contents) (s u : Stored) (told : old.stored ≡ Some s) (is : new.stored ≡ Some u) where
    abbrev t : Tree
    t = s.tree

    abbrev begun : Contents
    begun = performed first old

    -- where the edits were not made, all is as it was
    not_made : StaysIn exempt t new → AllOrNothing exempt t (tree_after last (tree_replaced edits (tree_after first t))) u.tree
    not_made h = inl (stays_told exempt t new u is h)

    -- where they were, all is as at the end
    made : Partly last (after (Replace edits) begun) new → AllOrNothing exempt t (tree_after last (tree_replaced edits (tree_after first t))) u.tree
    made h =
        let mid : Stored = stored_by (Replace edits ∷ []) (stored_by first s) in
        let here = stored_after (Replace edits ∷ []) begun (stored_by first s) (stored_after first old s told) in
        let now = stays_told exempt mid.tree new u is (partly_stays exempt mid.tree last (after (Replace edits) begun) new behind h (at_now (after (Replace edits) begun) mid here)) in
        let end = stays_told exempt mid.tree (performed last (after (Replace edits) begun)) (stored_by last mid) (stored_after last (after (Replace edits) begun) mid here)
        (performed_stays exempt mid.tree last (after (Replace edits) begun) behind (at_now (after (Replace edits) begun) mid here)) in
        inr (both_stay mid.tree (stored_by last mid).tree u.tree end now)

    once : Partly (first ++ Replace edits ∷ last) old new → AllOrNothing exempt t (tree_after last (tree_replaced edits (tree_after first t))) u.tree
    unfolding Partly
    once h = elim (partly_split first (Replace edits ∷ last) old new h) [
      | inl early ↦ not_made (partly_stays exempt t first old new before early (at_now old s told))
      | inr late ↦ elim late [
        | inl same ↦ not_made (subst (StaysIn exempt t) (sym same) (performed_stays exempt t first old before (at_now old s told)))
        | inr rest ↦ elim rest [ inl off ↦ absurd off | inr later ↦ made later ]
      ]
    ]

  -- what is not exempt is all as before, or all as at the end
  all_or_nothing : (es : List Effect) (old new : Contents) (s u : Stored) → AtOnce exempt es → old.stored ≡ Some s → new.stored ≡ Some u → Partly es old new → AllOrNothing exempt s.tree (tree_after es s.tree) u.tree
  all_or_nothing es old new s u how told is h = elim how [
    | inl within ↦ inl (stays_told exempt s.tree new u is (partly_stays exempt s.tree es old new within h (at_now old s told)))
    | inr o ↦
        let whole : tree_after es s.tree ≡ tree_after o.last (tree_replaced o.edits (tree_after o.first s.tree)) = ap (λ (fs : List Effect). tree_after fs s.tree) o.are ∙ tree_append o.first (Replace o.edits ∷ o.last) s.tree in
        subst (λ (v : Tree). AllOrNothing exempt s.tree v u.tree) (sym whole) (once o.first o.edits o.last o.before o.behind old new s u told is (subst (λ (fs : List Effect). Partly fs old new) o.are h))
  ]

-- effects of a plan, of which one at most is not on what is exempt, and that one is made at once
pub partly_between : (exempt : List Exempt) (wanted : Place → Option (List ℕ)) (Gone : Text → Type 0) (es : List Effect) (old new : Contents) (s : Stored) → AllPlanned wanted Gone es → AtOnce exempt es → old.stored ≡ Some s → Partly es old new
    → LeftBetween exempt es s.tree (tree_after es s.tree) new
partly_between exempt wanted Gone es old new s plan how told h =
    let l = partly_left wanted Gone es old new s plan told h in
    record { stored = l.stored; told = l.told; broken = l.broken; by = l.by; between = l.between; at_once = all_or_nothing exempt es old new s l.stored how told l.told h }
