-- The tree that effects leave, and what they count.
use Rattle.std.proofs.Common.{◌≡◌, ◌+◌, ◌∷◌, ◌++◌, ◌∙◌, ◌==◌, [], ℕ, zero, suc, Bool, true, false, cond, ◌||◌, List, Option, Some, None, is_some, refl, sym, ap, take, length, arith}
use Rattle.std.specs.Prelude.{option_map, slice_index}
use Rattle.std.specs.FinMap as map_of
use Rattle.std.specs.List.{AllByRecursion, list_any}
use Rattle.std.specs.Ordering.{eq_by_cmp}
use Rattle.std.specs.Cmp.Lexicographic.{nat_list_cmp_total, texts_ties}
use Rattle.std.proofs.lemmas.Bool.{eqb-true, false_from_ne_true}
use Rattle.std.proofs.lemmas.List.Folds.{list_any-append}
use Rattle.ss_text.specs.Texts.{Text, text_cmp, text_eq, is_in}
use Rattle.outside.specs.Counts.{risen}
use Rattle.outside.specs.Tree.{Tree, file_at, has_folder, has_empty_folder, fronts, folder_path, with_folders}
use Rattle.outside.specs.Whole.{IsWhole}
use Rattle.outside.proofs.TreeLemmas.{get_made}
use Rattle.outside.proofs.WholeLemmas.{whole_with_file, whole_without_file, whole_with_folder, whole_without_folder}
use Rattle.outside.specs.Edits.{edited, all_edited}
use Rattle.outside.specs.declared.edit.Edit.{Edit}
use Rattle.outside.specs.declared.edit.Edit.TheVariants as edit
use Rattle.outside.specs.Effects.{Effect, Write, Remove, Replace, Print, Stored, Contents, after, performed}
use Rattle.source_law.specs.Counted.{tree_edited, tree_replaced, tree_by, tree_after, count_edited, count_replaced, count_of, counted}
use Rattle.source_law.proofs.NamedLemmas.{same_text}

-- a store after effects
abbrev pub stored_by : List Effect → Stored → Stored
stored_by es s = record { tree = tree_after es s.tree; writes = risen s.writes (counted es s.tree) }

pub none_risen : (w : ℕ) → w ≡ risen w 0
none_risen w = omega arith

twice_risen : (u v a b : ℕ) → v ≡ risen u a → risen v b ≡ risen u (a + b)
twice_risen u v a b e = omega (arith, e)

once_removed : (b : Bool) (w : ℕ) → cond b (risen w 1) w ≡ risen w (cond b 1 0)
once_removed true w = refl
once_removed false w = omega arith

once_made : (b : Bool) (w : ℕ) → cond b w (risen w 1) ≡ risen w (cond b 0 1)
once_made true w = omega arith
once_made false w = refl

-- a store after one edit, and after edits
record Edits (e : Edit) (s : Stored) : Type 0 where
  tree : (edited e s).tree ≡ tree_edited e s.tree
  writes : (edited e s).writes ≡ risen s.writes (count_edited e s.tree)

edits : (e : Edit) (s : Stored) → Edits e s
edits (edit.MakeFolder folder) s = record { tree = refl; writes = once_made (has_folder s.tree folder) s.writes }
edits (edit.Write folder file bytes) s = record { tree = refl; writes = refl }
edits (edit.Remove folder file) s = record { tree = refl; writes = once_removed (is_some (file_at s.tree folder file)) s.writes }
edits (edit.RemoveFolder folder) s = record { tree = refl; writes = once_removed (has_empty_folder s.tree folder) s.writes }

pub tree_of_edits : (es : List Edit) (s : Stored) → (all_edited es s).tree ≡ tree_replaced es s.tree
tree_of_edits [] s = refl
tree_of_edits (e ∷ es) s = tree_of_edits es (edited e s) ∙ ap (tree_replaced es) (edits e s).tree

writes_of_edits : (es : List Edit) (s : Stored) → (all_edited es s).writes ≡ risen s.writes (count_replaced es s.tree)
writes_of_edits [] s = none_risen s.writes
writes_of_edits (e ∷ es) s =
    let b = edits e s in
    writes_of_edits es (edited e s) ∙ ap (λ (u : Tree). risen (edited e s).writes (count_replaced es u)) b.tree
    ∙ twice_risen s.writes (edited e s).writes (count_edited e s.tree) (count_replaced es (tree_edited e s.tree)) b.writes

-- a store after one effect
record Becomes (e : Effect) (c : Contents) (s : Stored) : Type 0 where
  now : Stored
  is : (after e c).stored ≡ Some now
  tree : now.tree ≡ tree_by e s.tree
  writes : now.writes ≡ risen s.writes (count_of e s.tree)

becomes : (e : Effect) (c : Contents) (s : Stored) → c.stored ≡ Some s → Becomes e c s
becomes (Write folder file bytes) c s h = record { now = _; is = ap (option_map _) h; tree = refl; writes = refl }
becomes (Remove folder file) c s h = record { now = _; is = ap (option_map _) h; tree = refl; writes = once_removed (is_some (file_at s.tree folder file)) s.writes }
becomes (Replace es) c s h = record { now = _; is = ap (option_map (all_edited es)) h; tree = tree_of_edits es s; writes = writes_of_edits es s }
becomes (Print bytes) c s h = record { now = s; is = h; tree = refl; writes = none_risen s.writes }

pub stored_after : (es : List Effect) (c : Contents) (s : Stored) → c.stored ≡ Some s → (performed es c).stored ≡ Some (stored_by es s)
stored_after [] c s e = e ∙ ap (λ (w : ℕ). Some (record { tree = s.tree; writes = w })) (none_risen s.writes)
stored_after (e ∷ es) c s h =
    let b = becomes e c s h in
    stored_after es (after e c) b.now b.is
    ∙ ap (λ (u : Tree). Some (record { tree = tree_after es u; writes = risen b.now.writes (counted es u) })) b.tree
    ∙ ap (λ (w : ℕ). Some (record { tree = tree_after es (tree_by e s.tree); writes = w })) (twice_risen s.writes b.now.writes (count_of e s.tree) (counted es (tree_by e s.tree)) b.writes)

-- effects that print nothing
abbrev pub Silent : Effect → Type 0
Silent (Print bytes) = ⊥
Silent e = Unit {0}

one_silent : (e : Effect) (c : Contents) → Silent e → (after e c).held ≡ c.held
one_silent (Write folder file bytes) c s = refl
one_silent (Remove folder file) c s = refl
one_silent (Replace edits) c s = refl
one_silent (Print bytes) c s = absurd s

held_after : (es : List Effect) (c : Contents) → AllByRecursion Silent es → (performed es c).held ≡ c.held
held_after [] c s = refl
held_after (e ∷ es) c s = held_after es (after e c) s.1 ∙ one_silent e c s.0

pub silent_after : (es : List Effect) (s : Stored) (h : Option (List ℕ)) → AllByRecursion Silent es → performed es (record { stored = Some s; held = h }) ≡ record { stored = Some (stored_by es s); held = h }
silent_after es s h silent =
    let c : Contents = performed es (record { stored = Some s; held = h }) in
    ap (λ (x : Option Stored). record { stored = x; held = c.held }) (stored_after es (record { stored = Some s; held = h }) s refl)
    ∙ ap (λ (x : Option (List ℕ)). record { stored = Some (stored_by es s); held = x }) (held_after es (record { stored = Some s; held = h }) silent)

-- a tree stays whole
whole_edited : (e : Edit) (t : Tree) → IsWhole t → IsWhole (tree_edited e t)
whole_edited (edit.MakeFolder folder) t h = whole_with_folder folder t h
whole_edited (edit.Write folder file bytes) t h = whole_with_file folder file bytes t h
whole_edited (edit.Remove folder file) t h = whole_without_file folder file t h
whole_edited (edit.RemoveFolder folder) t h = whole_without_folder folder t h

whole_replaced : (es : List Edit) (t : Tree) → IsWhole t → IsWhole (tree_replaced es t)
whole_replaced [] t h = h
whole_replaced (e ∷ es) t h = whole_replaced es (tree_edited e t) (whole_edited e t h)

whole_by : (e : Effect) (t : Tree) → IsWhole t → IsWhole (tree_by e t)
whole_by (Write folder file bytes) t h = whole_with_file folder file bytes t h
whole_by (Remove folder file) t h = whole_without_file folder file t h
whole_by (Replace edits) t h = whole_replaced edits t h
whole_by (Print bytes) t h = h

pub whole_after : (es : List Effect) (t : Tree) → IsWhole t → IsWhole (tree_after es t)
whole_after [] t h = h
whole_after (e ∷ es) t h = whole_after es (tree_by e t) (whole_by e t h)

-- a folder that no edit and no effect makes
abbrev pub EditMakesNot : Text → Edit → Type 0
EditMakesNot d (edit.MakeFolder folder) = is_in d (folder_path folder) ≡ false
EditMakesNot d (edit.Write folder file bytes) = is_in d (folder_path folder) ≡ false
EditMakesNot d (edit.Remove folder file) = Unit {0}
EditMakesNot d (edit.RemoveFolder folder) = Unit {0}

abbrev pub MakesNot : Text → Effect → Type 0
MakesNot d (Write folder file bytes) = is_in d (folder_path folder) ≡ false
MakesNot d (Remove folder file) = Unit {0}
MakesNot d (Replace edits) = AllByRecursion (EditMakesNot d) edits
MakesNot d (Print bytes) = Unit {0}

pub any_same : (d : Text) (fs : List Text) → list_any (eq_by_cmp text_cmp d) fs ≡ is_in d fs
any_same d [] = refl
any_same d (f ∷ fs) = ap (λ b. b || list_any (eq_by_cmp text_cmp d) fs) (sym (texts_ties d f)) ∙ ap (λ b. text_eq d f || b) (any_same d fs)

pub made_was : (d : Text) (path : List Text) (s : map_of.FinMap text_cmp (Unit {0})) → is_in d path ≡ false → map_of.contains_key (with_folders path s) d ≡ map_of.contains_key s d
made_was d path s none = ap is_some (get_made path s d ∙ ap (λ b. cond b (Some tt) (map_of.get s d)) (any_same d path ∙ none))

unit_was : (b : Bool) (o : Option (Unit {0})) → is_some (cond b None o) ≡ true → is_some o ≡ true
unit_was true o h = absurd (cc h)
unit_was false o h = h

edit_was : (d : Text) (e : Edit) (t : Tree) → EditMakesNot d e → has_folder (tree_edited e t) d ≡ true → has_folder t d ≡ true
edit_was d (edit.MakeFolder folder) t none h =
    elim (has_folder t folder) as (λ b. map_of.contains_key (cond b t.folders (with_folders (folder_path folder) t.folders)) d ≡ true → has_folder t d ≡ true) [
      | true ↦ λ h. h
      | false ↦ λ h. sym (made_was d (folder_path folder) t.folders none) ∙ h
    ] h
edit_was d (edit.Write folder file bytes) t none h = sym (made_was d (folder_path folder) t.folders none) ∙ h
edit_was d (edit.Remove folder file) t none h = h
edit_was d (edit.RemoveFolder folder) t none h =
    elim (has_empty_folder t folder) as (λ b. map_of.contains_key (cond b (map_of.remove t.folders folder) t.folders) d ≡ true → has_folder t d ≡ true) [
      | true ↦ λ h. unit_was (eq_by_cmp text_cmp d folder) (map_of.get t.folders d) (sym (ap is_some (map_of.get-remove nat_list_cmp_total t.folders folder d)) ∙ h)
      | false ↦ λ h. h
    ] h

edits_was : (d : Text) (es : List Edit) (t : Tree) → AllByRecursion (EditMakesNot d) es → has_folder (tree_replaced es t) d ≡ true → has_folder t d ≡ true
edits_was d [] t none h = h
edits_was d (e ∷ es) t none h = edit_was d e t none.0 (edits_was d es (tree_edited e t) none.1 h)

one_was : (d : Text) (e : Effect) (t : Tree) → MakesNot d e → has_folder (tree_by e t) d ≡ true → has_folder t d ≡ true
one_was d (Write folder file bytes) t none h = sym (made_was d (folder_path folder) t.folders none) ∙ h
one_was d (Remove folder file) t none h = h
one_was d (Replace edits) t none h = edits_was d edits t none h
one_was d (Print bytes) t none h = h

pub was_there : (d : Text) (es : List Effect) (t : Tree) → AllByRecursion (MakesNot d) es → has_folder (tree_after es t) d ≡ true → has_folder t d ≡ true
was_there d [] t none h = h
was_there d (e ∷ es) t none h = one_was d e t none.0 (was_there d es (tree_by e t) none.1 h)

-- the folders above a folder
front_is : (f : Text) (n : ℕ) → (slice_index f n == 47) ≡ true → (rest : Text) × (f ≡ take n f ++ 47 ∷ rest)
front_is [] n h = absurd (cc h)
front_is (b ∷ bs) zero h = (bs, ap (λ (x : ℕ). x ∷ bs) (eqb-true b 47 h))
front_is (b ∷ bs) (suc n) h = let later = front_is bs n h in (later.0, ap (λ (xs : Text). b ∷ xs) later.1)

any_front : (d f : Text) (n : ℕ) → is_in d (fronts f n) ≡ true → (rest : Text) × (f ≡ d ++ 47 ∷ rest)
any_front d f zero h = absurd (cc h)
any_front d f (suc n) h = by_byte (slice_index f n == 47) refl h (λ i. any_front d f n i)
  where
    last : (slice_index f n == 47) ≡ true → text_eq d (take n f) ≡ true → (rest : Text) × (f ≡ d ++ 47 ∷ rest)
    last e same = let front = front_is f n e in (front.0, front.1 ∙ ap (λ (x : Text). x ++ 47 ∷ front.0) (sym (same_text d (take n f) same)))

    either : (a b : Bool) → (a || (b || false)) ≡ true → (a ≡ false → b ≡ true)
    either true b h e = absurd (cc e)
    either false true h e = refl
    either false false h e = absurd (cc h)

    by_byte : (b : Bool) → (slice_index f n == 47) ≡ b → is_in d (cond b (fronts f n ++ take n f ∷ []) (fronts f n)) ≡ true → (is_in d (fronts f n) ≡ true → (rest : Text) × (f ≡ d ++ 47 ∷ rest)) → (rest : Text) × (f ≡ d ++ 47 ∷ rest)
    by_byte false e i rest = rest i
    by_byte true e i rest = by_front (is_in d (fronts f n)) refl
      where
        by_front : (a : Bool) → is_in d (fronts f n) ≡ a → (r : Text) × (f ≡ d ++ 47 ∷ r)
        by_front true here = rest here
        by_front false none = last e (either (is_in d (fronts f n)) (text_eq d (take n f)) (sym (list_any-append (text_eq d) (fronts f n) (take n f ∷ [])) ∙ i) none)

pub no_path : (d f : Text) → (d ≡ f → ⊥) → ((rest : Text) → f ≡ d ++ 47 ∷ rest → ⊥) → is_in d (folder_path f) ≡ false
no_path d f other above =
    list_any-append (text_eq d) (fronts f (length f)) (f ∷ [])
    ∙ neither (is_in d (fronts f (length f))) (text_eq d f)
    (false_from_ne_true _ (λ i. let front = any_front d f (length f) i in above front.0 front.1))
    (false_from_ne_true _ (λ same. other (same_text d f same)))
  where
    neither : (a b : Bool) → a ≡ false → b ≡ false → (a || (b || false)) ≡ false
    neither a b p q = rw (p, q) refl
