-- Trees in which no file lies outside a folder stay so.
use Rattle.std.proofs.Common.{◌≡◌, ◌≢◌, ℕ, suc, Bool, true, false, cond, is_some, ◌&&◌, ◌||◌, ◌==◌, List, [], ◌∷◌, length, Option, None, Some, option_map, refl, sym, ap, ◌∙◌, subst, arith}
use Rattle.std.specs.FinMap as map
use Rattle.std.specs.List.{list_any, list_all}
use Rattle.std.specs.Prelude.{bytes_eq}
use Rattle.std.specs.Ordering.{eq_by_cmp, is_eq}
use Rattle.std.specs.Cmp.{tied_itself}
use Rattle.std.specs.Cmp.Lexicographic.{nat_list_cmp_total}
use Rattle.std.proofs.lemmas.Map.Lookups.{exact_bytes}
use Rattle.std.proofs.lemmas.Slice.Eq.{bytes_eq-Decides}
use Rattle.std.proofs.lemmas.Bool.{and_parts, or_right, eqb-true}
use Rattle.std.proofs.lemmas.List.Folds.{list_any-append}
use Rattle.ss_text.specs.Texts.{text_cmp}
use Rattle.outside.specs.Tree.{Tree, Place, place_cmp, names_in, files_of, subfolders_of, has_folder, has_empty_folder, fronts, folder_path, with_folders, files_map, with_file, without_file, with_folder, without_folder, FolderMayBreakOff}
use Rattle.outside.specs.Whole.{IsWhole, is_whole, told}
use Rattle.outside.specs.WholeLaw.{is_eq_true, place_exact, told_is}
use Rattle.outside.specs.Stored.{Stored}
use Rattle.outside.proofs.PlaceLemmas.{place_total}
use Rattle.outside.proofs.TreeLemmas.{get_made, kept_made}

all_marked : (f : Place → Bool) (ks zs : List Place) → ((p : Place) → list_any (eq_by_cmp place_cmp p) zs ≡ true → f p ≡ true) → ((p : Place) → list_any (eq_by_cmp place_cmp p) ks ≡ true → list_any (eq_by_cmp place_cmp p) zs ≡ true) → list_all f ks ≡ true
all_marked f [] zs h within = refl
all_marked f (k ∷ ks) zs h within =
    let here : f k ≡ true = h k (within k (ap (λ b. b || list_any (eq_by_cmp place_cmp k) ks) (ap is_eq (tied_itself place_total k)))) in
    let rest : list_all f ks ≡ true = all_marked f ks zs h (λ p i. within p (or_right (eq_by_cmp place_cmp p k) (list_any (eq_by_cmp place_cmp p) ks) i)) in
    rw (here, rest) refl

test_of : (t : Tree) → IsWhole t → is_whole t ≡ true
test_of t h = all_marked (λ p. has_folder t p.0) (map.keys t.files) (map.keys t.files) (λ p i. h.folder_of p (map.contains_key-keys t.files p ∙ i)) (λ p i. i)

-- a whole tree is told
pub told_whole : (t : Tree) → IsWhole t → told t ≡ Some t
unfolding told
told_whole t h = rw (test_of t h) refl

last_of_path : (folder : List ℕ) → list_any (eq_by_cmp text_cmp folder) (folder_path folder) ≡ true
last_of_path folder =
    list_any-append (eq_by_cmp text_cmp folder) (fronts folder (length folder)) (folder ∷ [])
    ∙ or_right (list_any (eq_by_cmp text_cmp folder) (fronts folder (length folder))) (eq_by_cmp text_cmp folder folder || false) (ap (λ b. b || false) (ap is_eq (tied_itself nat_list_cmp_total folder)))

-- a folder that is made is there
pub made_folder : (folder : List ℕ) (s : map.FinMap text_cmp (Unit {0})) → map.contains_key (with_folders (folder_path folder) s) folder ≡ true
made_folder folder s = ap is_some (get_made (folder_path folder) s folder) ∙ ap (λ b. is_some (cond b (Some tt) (map.get s folder))) (last_of_path folder)

-- a place among those of a map with one more is that one or was there
placed : (m : map.FinMap place_cmp (List ℕ)) (k p : Place) (b : List ℕ) (P : Type 0) → map.contains_key (map.insert m k b) p ≡ true → (p ≡ k → P) → (map.contains_key m p ≡ true → P) → P
placed m k p b P there here old =
    elim (eq_by_cmp place_cmp p k) as (λ t. eq_by_cmp place_cmp p k ≡ t → is_some (cond t (Some b) (map.get m p)) ≡ true → P) [
      | true ↦ λ e _. here (place_exact p k (is_eq_true _ e))
      | false ↦ λ _ h. old h
    ] refl (sym (ap is_some (map.get-insert place_total m k b p)) ∙ there)

pub whole_with_file : (folder file bytes : List ℕ) (t : Tree) → IsWhole t → IsWhole (with_file folder file bytes t)
whole_with_file folder file bytes t h = record {
  folder_of = λ p there. placed t.files (folder, file) p bytes (has_folder (with_file folder file bytes t) p.0 ≡ true) there
      (λ same. subst (λ (q : Place). map.contains_key (with_folders (folder_path folder) t.folders) q.0 ≡ true) (sym same) (made_folder folder t.folders))
      (λ old. kept_made (folder_path folder) t.folders p.0 (h.folder_of p old));
}

some_kept : (b : Bool) (o : Option (List ℕ)) → is_some (cond b None o) ≡ true → is_some o ≡ true
some_kept true o h = absurd (cc)
some_kept false o h = h

pub whole_without_file : (folder file : List ℕ) (t : Tree) → IsWhole t → IsWhole (without_file folder file t)
whole_without_file folder file t h = record {
  folder_of = λ p there. h.folder_of p (some_kept (eq_by_cmp place_cmp p (folder, file)) (map.get t.files p) (sym (ap is_some (map.get-remove place_total t.files (folder, file) p)) ∙ there));
}

pub whole_with_folder : (folder : List ℕ) (t : Tree) → IsWhole t → IsWhole (with_folder folder t)
whole_with_folder folder t h =
    elim (has_folder t folder) as (λ b. IsWhole (record { folders = cond b t.folders (with_folders (folder_path folder) t.folders); files = t.files })) [
      | true ↦ h
      | false ↦ record { folder_of = λ p there. kept_made (folder_path folder) t.folders p.0 (h.folder_of p there) }
    ]

not_both : (b : Bool) → b ≡ true → b ≡ false → ⊥
not_both b t f = absurd (cc)

suc_not_zero : (n : ℕ) → (suc n == 0) ≡ true → ⊥
suc_not_zero n h = absurd (omega (arith, eqb-true (suc n) 0 h))

-- a place in a folder has its name there
none_named : (folder : List ℕ) (p : Place) (ks : List Place) → (length (names_in folder ks) == 0) ≡ true → p.0 ≡ folder → list_any (eq_by_cmp place_cmp p) ks ≡ true → ⊥
none_named folder p [] none e any = absurd (cc)
none_named folder p (k ∷ ks) none e any =
    elim (bytes_eq k.0 folder) as (λ b. bytes_eq k.0 folder ≡ b → (length (cond b (k.1 ∷ names_in folder ks) (names_in folder ks)) == 0) ≡ true → ⊥) [
      | true ↦ λ _ none. suc_not_zero (length (names_in folder ks)) none
      | false ↦ λ other none.
          elim (eq_by_cmp place_cmp p k) as (λ b. eq_by_cmp place_cmp p k ≡ b → (b || list_any (eq_by_cmp place_cmp p) ks) ≡ true → ⊥) [
            | true ↦ λ same _.
                let in_it : k.0 ≡ folder = sym (ap (λ (q : Place). q.0) (place_exact p k (is_eq_true _ same))) ∙ e in
                not_both (bytes_eq k.0 folder) ((bytes_eq-Decides k.0 folder).1 in_it) other
            | false ↦ λ _ any. none_named folder p ks none e any
          ] refl any
    ] refl none

unit_kept : (b : Bool) (o : Option (Unit {0})) → b ≢ true → is_some o ≡ true → is_some (cond b None o) ≡ true
unit_kept true o other h = absurd (other refl)
unit_kept false o other h = h

without_empty : (folder : List ℕ) (t : Tree) → IsWhole t → (length (files_of t folder) == 0) ≡ true → IsWhole (record { folders = map.remove t.folders folder; files = t.files })
without_empty folder t h none = record {
  folder_of = λ p there.
      ap is_some (map.get-remove nat_list_cmp_total t.folders folder p.0)
      ∙ unit_kept (eq_by_cmp text_cmp p.0 folder) (map.get t.folders p.0)
      (λ same. none_named folder p (map.keys t.files) none (exact_bytes p.0 folder (is_eq_true _ same)) (sym (map.contains_key-keys t.files p) ∙ there))
      (h.folder_of p there);
}

pub whole_without_folder : (folder : List ℕ) (t : Tree) → IsWhole t → IsWhole (without_folder folder t)
whole_without_folder folder t h =
    elim (has_empty_folder t folder) as (λ b. has_empty_folder t folder ≡ b → IsWhole (record { folders = cond b (map.remove t.folders folder) t.folders; files = t.files })) [
      | true ↦ λ e. without_empty folder t h (and_parts (has_folder t folder) (length (files_of t folder) == 0) (and_parts (has_folder t folder && (length (files_of t folder) == 0)) (length (subfolders_of t folder) == 0) e).0).1
      | false ↦ λ _. h
    ] refl

-- nothing changed
pub same_folder_off : (path : List (List ℕ)) (folder : List ℕ) (t : Option Tree) → FolderMayBreakOff path folder t t
same_folder_off path folder t = record {
  untold = λ e. e;
  told = λ s is. (s, is, record { files = refl; kept = λ d other h. h; made = λ d other h. kept_made path s.folders d h });
}

-- no files at all
pub whole_none : (folders : map.FinMap text_cmp (Unit {0})) (es : List (Place × List ℕ)) → es ≡ [] → IsWhole (record { folders = folders; files = files_map es })
whole_none folders es none = subst (λ (x : List (Place × List ℕ)). IsWhole (record { folders = folders; files = files_map x })) (sym none) (record { folder_of = λ p there. absurd (cc (map.get-from_entries place_total [] p)) })

-- a store whose tree is whole tells it
pub told_seen : (v s : Stored) → v ≡ s → IsWhole v.tree → told s.tree ≡ Some s.tree
told_seen v s e h = subst (λ (x : Stored). told x.tree ≡ Some x.tree) e (told_whole v.tree h)

pub same_parts : (t u : Tree) → t.folders ≡ u.folders → t.files ≡ u.files → t ≡ u
same_parts t u p q =
    ap (λ (x : map.FinMap text_cmp (Unit {0})). record { folders = x; files = t.files }) p ∙ ap (λ (x : map.FinMap place_cmp (List ℕ)). record { folders = u.folders; files = x }) q

-- a tree with a file more, by its parts
pub whole_parts : (folder file bytes : List ℕ) (t u : Tree) → u.folders ≡ with_folders (folder_path folder) t.folders → u.files ≡ map.insert t.files (folder, file) bytes → IsWhole t → IsWhole u
whole_parts folder file bytes t u p q h =
    subst IsWhole (sym (same_parts u (with_file folder file bytes t) p q)) (whole_with_file folder file bytes t h)

-- a change that leaves a tree whole, to a store's tree
module _ (f : Tree → Tree) (keeps : (t : Tree) → IsWhole t → IsWhole (f t)) where
  pub told_changed : (v s : Stored) (u : Tree) → v ≡ s → IsWhole v.tree → u ≡ f v.tree → told u ≡ option_map f (told s.tree)
  told_changed v s u e h is =
      ap told is ∙ (told_whole (f v.tree) (keeps v.tree h) ∙ (ap (option_map f) (sym (told_whole v.tree h)) ∙ ap (λ (x : Stored). option_map f (told x.tree)) e))

  pub whole_changed : (t u : Tree) → IsWhole t → u ≡ f t → IsWhole u
  whole_changed t u h is = subst IsWhole (sym is) (keeps t h)

-- what is read of a store's tree is read of what it tells
pub read_told : {A : Type 0} (f : Tree → A) (x : A) (v s : Stored) → v ≡ s → x ≡ f v.tree → (t : Tree) → told s.tree ≡ Some t → x ≡ f t
read_told f x v s e is t h = is ∙ ap f (ap (λ (y : Stored). y.tree) e ∙ told_is s.tree t h)
