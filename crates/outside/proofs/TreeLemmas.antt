-- What a write makes of the folders, and what it leaves where it breaks off.
use Rattle.std.proofs.Common.{◌≡◌, ◌≢◌, ℕ, Bool, true, false, cond, is_some, ◌&&◌, map as each, ◌||◌, List, [], ◌∷◌, ◌++◌, Option, None, Some, refl, sym, ap, ◌∙◌, ◌==◌, subst, unwrap_or}
use Rattle.std.specs.FinMap as map
use Rattle.std.specs.List.{list_any, AllByRecursion, cons_option}
use Rattle.std.specs.Prelude.{option_and_then}
use Rattle.std.specs.Ordering.{eq_by_cmp}
use Rattle.std.specs.declared.cmp.Ordering.TheVariants.{Less}
use Rattle.std.proofs.lemmas.Cmp.{nat_list_cmp_total, nat_cmp_total, eq_by_cmp_equiv, tied_itself}
use Rattle.std.proofs.lemmas.Map.Lookups.{exact_bytes}
use Rattle.std.proofs.lemmas.Bool.{eqb-true, and_parts, or_right, cond-false, false_from_ne_true}
use Rattle.std.specs.BTreeMap.{is_at}
use Rattle.std.specs.List.Sorted.{IsStrictlySortedBy}
use Rattle.ss_text.specs.Texts.{text_cmp}
use Rattle.outside.specs.Tree.{Tree, Place, after_front, child_name, part_after, is_part, folder_set, named, children_in, place_cmp, with_folders, folder_path, with_file, BrokeOff, MayBreakOff}
use Rattle.outside.proofs.PlaceLemmas.{place_total, entries_of_ordered}
use Rattle.outside.specs.WholeLaw.{is_eq_true, place_exact}

or_cond : (a b : Bool) → cond a true b ≡ (a || b)
or_cond true b = refl
or_cond false b = refl

here_or_later : {A : Type 0} (a b : Bool) (x : A) → cond a (Some x) (cond b (Some x) None) ≡ cond (a || b) (Some x) None
here_or_later true b x = refl
here_or_later false b x = refl

gone_or_later : {A : Type 0} (a b : Bool) (x : A) → cond (cond a false b) (Some x) None ≡ cond a None (cond b (Some x) None)
gone_or_later true b x = refl
gone_or_later false b x = refl

some_if : {A : Type 0} (b : Bool) (x : A) → is_some (cond b (Some x) None) ≡ b
some_if true x = refl
some_if false x = refl

pub some_unit : (o : Option (Unit {0})) (t : Bool) → is_some (cond t (Some tt) o) ≡ (t || is_some o)
some_unit o true = refl
some_unit o false = refl

later_or_here : (a b : Bool) (o : Option (Unit {0})) → cond a (Some tt) (cond b (Some tt) o) ≡ cond (b || a) (Some tt) o
later_or_here true true o = refl
later_or_here true false o = refl
later_or_here false true o = refl
later_or_here false false o = refl

pub get_made : (fs : List (List ℕ)) (s : map.FinMap text_cmp (Unit {0})) (q : List ℕ) → map.get (with_folders fs s) q ≡ cond (list_any (eq_by_cmp text_cmp q) fs) (Some tt) (map.get s q)
get_made [] s q = refl
get_made (f ∷ fs) s q =
    get_made fs (map.insert s f tt) q ∙ ap (cond (list_any (eq_by_cmp text_cmp q) fs) (Some tt)) (map.get-insert nat_list_cmp_total s f tt q)
    ∙ later_or_here (list_any (eq_by_cmp text_cmp q) fs) (eq_by_cmp text_cmp q f) (map.get s q)

find_named : (ks : List (List ℕ)) (q : List ℕ) → map.find text_cmp q (named ks) ≡ cond (list_any (eq_by_cmp text_cmp q) ks) (Some tt) None
find_named [] q = refl
find_named (k ∷ ks) q = ap (cond (eq_by_cmp text_cmp q k) (Some tt)) (find_named ks q) ∙ here_or_later (eq_by_cmp text_cmp q k) (list_any (eq_by_cmp text_cmp q) ks) tt

pub get_named : (ks : List (List ℕ)) (q : List ℕ) → map.get (folder_set ks) q ≡ cond (list_any (eq_by_cmp text_cmp q) ks) (Some tt) None
get_named ks q = map.get-from_entries nat_list_cmp_total (named ks) q ∙ find_named ks q

-- one folder more
pub insert_folder : (ks ms : List (List ℕ)) (k : List ℕ) → ((q : List ℕ) → list_any (is_at (text_cmp q)) ms ≡ cond (is_at (text_cmp k) q) true (list_any (is_at (text_cmp q)) ks)) → folder_set ms ≡ map.insert (folder_set ks) k tt
insert_folder ks ms k h = map.same_map nat_list_cmp_total exact_bytes _ _ (λ q.
    get_named ms q ∙ ap (λ b. cond b (Some tt) None) (h q ∙ or_cond (is_at (text_cmp k) q) (list_any (is_at (text_cmp q)) ks))
    ∙ ap (λ b. cond (b || list_any (is_at (text_cmp q)) ks) (Some tt) None) ((eq_by_cmp_equiv nat_list_cmp_total).symm k q)
    ∙ sym (here_or_later (eq_by_cmp text_cmp q k) (list_any (eq_by_cmp text_cmp q) ks) tt)
    ∙ ap (cond (eq_by_cmp text_cmp q k) (Some tt)) (sym (get_named ks q))
    ∙ sym (map.get-insert nat_list_cmp_total (folder_set ks) k tt q))

-- one folder less
pub remove_folder : (ks ms : List (List ℕ)) (k : List ℕ) → ((q : List ℕ) → list_any (is_at (text_cmp q)) ms ≡ cond (is_at (text_cmp k) q) false (list_any (is_at (text_cmp q)) ks)) → folder_set ms ≡ map.remove (folder_set ks) k
remove_folder ks ms k h = map.same_map nat_list_cmp_total exact_bytes _ _ (λ q.
    get_named ms q ∙ ap (λ b. cond b (Some tt) None) (h q ∙ ap (λ b. cond b false (list_any (is_at (text_cmp q)) ks)) ((eq_by_cmp_equiv nat_list_cmp_total).symm k q))
    ∙ gone_or_later (eq_by_cmp text_cmp q k) (list_any (is_at (text_cmp q)) ks) tt
    ∙ ap (cond (eq_by_cmp text_cmp q k) None) (sym (get_named ks q))
    ∙ sym (map.get-remove nat_list_cmp_total (folder_set ks) k q))

-- whether a folder is among them
pub has_named : (ks : List (List ℕ)) (q : List ℕ) → map.contains_key (folder_set ks) q ≡ list_any (is_at (text_cmp q)) ks
has_named ks q = ap is_some (get_named ks q) ∙ some_if (list_any (eq_by_cmp text_cmp q) ks) tt

names_named : (ks : List (List ℕ)) → each (λ (e : List ℕ × Unit {0}). e.0) (named ks) ≡ ks
names_named [] = refl
names_named (k ∷ ks) = ap (λ l. k ∷ l) (names_named ks)

-- folders in order are those of their set
pub items_ordered : (ks : List (List ℕ)) → IsStrictlySortedBy text_cmp ks → map.keys (folder_set ks) ≡ ks
items_ordered ks h =
    ap (each (λ (e : List ℕ × Unit {0}). e.0)) (entries_of_ordered text_cmp nat_list_cmp_total exact_bytes (named ks) (subst (IsStrictlySortedBy text_cmp) (sym (names_named ks)) h)) ∙ names_named ks

-- an order does not read a common front
same_front : (front a b : List ℕ) → text_cmp (front ++ a) (front ++ b) ≡ text_cmp a b
same_front [] a b = refl
same_front (x ∷ front) a b = rw (tied_itself nat_cmp_total x) (same_front front a b)

-- what follows a front, after it
front_again : (front all rest : List ℕ) → after_front front all ≡ Some rest → all ≡ front ++ rest
front_again [] all rest h = ap (λ o. unwrap_or o all) h
front_again (x ∷ xs) [] rest h = absurd (cc)
front_again (x ∷ xs) (y ∷ ys) rest h =
    elim (x == y) as (λ b. (x == y) ≡ b → cond b (after_front xs ys) None ≡ Some rest → y ∷ ys ≡ x ∷ (xs ++ rest)) [
      | true ↦ λ same h. let e = eqb-true x y same in let l = front_again xs ys rest h in cc
      | false ↦ λ _ h. absurd (cc)
    ] refl h

only_where : (t : Bool) (name a : List ℕ) → cond t (Some name) None ≡ Some a → (t ≡ true) × (name ≡ a)
only_where true name a h = (refl, ap (λ o. unwrap_or o name) h)
only_where false name a h = absurd (cc)

slash_part : (rest a : List ℕ) → part_after rest ≡ Some a → rest ≡ 47 ∷ a
slash_part [] a h = absurd (cc)
slash_part (c ∷ cs) a h =
    let parts = only_where ((c == 47) && is_part cs) cs a h in
    let same = eqb-true c 47 (and_parts (c == 47) (is_part cs) parts.0).0 in
    rw (same, parts.1) refl

-- a folder that lies in another, by its name there
pub child_full : (folder full name : List ℕ) → child_name folder full ≡ Some name → full ≡ folder ++ 47 ∷ name
child_full folder full name h =
    elim (after_front folder full) as (λ o. after_front folder full ≡ o → option_and_then part_after o ≡ Some name → full ≡ folder ++ 47 ∷ name) [
      | None ↦ λ _ h. absurd (cc)
      | Some rest ↦ λ e h. front_again folder full rest e ∙ ap (λ r. folder ++ r) (slash_part rest name h)
    ] refl h

child_order : (folder x y a b : List ℕ) → child_name folder x ≡ Some a → child_name folder y ≡ Some b → text_cmp x y ≡ Less → text_cmp a b ≡ Less
child_order folder x y a b p q h =
    sym (same_front folder (47 ∷ a) (47 ∷ b)) ∙ (ap (λ z. text_cmp z (folder ++ 47 ∷ b)) (sym (child_full folder x a p)) ∙ (ap (λ z. text_cmp x z) (sym (child_full folder y b q)) ∙ h))

below_children : (folder x a : List ℕ) (ys : List (List ℕ)) → child_name folder x ≡ Some a → AllByRecursion (λ y. text_cmp x y ≡ Less) ys → AllByRecursion (λ y. text_cmp a y ≡ Less) (children_in folder ys)
below_children folder x a [] p h = tt
below_children folder x a (y ∷ ys) p h =
    elim (child_name folder y) as (λ o. child_name folder y ≡ o → AllByRecursion (λ y. text_cmp a y ≡ Less) (cons_option o (children_in folder ys))) [
      | None ↦ λ _. below_children folder x a ys p h.1
      | Some b ↦ λ q. (child_order folder x y a b p q h.0, below_children folder x a ys p h.1)
    ] refl

-- the names in a folder ascend
pub children_ascend : (folder : List ℕ) (fulls : List (List ℕ)) → IsStrictlySortedBy text_cmp fulls → IsStrictlySortedBy text_cmp (children_in folder fulls)
unfolding IsStrictlySortedBy
children_ascend folder [] h = tt
children_ascend folder (x ∷ xs) h =
    elim (child_name folder x) as (λ o. child_name folder x ≡ o → IsStrictlySortedBy text_cmp (cons_option o (children_in folder xs))) [
      | None ↦ λ _. children_ascend folder xs h.1
      | Some a ↦ λ p. (below_children folder x a xs p h.0, children_ascend folder xs h.1)
    ] refl

-- folders stay when more are made
pub kept_made : (more : List (List ℕ)) (s : map.FinMap text_cmp (Unit {0})) (d : List ℕ) → map.contains_key s d ≡ true → map.contains_key (with_folders more s) d ≡ true
kept_made more s d h =
    ap is_some (get_made more s d) ∙ some_unit (map.get s d) (list_any (eq_by_cmp text_cmp d) more)
    ∙ or_right (list_any (eq_by_cmp text_cmp d) more) (is_some (map.get s d)) h

-- a file other than the one that is written
other_place : (m : map.FinMap place_cmp (List ℕ)) (k p : Place) (b : List ℕ) → p ≢ k → map.get (map.insert m k b) p ≡ map.get m p
other_place m k p b other =
    map.get-insert place_total m k b p
    ∙ cond-false (eq_by_cmp place_cmp p k) (Some b) (map.get m p) (false_from_ne_true _ (λ t. other (place_exact p k (is_eq_true _ t))))

-- nothing changed
pub same_broke_off : (folder file : List ℕ) (t : Option Tree) → MayBreakOff [] folder file t t
same_broke_off folder file t = record {
  untold = λ e. e;
  told = λ s is. (s, is, record { others = λ p other. refl; kept = λ d h. h; made = λ d h. h });
}

-- any bytes were written
pub write_broke_off : (folder file bytes : List ℕ) (t : Tree) → BrokeOff (folder_path folder) folder file t (with_file folder file bytes t)
write_broke_off folder file bytes t = record {
  others = λ p other. other_place t.files (folder, file) p bytes other;
  kept = λ d h. kept_made (folder_path folder) t.folders d h;
  made = λ d h. h;
}

pub told_broke_off : (path : List (List ℕ)) (folder file : List ℕ) (t u : Tree) → BrokeOff path folder file t u → MayBreakOff path folder file (Some t) (Some u)
told_broke_off path folder file t u h = record {
  untold = λ e. absurd (cc);
  told = λ x e. (u, refl, subst (λ (y : Tree). BrokeOff path folder file y u) (ap (λ o. unwrap_or o t) e) h);
}
