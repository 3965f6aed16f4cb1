-- A map from places, as a `BTreeMap` keeps it and as contracts see it.
use Rattle.std.proofs.Common.{◌≡◌, ℕ, true, false, cond, List, [], ◌∷◌, map as each, Option, None, Some, refl, sym, ap, ◌∙◌, subst, T}
use Rattle.std.specs.Prelude.{bytes_eq}
use Rattle.std.specs.Map.{lookup}
use Rattle.std.specs.BTreeMap.{is_at}
use Rattle.std.specs.declared.cmp.Ordering.{Ordering}
use Rattle.std.specs.declared.cmp.Ordering.TheVariants.{Less, Equal}
use Rattle.std.specs.Cmp.{IsTotalOrder, eq_by_cmp_equiv, tied_itself}
use Rattle.std.specs.Cmp.Lexicographic.{nat_list_cmp_total}
use Rattle.std.specs.FinMap.{find, get, insert, remove, from_entries, entries, get-from_entries, get-insert, get-remove, same_map, IsAntisymmetric, is_sorted, from_sorted, get-from_sorted, entries-from_sorted}
use Rattle.std.specs.FinMap.Entries.{below_all}
use Rattle.std.proofs.lemmas.Slice.Eq.{bytes_eq-Decides}
use Rattle.std.specs.List.{AllByRecursion}
use Rattle.std.specs.List.Sorted.{IsStrictlySortedBy}
use Rattle.std.proofs.lemmas.Cmp.{on_total, then_total}
use Rattle.ss_text.specs.Texts.{text_cmp}
use Rattle.outside.specs.Tree.{Place, place_cmp, names_in}
use Rattle.outside.specs.WholeLaw.{place_exact}

pub place_total : IsTotalOrder place_cmp
place_total = then_total (on_total (λ (p : Place). p.0) nat_list_cmp_total) (on_total (λ (p : Place). p.1) nat_list_cmp_total)

abbrev Files : Type 0
Files = List (Place × List ℕ)

abbrev pub at_place : List (Place × List ℕ) → Place → Option (List ℕ)
at_place es q = lookup (is_at (place_cmp q)) es

find_place : (es : Files) (q : Place) → find place_cmp q es ≡ at_place es q
find_place [] q = refl
find_place (e ∷ es) q = ap (cond (is_at (place_cmp q) e.0) (Some e.1)) (find_place es q)

-- what the map that the entries make has at a place
pub get_place : (es : List (Place × List ℕ)) (q : Place) → get (from_entries {R = place_cmp} es) q ≡ at_place es q
get_place es q = get-from_entries place_total es q ∙ find_place es q

-- entries that differ at one place make maps that differ there
pub put_place : (es fs : List (Place × List ℕ)) (p : Place) (b : List ℕ) → ((q : Place) → at_place fs q ≡ cond (is_at (place_cmp p) q) (Some b) (at_place es q)) → from_entries {R = place_cmp} fs ≡ insert (from_entries es) p b
put_place es fs p b h = same_map place_total place_exact _ _ (λ q.
    get_place fs q ∙ h q ∙ ap (λ t. cond t (Some b) (at_place es q)) ((eq_by_cmp_equiv place_total).symm p q)
    ∙ sym (get-insert place_total (from_entries es) p b q ∙ ap (cond (is_at (place_cmp q) p) (Some b)) (get_place es q)))

pub take_place : (es fs : List (Place × List ℕ)) (p : Place) → ((q : Place) → at_place fs q ≡ cond (is_at (place_cmp p) q) None (at_place es q)) → from_entries {R = place_cmp} fs ≡ remove (from_entries es) p
take_place es fs p h = same_map place_total place_exact _ _ (λ q.
    get_place fs q ∙ h q ∙ ap (λ t. cond t None (at_place es q)) ((eq_by_cmp_equiv place_total).symm p q)
    ∙ sym (get-remove place_total (from_entries es) p q ∙ ap (cond (is_at (place_cmp q) p) None) (get_place es q)))

module _ {K X : Type 0} (R : K → K → Ordering) where
  below_each : (x : K) (es : List (K × X)) → AllByRecursion (λ y. R x y ≡ Less) (each (λ e. e.0) es) → below_all R x es ≡ true
  below_each x [] h = refl
  below_each x (e ∷ es) h = rw (h.0, below_each x es h.1) refl

  sorted_test : (es : List (K × X)) → IsStrictlySortedBy R (each (λ e. e.0) es) → is_sorted R es ≡ true
  unfolding IsStrictlySortedBy
  sorted_test [] h = refl
  sorted_test (e ∷ es) h = rw (below_each e.0 es h.0, sorted_test es h.1) refl

  -- entries in order are those of the map that they make
  pub entries_of_ordered : IsTotalOrder R → IsAntisymmetric R → (es : List (K × X)) → IsStrictlySortedBy R (each (λ e. e.0) es) → entries (from_entries {R = R} es) ≡ es
  entries_of_ordered o exact es h =
      let sorted = subst T (sym (sorted_test es h)) tt in
      ap entries (same_map o exact (from_entries es) (from_sorted es) (λ q. get-from_entries o es q ∙ sym (get-from_sorted R es q sorted))) ∙ entries-from_sorted R es sorted

pub entries_ordered : (es : List (Place × List ℕ)) → IsStrictlySortedBy place_cmp (each (λ e. e.0) es) → entries (from_entries {R = place_cmp} es) ≡ es
entries_ordered es h = entries_of_ordered place_cmp place_total place_exact es h

-- within a folder places are in the order of their names
by_name : (p q : Place) → p.0 ≡ q.0 → place_cmp p q ≡ Less → text_cmp p.1 q.1 ≡ Less
by_name p q e h =
    let tie : text_cmp p.0 q.0 ≡ Equal = subst (λ (x : List ℕ). text_cmp p.0 x ≡ Equal) e (tied_itself nat_list_cmp_total p.0) in
    rw tie at h

below_names : (folder : List ℕ) (p : Place) (ps : List Place) → p.0 ≡ folder → AllByRecursion (λ q. place_cmp p q ≡ Less) ps → AllByRecursion (λ y. text_cmp p.1 y ≡ Less) (names_in folder ps)
below_names folder p [] e h = tt
below_names folder p (q ∷ qs) e h =
    elim (bytes_eq q.0 folder) as (λ b. bytes_eq q.0 folder ≡ b → AllByRecursion (λ y. text_cmp p.1 y ≡ Less) (cond b (q.1 ∷ names_in folder qs) (names_in folder qs))) [
      | true ↦ λ t. (by_name p q (e ∙ sym ((bytes_eq-Decides q.0 folder).0 t)) h.0, below_names folder p qs e h.1)
      | false ↦ λ _. below_names folder p qs e h.1
    ] refl

-- the names in a folder ascend
pub names_ascend : (folder : List ℕ) (places : List Place) → IsStrictlySortedBy place_cmp places → IsStrictlySortedBy text_cmp (names_in folder places)
unfolding IsStrictlySortedBy
names_ascend folder [] h = tt
names_ascend folder (p ∷ ps) h =
    elim (bytes_eq p.0 folder) as (λ b. bytes_eq p.0 folder ≡ b → IsStrictlySortedBy text_cmp (cond b (p.1 ∷ names_in folder ps) (names_in folder ps))) [
      | true ↦ λ t. (below_names folder p ps ((bytes_eq-Decides p.0 folder).0 t) h.0, names_ascend folder ps h.1)
      | false ↦ λ _. names_ascend folder ps h.1
    ] refl
