-- Lists of named things: what a change of one thing leaves.
use Rattle.std.proofs.Common.{◌≡◌, ◌<◌, ◌+◌, ◌∷◌, ◌∙◌, [], ℕ, Bool, true, false, List, Some, None, refl, sym, ap, subst, zero, suc, length, map, cond, arith, slice_index_or}
use Rattle.std.specs.Prelude.{not, ◌||◌, ◌&&◌, sum_by, insert, remove, filter}
use Rattle.std.specs.List.{AllByRecursion, find, list_any, list_all}
use Rattle.std.specs.Option.{option_map_or}
use Rattle.std.proofs.lemmas.List.Sums.{sum_by-cons}
use Rattle.std.proofs.lemmas.List.Edits.{length-remove}
use Rattle.ss_text.specs.Texts.{Text, text_eq, text_cmp}
use Rattle.ss_text.specs.Label.{is_table_label}
use Rattle.ss_text.specs.Ascending.{with_element}
use Rattle.ss_text.specs.Places.{at_place, changed_where}
use Rattle.ss_text.proofs.PlaceLemmas.{length_at_place, map_at_place, each_at_place}
use Rattle.ss_text.proofs.KeyLemmas.{text_order, changed_at, removed_at, found_at, placed_for, ascends_removed, ascends_placed, place_there, place_missing}
use Rattle.schema_model.specs.Sound.{AreNames}
use Rattle.schema_model.proofs.ChangeLemmas.{all_removed}

same_some : {A : Type 0} (a b : A) → Some a ≡ Some b → a ≡ b
same_some a b h = ap (λ o. option_map_or (λ x. x) o a) h

both : (a b : Bool) → (a && b) ≡ true → (a ≡ true) × (b ≡ true)
both true b h = (refl, h)
both false b h = absurd (cc)

-- what a search finds
module _ {A : Type 0} (p : A → Bool) where
  pub found_any : (xs : List A) (x : A) → find p xs ≡ Some x → list_any p xs ≡ true
  found_any [] x h = absurd (cc)
  found_any (y ∷ ys) x h =
      elim (p y) as (λ b. p y ≡ b → cond b (Some y) (find p ys) ≡ Some x → (b || list_any p ys) ≡ true) [
        | true ↦ λ e is. refl
        | false ↦ λ e is. found_any ys x is
      ] refl h

  pub missed_any : (xs : List A) → find p xs ≡ None → list_any p xs ≡ false
  missed_any [] h = refl
  missed_any (y ∷ ys) h =
      elim (p y) as (λ b. p y ≡ b → cond b (Some y) (find p ys) ≡ None → (b || list_any p ys) ≡ false) [
        | true ↦ λ e is. absurd (cc)
        | false ↦ λ e is. missed_any ys is
      ] refl h

  pub held : (P : A → Type 0) (xs : List A) (x : A) → AllByRecursion P xs → find p xs ≡ Some x → P x
  held P [] x each h = absurd (cc)
  held P (y ∷ ys) x each h =
      elim (p y) as (λ b. p y ≡ b → cond b (Some y) (find p ys) ≡ Some x → P x) [
        | true ↦ λ e is. subst P (same_some y x is) each.0
        | false ↦ λ e is. held P ys x each.1 is
      ] refl h

  -- what no element passes, none that is kept passes
  pub still_none : (q : A → Bool) (xs : List A) → find p xs ≡ None → find p (filter q xs) ≡ None
  still_none q [] h = refl
  still_none q (y ∷ ys) h =
      elim (p y) as (λ b. p y ≡ b → cond b (Some y) (find p ys) ≡ None → find p (filter q (y ∷ ys)) ≡ None) [
        | true ↦ λ e is. absurd (cc)
        | false ↦ λ e is. kept (q y) refl e (still_none q ys is)
      ] refl h
    where
      kept : (b : Bool) → q y ≡ b → p y ≡ false → find p (filter q ys) ≡ None → find p (filter q (y ∷ ys)) ≡ None
      kept true e none rest = rw (e, none) rest
      kept false e none rest = rw e rest

-- sums and facts at a place
module _ {A : Type 0} where
  sum_at : (g : A → ℕ) (f : A → A) (xs : List A) (i : ℕ) (d : A) → i < length xs → sum_by g (at_place i f xs) + g (slice_index_or xs i d) ≡ sum_by g xs + g (f (slice_index_or xs i d))
  sum_at g f [] i d lt = absurd (omega arith)
  sum_at g f (x ∷ xs) zero d lt = rw (sum_by-cons g (f x) xs, sum_by-cons g x xs) (omega arith)
  sum_at g f (x ∷ xs) (suc i) d lt =
      let rest = sum_at g f xs i d (omega arith) in
      rw (sum_by-cons g x (at_place i f xs), sum_by-cons g x xs) (omega (arith, rest))

  sum_removed : (g : A → ℕ) (xs : List A) (i : ℕ) (d : A) → i < length xs → sum_by g (remove xs i) + g (slice_index_or xs i d) ≡ sum_by g xs
  sum_removed g [] i d lt = absurd (omega arith)
  sum_removed g (x ∷ xs) zero d lt = rw (sum_by-cons g x xs) (omega arith)
  sum_removed g (x ∷ xs) (suc i) d lt =
      let rest = sum_removed g xs i d (omega arith) in
      rw (sum_by-cons g x (remove xs i), sum_by-cons g x xs) (omega (arith, rest))

  sum_inserted : (g : A → ℕ) (y : A) (xs : List A) (i : ℕ) → sum_by g (insert xs i y) ≡ g y + sum_by g xs
  sum_inserted g y [] zero = sum_by-cons g y []
  sum_inserted g y [] (suc i) = sum_by-cons g y []
  sum_inserted g y (x ∷ xs) zero = sum_by-cons g y (x ∷ xs)
  sum_inserted g y (x ∷ xs) (suc i) =
      let rest = sum_inserted g y xs i in
      rw (sum_by-cons g x (insert xs i y), sum_by-cons g x xs) (omega (arith, rest))

  length_inserted : (y : A) (xs : List A) (i : ℕ) → length (insert xs i y) ≡ suc (length xs)
  length_inserted y [] zero = refl
  length_inserted y [] (suc i) = refl
  length_inserted y (x ∷ xs) zero = refl
  length_inserted y (x ∷ xs) (suc i) = ap suc (length_inserted y xs i)

  each_inserted : (P : A → Type 0) (y : A) (xs : List A) (i : ℕ) → P y → AllByRecursion P xs → AllByRecursion P (insert xs i y)
  each_inserted P y [] zero p h = (p, tt)
  each_inserted P y [] (suc i) p h = (p, tt)
  each_inserted P y (x ∷ xs) zero p h = (p, h)
  each_inserted P y (x ∷ xs) (suc i) p h = (h.0, each_inserted P y xs i p h.1)

  legal_inserted : (key : A → Text) (y : A) (xs : List A) (i : ℕ) → is_table_label (key y) ≡ true → list_all is_table_label (map key xs) ≡ true → list_all is_table_label (map key (insert xs i y)) ≡ true
  legal_inserted key y [] zero p h = rw p refl
  legal_inserted key y [] (suc i) p h = rw p refl
  legal_inserted key y (x ∷ xs) zero p h = rw p h
  legal_inserted key y (x ∷ xs) (suc i) p h =
      let parts = both (is_table_label (key x)) (list_all is_table_label (map key xs)) h in
      rw parts.0 (legal_inserted key y xs i p parts.1)

  legal_removed : (key : A → Text) (xs : List A) (i : ℕ) → list_all is_table_label (map key xs) ≡ true → list_all is_table_label (map key (remove xs i)) ≡ true
  legal_removed key [] zero h = refl
  legal_removed key [] (suc i) h = refl
  legal_removed key (x ∷ xs) zero h = (both (is_table_label (key x)) (list_all is_table_label (map key xs)) h).1
  legal_removed key (x ∷ xs) (suc i) h =
      let parts = both (is_table_label (key x)) (list_all is_table_label (map key xs)) h in
      rw parts.0 (legal_removed key xs i parts.1)

-- names that ascend and are legal, and a fact of each thing
pub record AreNamed {A : Type 0} (key : A → Text) (P : A → Type 0) (xs : List A) : Type 0 where
  pub names : AreNames (map key xs)
  pub each : AllByRecursion P xs

module _ {A : Type 0} (key : A → Text) (P : A → Type 0) (g : A → ℕ) where
  -- the one of a name changed
  pub changed : (k : Text) (f : A → A) (xs : List A) (x : A) → ((y : A) → key (f y) ≡ key y) → AreNamed key P xs → find (λ y. text_eq k (key y)) xs ≡ Some x → P (f x)
      → record { named : AreNamed key P (changed_where (λ y. text_eq k (key y)) f xs); count : length (changed_where (λ y. text_eq k (key y)) f xs) ≡ length xs; sum : sum_by g (changed_where (λ y. text_eq k (key y)) f xs) + g x ≡ sum_by g xs + g (f x) }
  changed k f xs x keeps h found fact =
      let there = place_there text_order key k xs (found_any (λ y. text_eq k (key y)) xs x found) in
      let i = there.0 in
      let is : slice_index_or xs i x ≡ x = same_some (slice_index_or xs i x) x (sym (found_at text_order key k xs i x h.names.ascend there.1) ∙ found) in
      let moved : changed_where (λ y. text_eq k (key y)) f xs ≡ at_place i f xs = changed_at text_order key k f xs i h.names.ascend there.1 in
      let summed : sum_by g (at_place i f xs) + g x ≡ sum_by g xs + g (f x) = subst (λ z. sum_by g (at_place i f xs) + g z ≡ sum_by g xs + g (f z)) is (sum_at g f xs i x there.1.within) in
      record {
        named = record {
          names = rw (moved, map_at_place key f keeps xs i) h.names;
          each = rw moved (each_at_place P xs i x f h.each (subst (λ z. P (f z)) (sym is) fact));
        };
        count = ap length moved ∙ length_at_place xs i f;
        sum = ap (λ ys. sum_by g ys + g x) moved ∙ summed;
      }

  -- one more, at the place of its name
  pub come : (y : A) (xs : List A) → AreNamed key P xs → find (λ x. text_eq (key y) (key x)) xs ≡ None → is_table_label (key y) ≡ true → P y
      → record { named : AreNamed key P (with_element (λ a b. text_cmp (key a) (key b)) y xs); count : length (with_element (λ a b. text_cmp (key a) (key b)) y xs) ≡ suc (length xs); sum : sum_by g (with_element (λ a b. text_cmp (key a) (key b)) y xs) ≡ g y + sum_by g xs }
  come y xs h free legal fact =
      let gap = place_missing text_order key (key y) xs h.names.ascend (missed_any (λ x. text_eq (key y) (key x)) xs free) in
      let i = gap.0 in
      let moved : with_element (λ a b. text_cmp (key a) (key b)) y xs ≡ insert xs i y = placed_for text_order key y xs i gap.1 in
      record {
        named = record {
          names = rw moved (record { ascend = ascends_placed text_order key y xs i h.names.ascend gap.1; legal = legal_inserted key y xs i legal h.names.legal });
          each = rw moved (each_inserted P y xs i fact h.each);
        };
        count = ap length moved ∙ length_inserted y xs i;
        sum = ap (sum_by g) moved ∙ sum_inserted g y xs i;
      }

  -- without the one of a name
  pub gone : (k : Text) (xs : List A) (x : A) → AreNamed key P xs → find (λ y. text_eq k (key y)) xs ≡ Some x
      → record { named : AreNamed key P (filter (λ y. not (text_eq k (key y))) xs); count : length (filter (λ y. not (text_eq k (key y))) xs) + 1 ≡ length xs; sum : sum_by g (filter (λ y. not (text_eq k (key y))) xs) + g x ≡ sum_by g xs }
  gone k xs x h found =
      let there = place_there text_order key k xs (found_any (λ y. text_eq k (key y)) xs x found) in
      let i = there.0 in
      let is : slice_index_or xs i x ≡ x = same_some (slice_index_or xs i x) x (sym (found_at text_order key k xs i x h.names.ascend there.1) ∙ found) in
      let moved : filter (λ y. not (text_eq k (key y))) xs ≡ remove xs i = removed_at text_order key k xs i h.names.ascend there.1 in
      let summed : sum_by g (remove xs i) + g x ≡ sum_by g xs = subst (λ z. sum_by g (remove xs i) + g z ≡ sum_by g xs) is (sum_removed g xs i x there.1.within) in
      record {
        named = record {
          names = rw moved (record { ascend = ascends_removed text_order key xs i h.names.ascend; legal = legal_removed key xs i h.names.legal });
          each = rw moved (all_removed P xs i h.each);
        };
        count = ap (λ ys. length ys + 1) moved ∙ length-remove xs i there.1.within;
        sum = ap (λ ys. sum_by g ys + g x) moved ∙ summed;
      }
