-- A relation after a change of its attributes.
use Rattle.std.proofs.Common.{◌≡◌, ◌<◌, ◌≤◌, ◌+◌, ◌∷◌, ◌++◌, ◌∙◌, [], ℕ, Bool, true, false, List, Some, None, refl, sym, ap, zero, suc, length, map, take, find, cond, arith, slice_index_or}
use Rattle.std.specs.Prelude.{bytes_eq, remove, slice_set, ◌||◌}
use Rattle.std.specs.List.{AllByRecursion, IsDistinct, position_or_len, range_with_len}
use Rattle.std.proofs.lemmas.List.Edits.{length-remove}
use Rattle.ss_text.specs.Texts.{Text, Row, text_eq, is_in}
use Rattle.ss_text.proofs.PlaceLemmas.{each_last, length_last}
use Rattle.ss_text.proofs.KeyLemmas.{text_order}
use Rattle.ss_text.proofs.PairLemmas.{turned}
use Rattle.schema_model.specs.Catalogue.{RelationValue}
use Rattle.schema_model.specs.Changes.{with_attribute, less_attribute, renamed_attribute}
use Rattle.schema_model.specs.Refusals.{first_repeated}
use Rattle.schema_model.specs.Sound.{IsRelation}
use Rattle.schema_model.proofs.ChangeLemmas.{all_removed, place_within}
use Rattle.schema_model.specs.Limits.{most_attributes}

neither : (a b : Bool) → (a || b) ≡ false → (a ≡ false) × (b ≡ false)
neither true b h = absurd (cc)
neither false b h = (refl, h)

all_mapped : {A B : Type 0} (P : A → Type 0) (Q : B → Type 0) (f : A → B) → ((x : A) → P x → Q (f x)) → (xs : List A) → AllByRecursion P xs → AllByRecursion Q (map f xs)
all_mapped P Q f step [] h = tt
all_mapped P Q f step (x ∷ xs) h = (step x h.0, all_mapped P Q f step xs h.1)

pub length_set : {A : Type 0} (xs : List A) (i : ℕ) (y : A) → length (slice_set xs i y) ≡ length xs
length_set [] zero y = refl
length_set [] (suc i) y = refl
length_set (x ∷ xs) zero y = refl
length_set (x ∷ xs) (suc i) y = ap suc (length_set xs i y)

-- texts that differ
differs_back : (a b : Text) → text_eq a b ≡ false → text_eq b a ≡ false
differs_back a b h = turned text_order b a ∙ h

distinct_last : (xs : List Text) (n : Text) → IsDistinct bytes_eq xs → is_in n xs ≡ false → IsDistinct bytes_eq (xs ++ n ∷ [])
unfolding IsDistinct
distinct_last [] n d new = (tt, tt)
distinct_last (x ∷ xs) n d new =
    let parts = neither (text_eq n x) (is_in n xs) new in
    (each_last (λ y. bytes_eq x y ≡ false) xs n d.0 (differs_back n x parts.0), distinct_last xs n d.1 parts.1)

distinct_removed : (xs : List Text) (i : ℕ) → IsDistinct bytes_eq xs → IsDistinct bytes_eq (remove xs i)
unfolding IsDistinct
distinct_removed [] zero d = tt
distinct_removed [] (suc i) d = tt
distinct_removed (x ∷ xs) zero d = d.1
distinct_removed (x ∷ xs) (suc i) d = (all_removed (λ y. bytes_eq x y ≡ false) xs i d.0, distinct_removed xs i d.1)

all_set : {A : Type 0} (P : A → Type 0) (xs : List A) (i : ℕ) (y : A) → P y → AllByRecursion P xs → AllByRecursion P (slice_set xs i y)
all_set P [] zero y p h = tt
all_set P [] (suc i) y p h = tt
all_set P (x ∷ xs) zero y p h = (p, h.1)
all_set P (x ∷ xs) (suc i) y p h = (h.0, all_set P xs i y p h.1)

none_same : (n : Text) (xs : List Text) → is_in n xs ≡ false → AllByRecursion (λ y. bytes_eq n y ≡ false) xs
none_same n [] new = tt
none_same n (x ∷ xs) new =
    let parts = neither (text_eq n x) (is_in n xs) new in
    (parts.0, none_same n xs parts.1)

distinct_set : (xs : List Text) (i : ℕ) (n : Text) → IsDistinct bytes_eq xs → is_in n xs ≡ false → IsDistinct bytes_eq (slice_set xs i n)
unfolding IsDistinct
distinct_set [] zero n d new = tt
distinct_set [] (suc i) n d new = tt
distinct_set (x ∷ xs) zero n d new = (none_same n xs (neither (text_eq n x) (is_in n xs) new).1, d.1)
distinct_set (x ∷ xs) (suc i) n d new =
    let parts = neither (text_eq n x) (is_in n xs) new in
    (all_set (λ y. bytes_eq x y ≡ false) xs i n (differs_back n x parts.0) d.0, distinct_set xs i n d.1 parts.1)

-- a list of which no text stands earlier is distinct
none_in_range : (p : ℕ → Bool) (n a : ℕ) → find p (range_with_len a n) ≡ None → (k : ℕ) → a ≤ k → k < a + n → p k ≡ false
none_in_range p zero a h k from to = absurd (omega (arith, from, to))
none_in_range p (suc n) a h k from to =
    elim (p a) as (λ b. p a ≡ b → cond b (Some a) (find p (range_with_len (a + 1) n)) ≡ None → p k ≡ false) [
      | true ↦ λ e is. absurd (cc)
      | false ↦ λ e is. at_or_after k from e (λ later. none_in_range p n (a + 1) is k later (omega (arith, to)))
    ] refl h
  where
    here : (k : ℕ) → a ≤ k → (a + 1 ≤ k → ⊥) → k ≡ a
    here k le not_later = grind arith

    at_or_after : (k : ℕ) → a ≤ k → p a ≡ false → (a + 1 ≤ k → p k ≡ false) → p k ≡ false
    at_or_after k le e rest = cases (p k) refl
      where
        cases : (b : Bool) → p k ≡ b → p k ≡ false
        cases false is = is
        cases true is = rest (after_it k le (λ same. let bad : true ≡ false = sym is ∙ ap p same ∙ e in absurd (cc)))
          where
            after_it : (k : ℕ) → a ≤ k → (k ≡ a → ⊥) → a + 1 ≤ k
            after_it k le other = grind arith

all_at : (P : Text → Type 0) (xs : List Text) → ((k : ℕ) → k < length xs → P (slice_index_or xs k [])) → AllByRecursion P xs
all_at P [] h = tt
all_at P (x ∷ xs) h = (h 0 (omega arith), all_at P xs (λ k lt. h (suc k) (omega arith)))

none_earlier : (xs : List Text) → ((k : ℕ) → k < length xs → is_in (slice_index_or xs k []) (take k xs) ≡ false) → IsDistinct bytes_eq xs
unfolding IsDistinct
none_earlier [] h = tt
none_earlier (x ∷ xs) h =
    let parts : (k : ℕ) → k < length xs → (text_eq (slice_index_or xs k []) x ≡ false) × (is_in (slice_index_or xs k []) (take k xs) ≡ false)
    = λ k lt. neither (text_eq (slice_index_or xs k []) x) (is_in (slice_index_or xs k []) (take k xs)) (h (suc k) (omega arith)) in
    (all_at (λ y. bytes_eq x y ≡ false) xs (λ k lt. differs_back (slice_index_or xs k []) x (parts k lt).0), none_earlier xs (λ k lt. (parts k lt).1))

pub none_repeated : (names : Row) → first_repeated names ≡ None → IsDistinct bytes_eq names
none_repeated names h = none_earlier names (λ k lt. none_in_range (λ i. is_in (slice_index_or names i []) (take i names)) (length names) 0 h k (omega arith) (omega arith))

-- a relation with one attribute more, one less, and one of another name
pub attribute_added : (r : RelationValue) (name fill : Text) → IsRelation r → is_in name r.attributes ≡ false → length r.attributes < most_attributes → IsRelation (with_attribute name fill r)
attribute_added r name fill h new room = record {
  header = record {
    some = rw (length_last r.attributes name) (omega arith);
    few = rw (length_last r.attributes name) (omega (arith, room));
    distinct = distinct_last r.attributes name h.header.distinct new;
  };
  fits = all_mapped (λ (row : Row). length row ≡ length r.attributes) (λ (row : Row). length row ≡ length (r.attributes ++ name ∷ [])) (λ row. row ++ fill ∷ [])
      (λ row e. length_last row fill ∙ ap suc e ∙ sym (length_last r.attributes name)) r.rows h.fits;
}

pub attribute_dropped : (r : RelationValue) (name : Text) → IsRelation r → is_in name r.attributes ≡ true → 1 < length r.attributes → IsRelation (less_attribute name r)
attribute_dropped r name h there more =
    let i = position_or_len (text_eq name) r.attributes in
    let within : i < length r.attributes = place_within (text_eq name) r.attributes there in
    let less : length (remove r.attributes i) + 1 ≡ length r.attributes = length-remove r.attributes i within in
    record {
      header = record {
        some = omega (arith, less, more);
        few = omega (arith, less, h.header.few);
        distinct = distinct_removed r.attributes i h.header.distinct;
      };
      fits = all_mapped (λ (row : Row). length row ≡ length r.attributes) (λ (row : Row). length row ≡ length (remove r.attributes i)) (λ row. remove row i)
          (λ row e. shorter row i within less e) r.rows h.fits;
    }
  where
    shorter : (row : Row) (i : ℕ) → i < length r.attributes → length (remove r.attributes i) + 1 ≡ length r.attributes → length row ≡ length r.attributes → length (remove row i) ≡ length (remove r.attributes i)
    shorter row i within less e =
        let one : length (remove row i) + 1 ≡ length row = length-remove row i (omega (arith, within, e)) in
        omega (arith, one, less, e)

pub attribute_renamed : (r : RelationValue) (name to : Text) → IsRelation r → is_in to r.attributes ≡ false → IsRelation (renamed_attribute name to r)
attribute_renamed r name to h new =
    let i = position_or_len (text_eq name) r.attributes in
    record {
      header = record {
        some = rw (length_set r.attributes i to) h.header.some;
        few = rw (length_set r.attributes i to) h.header.few;
        distinct = distinct_set r.attributes i to h.header.distinct new;
      };
      fits = rw (length_set r.attributes i to) h.fits;
    }
