-- One more turn of a loop that appends.
use Rattle.std.proofs.Common.{◌≡◌, ◌<◌, ℕ, ◌+◌, List, [], ◌∷◌, ◌++◌, length, take, map, filter, refl, ap, sym, ◌∙◌, Option, Some, None, get_or, append_assoc, append-nil}
use Rattle.std.specs.Prelude.{option_to_list}
use Rattle.std.specs.List.{filter_map, flat_map, cons_option}
use Rattle.std.proofs.lemmas.List.{take_more, map-append}
use Rattle.std.proofs.lemmas.List.Elements.{filter_map-append, filter-append}
use Rattle.std.proofs.lemmas.List.Concat.{flat_map-append}
use Rattle.view_def.specs.declared.typed.Cond.{Cond}
use Rattle.view_def.specs.declared.typed.Term.{Term}
use Rattle.view_def.specs.Conditions.{condition_of}
use Rattle.view_def.specs.Query.{Query}
use Rattle.plan_law.specs.Columns.{sides_of}
use Rattle.plan_law.specs.Links.{Source, Link, places_from, column_link, equality_link, key_of, is_own}
use Rattle.plan_form.specs.declared.source.Source.{Source as Held}
use Rattle.plan_form.specs.declared.base.Equal.{Equal}
use Rattle.plan_form.specs.Sources.{seen_link}
use Rattle.plan_form.specs.Bases.{own_cells}
use Rattle.plan_form.proofs.Columns.{given_more, places_more}

module _ {A B : Type 0} (h : List A → List B) (split : (xs ys : List A) → h (xs ++ ys) ≡ h xs ++ h ys) where
  pub turn : (before so_far after : List B) (xs : List A) (i : ℕ) (x : A) → i < length xs → x ≡ get_or xs i x → so_far ≡ before ++ h (take i xs) → after ≡ so_far ++ h (x ∷ []) → after ≡ before ++ h (take (i + 1) xs)
  turn before so_far after xs i x lt is e more =
      more
      ∙ ap (λ (l : List B). l ++ h (x ∷ [])) e
      ∙ append_assoc before (h (take i xs)) (h (x ∷ []))
      ∙ ap (λ (l : List B). before ++ l) (sym (split (take i xs) (x ∷ [])) ∙ ap h (ap (λ (y : A). take i xs ++ y ∷ []) is ∙ sym (take_more xs i x lt)))

one_given : {A B : Type 0} (g : A → Option B) (x : A) → option_to_list (g x) ≡ filter_map g (x ∷ [])
one_given {A} {B} g x = one (g x)
  where
    one : (o : Option B) → option_to_list o ≡ cons_option o []
    one None = refl
    one (Some y) = refl

pub given_turn : {A B : Type 0} (g : A → Option B) (before so_far after : List B) (xs : List A) (i : ℕ) (x : A) → i < length xs → x ≡ get_or xs i x → so_far ≡ before ++ filter_map g (take i xs) → after ≡ so_far ++ option_to_list (g x) → after ≡ before ++ filter_map g (take (i + 1) xs)
given_turn {A} {B} g before so_far after xs i x lt is e more = turn (filter_map g) (filter_map-append g) before so_far after xs i x lt is e (more ∙ ap (λ (l : List B). so_far ++ l) (one_given g x))

-- the links of one more column
pub column_turn : (q : Query) (h d : List Term) (f : ℕ → Source) (before so_far after : List Link) (ts : List Term) (i : ℕ) (t : Term) → i < length ts → t ≡ get_or ts i t
    → so_far ≡ before ++ filter_map (column_link q h d) (places_from f 0 (take i ts)) → after ≡ so_far ++ option_to_list (column_link q h d (f i, t))
    → after ≡ before ++ filter_map (column_link q h d) (places_from f 0 (take (i + 1) ts))
column_turn q h d f before so_far after ts i t lt is e more =
    given_more (column_link q h d) before so_far after (places_from f 0 (take i ts)) (f i, t) e more
    ∙ ap (λ l. before ++ filter_map (column_link q h d) l) (sym (places_more f ts i t lt is))

-- the keys and the tests of one more link
keys_split : (p : ℕ × ℕ → ℕ) (xs ys : List (Held × Held)) → map p (filter_map key_of (map seen_link (xs ++ ys))) ≡ map p (filter_map key_of (map seen_link xs)) ++ map p (filter_map key_of (map seen_link ys))
keys_split p xs ys =
    ap (λ (l : List Link). map p (filter_map key_of l)) (map-append seen_link xs ys)
    ∙ ap (map p) (filter_map-append key_of (map seen_link xs) (map seen_link ys))
    ∙ map-append p (filter_map key_of (map seen_link xs)) (filter_map key_of (map seen_link ys))

pub keys_turn : (p : ℕ × ℕ → ℕ) (so_far after : List ℕ) (xs : List (Held × Held)) (i : ℕ) (x : Held × Held) → i < length xs → x ≡ get_or xs i x → so_far ≡ map p (filter_map key_of (map seen_link (take i xs))) → after ≡ so_far ++ map p (option_to_list (key_of (seen_link x))) → after ≡ map p (filter_map key_of (map seen_link (take (i + 1) xs)))
keys_turn p so_far after xs i x lt is e more =
    turn (λ (l : List (Held × Held)). map p (filter_map key_of (map seen_link l))) (keys_split p) [] so_far after xs i x lt is e
    (more ∙ ap (λ (l : List (ℕ × ℕ)). so_far ++ map p l) (one_given key_of (seen_link x)))

own_split : (xs ys : List (Held × Held)) → map own_cells (filter is_own (map seen_link (xs ++ ys))) ≡ map own_cells (filter is_own (map seen_link xs)) ++ map own_cells (filter is_own (map seen_link ys))
own_split xs ys =
    ap (λ (l : List Link). map own_cells (filter is_own l)) (map-append seen_link xs ys)
    ∙ ap (map own_cells) (filter-append is_own (map seen_link xs) (map seen_link ys))
    ∙ map-append own_cells (filter is_own (map seen_link xs)) (filter is_own (map seen_link ys))

pub own_turn : (so_far after : List Equal) (xs : List (Held × Held)) (i : ℕ) (x : Held × Held) → i < length xs → x ≡ get_or xs i x → so_far ≡ map own_cells (filter is_own (map seen_link (take i xs))) → after ≡ so_far ++ map own_cells (filter is_own (seen_link x ∷ [])) → after ≡ map own_cells (filter is_own (map seen_link (take (i + 1) xs)))
own_turn so_far after xs i x lt is e more = turn (λ (l : List (Held × Held)). map own_cells (filter is_own (map seen_link l))) own_split [] so_far after xs i x lt is e more

-- the links of one more member
module _ (q : Query) (h d : List Term) where
  abbrev pub member_links : List Cond → List Link
  member_links ms = filter_map (equality_link q h d) (flat_map sides_of (map condition_of ms))

  member_split : (xs ys : List Cond) → member_links (xs ++ ys) ≡ member_links xs ++ member_links ys
  member_split xs ys =
      ap (λ l. filter_map (equality_link q h d) (flat_map sides_of l)) (map-append condition_of xs ys)
      ∙ ap (filter_map (equality_link q h d)) (flat_map-append sides_of (map condition_of xs) (map condition_of ys))
      ∙ filter_map-append (equality_link q h d) (flat_map sides_of (map condition_of xs)) (flat_map sides_of (map condition_of ys))

  pub member_turn : (before so_far after : List Link) (xs : List Cond) (i : ℕ) (x : Cond) → i < length xs → x ≡ get_or xs i x → so_far ≡ before ++ member_links (take i xs) → after ≡ so_far ++ filter_map (equality_link q h d) (sides_of (condition_of x)) → after ≡ before ++ member_links (take (i + 1) xs)
  member_turn before so_far after xs i x lt is e more =
      turn member_links member_split before so_far after xs i x lt is e
      (more ∙ ap (λ (l : List (Term × Term)). so_far ++ filter_map (equality_link q h d) l) (sym (append-nil (sides_of (condition_of x)))))
