-- When a view without a variable column is refused: where a label is not legal.
use Rattle.std.proofs.Common.{◌≡◌, ◌∙◌, ◌||◌, Bool, true, false, cond, List, [], ◌∷◌, Option, Some, None, map, refl, ap}
use Rattle.std.specs.Prelude.{not, filter, option_map, is_some, slice_get}
use Rattle.std.specs.Option.{option_or}
use Rattle.std.specs.List.{filter_map, list_any}
use Rattle.std.specs.declared.cmp.Ordering.{Ordering}
use Rattle.std.specs.declared.cmp.Ordering.TheVariants.{Less, Equal, Greater}
use Rattle.ss_text.specs.Texts.{Text, Row, text_cmp}
use Rattle.ss_text.specs.Ascending.{by_order, lesser, least, ascending}
use Rattle.ss_text.specs.Label.{is_table_label, is_column_label}
use Rattle.view_def.specs.Query.{Query}
use Rattle.schema_model.specs.Catalogue.{CatalogueValue}
use Rattle.flow_law.specs.declared.shape.Shape.{Shape}
use Rattle.flow_law.specs.declared.refused.IllegalLabel.{IllegalLabel}
use Rattle.flow_law.specs.declared.refused.EvalFault.TheVariants as eval
use Rattle.flow_law.specs.Facts.{Fact, Pair, Spot, pair_cmp, spot_cmp, clash_of, values_at, facts_of, column_of, illegal, illegal_table, illegal_column, conflict, first_refusal, refusal_by}
use Rattle.view_meaning.specs.Elements.{Valuation}
use Rattle.view_meaning.specs.Meaning.{fact_of, facts, shape_of}
use Rattle.view_meaning.specs.Refusal.{refusal}
use Rattle.view_meaning.specs.Terms.{value_of}
use Rattle.view_meaning.specs.Valuations.{valuations}
use Rattle.round_trip_law.specs.Forms.{to_values}
use Rattle.round_trip_law.specs.Kept.{is_refused}
use Rattle.round_trip_law.specs.Law.{ValuesAreMade}

-- ---- the least of what passes a test is there where something passes
module _ {A : Type 0} (cmp : A → A → Ordering) where
  lesser_there : (x : A) (o : Option A) → is_some (lesser cmp x o) ≡ true
  lesser_there x None = refl
  lesser_there x (Some y) = by_case (cmp x y)
    where
      by_case : (r : Ordering) → is_some (by_order r (Some x) (Some x) (Some y)) ≡ true
      by_case Less = refl
      by_case Equal = refl
      by_case Greater = refl

  pub least_passes : (test : A → Bool) (xs : List A) → is_some (least cmp (filter test xs)) ≡ list_any test xs
  least_passes test [] = refl
  least_passes test (x ∷ xs) = by_test (test x) (least_passes test xs)
    where
      by_test : (b : Bool) → is_some (least cmp (filter test xs)) ≡ list_any test xs → is_some (least cmp (cond b (x ∷ filter test xs) (filter test xs))) ≡ (b || list_any test xs)
      by_test true rest = lesser_there x (least cmp (filter test xs))
      by_test false rest = rest

pub any_mapped : {A B : Type 0} (f : A → B) (test : B → Bool) (xs : List A) → list_any test (map f xs) ≡ list_any (λ x. test (f x)) xs
any_mapped f test [] = refl
any_mapped f test (x ∷ xs) = ap (λ b. test (f x) || b) (any_mapped f test xs)

-- ---- facts without a cell
module _ {A : Type 0} (fact : A → Fact) (bare : (x : A) → (fact x).cell ≡ None) where
  none_named : {B : Type 0} (f : Fact → Text → B) (xs : List A) → filter_map (λ (g : Fact). option_map (f g) (column_of g)) (map fact xs) ≡ []
  none_named f [] = refl
  none_named f (x ∷ xs) = rw (bare x) (none_named f xs)

  no_conflict : (xs : List A) → conflict (map fact xs) ≡ None
  unfolding conflict
  no_conflict xs =
      ap (λ (ss : List Spot). slice_get (filter_map (λ (s : Spot). clash_of s (ascending text_cmp (values_at (facts_of s.0 (map fact xs)) s.1 s.2))) (ascending spot_cmp ss)) 0)
      (none_named (λ (g : Fact) (column : Text). let s : Spot = (g.label, g.key, column) in s) xs)

  no_illegal_column : (constants : Row) (xs : List A) → illegal_column constants (map fact xs) ≡ None
  no_illegal_column constants xs =
      ap (λ (ps : List Pair). option_map (λ (p : Pair). let l : IllegalLabel = record { table = p.0; column = Some p.1 } in l) (least pair_cmp (filter (λ (p : Pair). not (is_column_label p.1 constants)) ps)))
      (none_named (λ (g : Fact) (column : Text). let p : Pair = (g.label, column) in p) xs)

  illegal_is : (shape : Shape) (xs : List A) → illegal shape (map fact xs) ≡ illegal_table (map fact xs)
  unfolding illegal
  illegal_is shape xs = ap (option_or (illegal_table (map fact xs))) (no_illegal_column shape.constants xs) ∙ no_other (illegal_table (map fact xs))
    where
      no_other : {B : Type 0} (o : Option B) → option_or o None ≡ o
      no_other None = refl
      no_other (Some x) = refl

  pub bare_refused : (c : CatalogueValue) (q : Query) (xs : List A) → facts c q ≡ map fact xs → is_refused c q ≡ list_any (λ x. not (is_table_label (fact x).label)) xs
  unfolding refusal refusal_by
  bare_refused c q xs is =
      ap (λ (fs : List Fact). is_some (refusal_by eval.Illegal eval.Conflict (shape_of q) fs)) is
      ∙ (λ i. is_some (first_refusal eval.Illegal eval.Conflict (illegal_is (shape_of q) xs i) (no_conflict xs i)))
      ∙ by_label (least text_cmp (filter (λ (t : Text). not (is_table_label t)) (map (λ (f : Fact). f.label) (map fact xs))))
      ∙ least_passes text_cmp (λ (t : Text). not (is_table_label t)) (map (λ (f : Fact). f.label) (map fact xs))
      ∙ any_mapped (λ (f : Fact). f.label) (λ (t : Text). not (is_table_label t)) (map fact xs)
      ∙ any_mapped fact (λ (f : Fact). not (is_table_label f.label)) xs
    where
      by_label : (o : Option Text) → is_some (first_refusal eval.Illegal eval.Conflict (option_map (λ (t : Text). let l : IllegalLabel = record { table = t; column = None } in l) o) None) ≡ is_some o
      by_label None = refl
      by_label (Some t) = refl

-- ---- a view that makes values
none_passes : (label : Text) → is_table_label label ≡ true → {A : Type 0} (xs : List A) → list_any (λ (x : A). not (is_table_label label)) xs ≡ false
none_passes label legal [] = refl
none_passes label legal (x ∷ xs) = rw legal (none_passes label legal xs)

pub values_are_made : ValuesAreMade
unfolding facts
values_are_made p to s c legal =
    bare_refused (λ (v : Valuation). fact_of (to_values p to s) (value_of v)) (λ v. refl) c (to_values p to s) (valuations c (to_values p to s)) refl
    ∙ none_passes to.rel legal (valuations c (to_values p to s))
