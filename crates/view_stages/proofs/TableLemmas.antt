-- Each record of a table that a view means has a field.
use Rattle.std.proofs.Common.{◌≡◌, ◌≢◌, List, [], ◌∷◌, ◌++◌, map, refl}
use Rattle.std.specs.Prelude.{option_to_list, filter_map}
use Rattle.std.specs.List.{AllByRecursion}
use Rattle.std.specs.declared.cmp.Ordering.{Ordering}
use Rattle.std.specs.declared.cmp.Ordering.TheVariants.{Less, Equal, Greater}
use Rattle.ss_text.specs.Texts.{Text, Row, text_cmp, text_eq, row_cmp}
use Rattle.ss_text.specs.Ascending.{ascending, with_element, by_order}
use Rattle.ss_text.proofs.GroupLemmas.{all_filter}
use Rattle.schema_model.specs.Catalogue.{CatalogueValue}
use Rattle.view_def.specs.Query.{Query}
use Rattle.view_def.specs.declared.typed.Term.{Term}
use Rattle.flow_law.specs.Facts.{Fact, facts_of, column_of}
use Rattle.flow_law.specs.Tables.{TableValue}
use Rattle.flow_law.specs.FactTables.{tables, fact_table, value_for}
use Rattle.view_meaning.specs.Elements.{Valuation}
use Rattle.view_meaning.specs.Terms.{Reading, value_of}
use Rattle.view_meaning.specs.Valuations.{valuations}
use Rattle.view_meaning.specs.Meaning.{facts, fact_of, values_of, shape_of, meaning}
use Rattle.view_folder.specs.TableFiles.{FitsShape, FitShape}

-- what holds of each element holds of each once in order
module _ {A : Type 0} (P : A → Type 0) (R : A → A → Ordering) where
  each_with : (x : A) (xs : List A) → P x → AllByRecursion P xs → AllByRecursion P (with_element R x xs)
  each_with x [] px h = (px, tt)
  each_with x (y ∷ ys) px h = elim (R x y) as (λ r. AllByRecursion P (by_order r (x ∷ y ∷ ys) (y ∷ ys) (y ∷ with_element R x ys))) [ Less ↦ (px, h) | Equal ↦ h | Greater ↦ (h.0, each_with x ys px h.1) ]

  each_ascending : (xs : List A) → AllByRecursion P xs → AllByRecursion P (ascending R xs)
  each_ascending [] h = tt
  each_ascending (x ∷ xs) h = each_with x (ascending R xs) h.0 (each_ascending xs h.1)

module _ {A B : Type 0} (P : B → Type 0) (f : A → B) where
  each_mapped : (xs : List A) → AllByRecursion (λ x. P (f x)) xs → AllByRecursion P (map f xs)
  each_mapped [] h = tt
  each_mapped (x ∷ xs) h = (h.0, each_mapped xs h.1)

  pub all_mapped : (xs : List A) → ((x : A) → P (f x)) → AllByRecursion P (map f xs)
  all_mapped [] h = tt
  all_mapped (x ∷ xs) h = (h x, all_mapped xs h)

-- each key of the facts has a text
key_of_fact : (q : Query) (r : Reading) → q.keys ≢ [] → (fact_of q r).key ≢ []
key_of_fact q r ne e = ne (empty q.keys e)
  where
    empty : (ts : List Term) → values_of r ts ≡ [] → ts ≡ []
    empty [] h = refl
    empty (t ∷ ts) h = absurd (cc)

facts_keyed : (c : CatalogueValue) (q : Query) → q.keys ≢ [] → AllByRecursion (λ (f : Fact). f.key ≢ []) (facts c q)
unfolding facts
facts_keyed c q ne = all_mapped (λ (f : Fact). f.key ≢ []) (λ (v : Valuation). fact_of q (value_of v)) (valuations c q) (λ v. key_of_fact q (value_of v) ne)

table_keyed : (fs : List Fact) → AllByRecursion (λ (f : Fact). f.key ≢ []) fs → AllByRecursion (λ (r : Row × Row). r.0 ≢ []) (fact_table fs).rows
table_keyed fs h =
    each_mapped (λ (r : Row × Row). r.0 ≢ []) (λ key. (key, map (value_for fs key) (ascending text_cmp (filter_map column_of fs)))) (ascending row_cmp (map (λ (f : Fact). f.key) fs))
    (each_ascending (λ (key : Row). key ≢ []) row_cmp (map (λ (f : Fact). f.key) fs) (each_mapped (λ (key : Row). key ≢ []) (λ (f : Fact). f.key) fs h))

-- the tables of a view with a constant column and a term for its value have records
pub meaning_fits : (c : CatalogueValue) (q : Query) → q.constants ≢ [] → q.keys ≢ [] → FitShape (shape_of q) (meaning c q)
unfolding meaning tables
meaning_fits c q columns terms =
    all_mapped (λ (p : Text × TableValue). FitsShape (shape_of q) p.1) (λ label. (label, fact_table (facts_of label (facts c q)))) (ascending text_cmp (option_to_list (shape_of q).label ++ map (λ (f : Fact). f.label) (facts c q)))
    (λ label. record { some = columns; keys = table_keyed (facts_of label (facts c q)) (all_filter (λ (f : Fact). f.key ≢ []) (λ (f : Fact). text_eq label f.label) (facts c q) (facts_keyed c q terms)) })
