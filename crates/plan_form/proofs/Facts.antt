-- The fact of a row is that of its reading.
use Rattle.std.proofs.Common.{◌≡◌, List, [], ◌∷◌, ◌++◌, map, Bool, ◌&&◌, refl, ap, sym, ◌∙◌, Option, Some, None}
use Rattle.std.specs.Prelude.{zip, option_to_list, option_map, if◌then◌else◌}
use Rattle.std.proofs.lemmas.List.{map-append}
use Rattle.ss_text.specs.Texts.{Text, Row}
use Rattle.view_def.specs.declared.typed.Place.{Place}
use Rattle.view_def.specs.declared.typed.Term.{Term}
use Rattle.view_def.specs.Conditions.{Condition}
use Rattle.view_def.specs.Query.{Query}
use Rattle.view_def.specs.Terms.{terms_of_filter, terms_of_view}
use Rattle.flow_law.specs.Facts.{Fact}
use Rattle.flow_law.specs.FactRows.{fact_row}
use Rattle.view_meaning.specs.Terms.{Reading, are_defined}
use Rattle.view_meaning.specs.Valuations.{meets, counts}
use Rattle.view_meaning.specs.Meaning.{given, term_of, values_of, cell_of_reading, fact_of}
use Rattle.plan_law.specs.Columns.{read}
use Rattle.plan_law.specs.PlanRows.{plan_header}
use Rattle.plan_form.specs.declared.cell.Cell.{Cell}
use Rattle.plan_form.specs.declared.cell.Cell.TheVariants as cell
use Rattle.plan_form.specs.declared.output.Output.{Output}
use Rattle.plan_form.specs.Cells.{text_in}
use Rattle.plan_form.specs.Tests.{cell_term, at_row, condition_in, cell_for, placed}
use Rattle.plan_form.specs.Forms.{output_terms, counts_at, cell_at, fact_at, fact_row_at, IsOutputOf, counted_fact}
use Rattle.plan_form.proofs.Columns.{cell_read}
use Rattle.plan_form.proofs.Conditions.{term_for, placed_terms, defined_same, true_same}

pub at_cell : (row : Row) (c : Cell) → at_row row (cell_term c) ≡ text_in row c
at_cell row (cell.Given t) = refl
at_cell row (cell.At i) = refl
at_cell row cell.Nowhere = refl

abbrev made : Text → Row → Option (Text × Text) → Fact
made l k c = record { label = l; key = k; cell = c }

made_same : (l l' : Text) (k k' : Row) (c c' : Option (Text × Text)) → l ≡ l' → k ≡ k' → c ≡ c' → made l k c ≡ made l' k' c'
made_same l l' k k' c c' a b d = ap (λ l. made l k c) a ∙ ap (λ k. made l' k c) b ∙ ap (λ c. made l' k' c) d

if_same : {A B : Type 0} (f : A → B) (b b' : Bool) (x y : A) → b ≡ b' → x ≡ y → (if b then Some (f x) else None) ≡ (if b' then Some (f y) else None)
if_same {A} {B} f b b' x y e h = ap (λ b. if b then Some (f x) else None) e ∙ ap (λ (x : A). if b' then Some (f x) else None) h

module _ (q : Query) (o : Output) (is : IsOutputOf q o) (row : Row) where
  abbrev at : Term → Cell
  at t = cell_for q.decls (plan_header q) t

  abbrev said : Reading
  said t = read q (zip (plan_header q) row) t

  same : (t : Term) → at_row row (term_for at t) ≡ said t
  same t = at_cell row (at t) ∙ cell_read q (plan_header q) row t

  keys_for : (ts : List Term) → map cell_term (map at ts) ≡ map (term_for at) ts
  keys_for [] = refl
  keys_for (t ∷ ts) = ap (λ l. cell_term (at t) ∷ l) (keys_for ts)

  value_for : (t : Option Term) → option_to_list (option_map cell_term (option_map at t)) ≡ map (term_for at) (option_to_list t)
  value_for None = refl
  value_for (Some t) = refl

  filter_for : (c : Option Condition) → terms_of_filter (option_map (placed at) c) ≡ map (term_for at) (terms_of_filter c)
  filter_for None = refl
  filter_for (Some c) = placed_terms at c

  terms_for : output_terms o ≡ map (term_for at) (terms_of_view q)
  terms_for =
      let a = ap (map cell_term) is.keys ∙ keys_for q.keys in
      let b = ap (λ v. option_to_list (option_map cell_term v)) is.value ∙ value_for q.value in
      let c = ap terms_of_filter is.filter ∙ filter_for q.condition in
      ap (λ (l : List Term). l ++ option_to_list (option_map cell_term o.value) ++ terms_of_filter (option_map condition_in o.filter)) a
      ∙ ap (λ (l : List Term). map (term_for at) q.keys ++ l ++ terms_of_filter (option_map condition_in o.filter)) b
      ∙ ap (λ (l : List Term). map (term_for at) q.keys ++ map (term_for at) (option_to_list q.value) ++ l) c
      ∙ ap (λ (l : List Term). l ++ map (term_for at) (terms_of_filter q.condition)) (sym (map-append (term_for at) q.keys (option_to_list q.value)))
      ∙ sym (map-append (term_for at) (q.keys ++ option_to_list q.value) (terms_of_filter q.condition))

  meets_for : (c : Option Condition) → meets (at_row row) (option_map (placed at) c) ≡ meets said c
  meets_for None = refl
  meets_for (Some c) = true_same at (at_row row) said same c

  counts_same : counts_at o row ≡ counts q said
  unfolding counts
  counts_same =
      ap (λ (l : List Term). are_defined (at_row row) l && meets (at_row row) (option_map condition_in o.filter)) terms_for
      ∙ ap (λ (b : Bool). b && meets (at_row row) (option_map condition_in o.filter)) (defined_same at (at_row row) said same (terms_of_view q))
      ∙ ap (λ (b : Bool). are_defined said (terms_of_view q) && b) (ap (meets (at_row row)) is.filter ∙ meets_for q.condition)

  texts_for : (ts : List Term) → map (λ c. given (text_in row c)) (map at ts) ≡ values_of said ts
  texts_for [] = refl
  texts_for (t ∷ ts) =
      ap (λ (x : Text). x ∷ map (λ c. given (text_in row c)) (map at ts)) (ap given (cell_read q (plan_header q) row t))
      ∙ ap (λ (l : Row). given (said t) ∷ l) (texts_for ts)

  cell_for_place : (p : Option Place) (t : Option Term) → cell_at row (option_map (λ p. at (term_of p)) p) (option_map at t) ≡ cell_of_reading said p t
  cell_for_place None t = refl
  cell_for_place (Some p) None = refl
  cell_for_place (Some p) (Some t) =
      ap (λ (x : Text). Some (x, given (text_in row (at t)))) (ap given (cell_read q (plan_header q) row (term_of p)))
      ∙ ap (λ (x : Text). Some (given (said (term_of p)), x)) (ap given (cell_read q (plan_header q) row t))

  fact_same : fact_at o row ≡ fact_of q said
  fact_same =
      made_same (given (text_in row o.label)) (given (said (term_of q.label))) (map (λ c. given (text_in row c)) o.keys.items) (values_of said q.keys) (cell_at row o.column o.value) (cell_of_reading said q.column q.value)
      (ap (λ c. given (text_in row c)) is.label ∙ ap given (cell_read q (plan_header q) row (term_of q.label)))
      (ap (map (λ c. given (text_in row c))) is.keys ∙ texts_for q.keys)
      (ap (λ c. cell_at row c o.value) is.column ∙ ap (λ v. cell_at row (option_map (λ p. at (term_of p)) q.column) v) is.value ∙ cell_for_place q.column q.value)

  -- the fact that the output gives a row is that of the view
  pub fact_row_same : fact_row_at o row ≡ counted_fact q row
  fact_row_same = if_same fact_row (counts_at o row) (counts q said) (fact_at o row) (fact_of q said) counts_same fact_same
