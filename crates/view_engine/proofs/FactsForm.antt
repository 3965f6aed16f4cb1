-- Each fact of a view has the form that its shape tells.
use Rattle.std.proofs.Common.{◌≡◌, ℕ, List, [], ◌∷◌, length, map, true, refl, ◌∙◌, subst, Option, Some, None, is_some}
use Rattle.std.specs.List.{AllByRecursion}
use Rattle.std.proofs.lemmas.List.{length-map}
use Rattle.ss_text.specs.Label.{is_table_label}
use Rattle.ss_text.specs.Texts.{Text, Row}
use Rattle.schema_model.specs.Catalogue.{CatalogueValue}
use Rattle.view_def.specs.declared.typed.Place.{Place}
use Rattle.view_def.specs.declared.typed.Place.TheVariants as place
use Rattle.view_def.specs.declared.typed.Term.{Term}
use Rattle.view_def.specs.declared.typed.Range.{Range}
use Rattle.view_def.specs.Query.{Query}
use Rattle.view_def.specs.Profile.{is_label_over, IsViewOfProfile}
use Rattle.flow_law.specs.declared.shape.Shape.{Shape}
use Rattle.flow_law.specs.Facts.{Fact}
use Rattle.flow_law.specs.FactRows.{fact_row, fact_width, fact_in, IsFactOf}
use Rattle.flow_law.specs.Labelled.{AllBear, BearLabel}
use Rattle.flow_law.proofs.FactRowLemmas.{fact_read_back, width_of_fact}
use Rattle.view_meaning.specs.Elements.{Valuation}
use Rattle.view_meaning.specs.Terms.{Reading, value_of}
use Rattle.view_meaning.specs.Valuations.{valuations}
use Rattle.view_meaning.specs.Meaning.{given, cell_of_reading, fact_of, facts, shape_of, constant_label}
use Rattle.view_meaning.proofs.EvalLemmas.{bear}

cell_there : (r : Reading) (p : Option Place) (t : Option Term) (spot : Option ℕ) → is_some p ≡ is_some spot → is_some t ≡ is_some spot → is_some (cell_of_reading r p t) ≡ is_some spot
cell_there r None t spot column value = column
cell_there r (Some p) None spot column value = value
cell_there r (Some p) (Some t) spot column value = column

all_map : {X Y : Type 0} (P : Y → Type 0) (f : X → Y) (xs : List X) → ((x : X) → P (f x)) → AllByRecursion P (map f xs)
all_map P f [] h = tt
all_map P f (x ∷ xs) h = (h x, all_map P f xs h)

pub have_form : (c : CatalogueValue) (q : Query) → IsViewOfProfile q → AllByRecursion (IsFactOf (shape_of q)) (facts c q)
unfolding facts
have_form c q profile = all_map (IsFactOf (shape_of q)) (λ (v : Valuation). fact_of q (value_of v)) (valuations c q) (λ v. record {
  key = length-map q.keys (λ (t : Term). given (value_of v t)) ∙ profile.keys;
  cell = cell_there (value_of v) q.column q.value q.spot profile.column profile.value;
})

pub read_back : (shape : Shape) (fs : List Fact) → AllByRecursion (IsFactOf shape) fs → map (fact_in shape) (map fact_row fs) ≡ fs
read_back shape [] h = refl
read_back shape (f ∷ fs) h = λ i. fact_read_back shape f h.0 i ∷ read_back shape fs h.1 i

pub are_wide : (shape : Shape) (fs : List Fact) → AllByRecursion (IsFactOf shape) fs → AllByRecursion (λ (row : Row). length row ≡ fact_width shape) (map fact_row fs)
are_wide shape [] h = tt
are_wide shape (f ∷ fs) h = (width_of_fact shape f h.0, are_wide shape fs h.1)

pub legal_label : (ds : List Range) (p : Place) (label : Text) → is_label_over ds p ≡ true → constant_label p ≡ Some label → is_table_label label ≡ true
legal_label ds (place.Fixed t) label h e = let same : t ≡ label = cc in subst (λ (t : Text). is_table_label t ≡ true) same h
legal_label ds (place.Var k) label h e = absurd (cc)

pub bear_label : (c : CatalogueValue) (q : Query) (label : Text) → constant_label q.label ≡ Some label → AllBear label (facts c q)
bear_label c q label e = subst (λ (o : Option Text). BearLabel o (facts c q)) e (bear c q (shape_of q) refl (facts c q) refl)
