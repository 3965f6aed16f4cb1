-- The first declaration of a view is no alias.
use Rattle.std.proofs.Common.{◌≡◌, ◌≤◌, ℕ, List, [], ◌∷◌, ◌++◌, length, take, true, refl, arith, Some}
use Rattle.std.specs.List.{slice_get}
use Rattle.ss_text.specs.Texts.{Text}
use Rattle.schema_model.specs.Catalogue.{CatalogueValue}
use Rattle.plan_law.specs.Kinds.{Range}
use Rattle.plan_law.specs.Kinds.range
use Rattle.view_def.specs.Query.{Query}
use Rattle.view_def.specs.Profile.{is_range_over, IsViewOfProfile}
use Rattle.schema_delta.specs.declared.spec.FlatSpec.{FlatSpec}
use Rattle.plan_law.specs.Columns.{header, headers_from, spec_of, columns, bases_from}
use Rattle.plan_law.specs.PlanRows.{specs_from}
use Rattle.plan_law.specs.Touched.{Marked, under, marked_bases}
use Rattle.plan_law.proofs.Profile.{ranges}

-- so what goes over the base declarations begins with it
pub record First (q : Query) : Type 0 where
  pub first : Range
  pub rest : List Range
  pub all : q.decls ≡ first ∷ rest
  pub bases : (c : CatalogueValue) → bases_from c q 0 (first ∷ rest) ≡ columns c q 0 first ∷ bases_from c q 1 rest
  pub headers : headers_from q 0 (first ∷ rest) ≡ header q 0 first ++ headers_from q 1 rest
  pub specs : specs_from q 0 (first ∷ rest) ≡ spec_of q 0 first ∷ specs_from q 1 rest
  pub marks : (rows_of : FlatSpec → List (Marked Text)) → marked_bases rows_of q 0 (first ∷ rest) ≡ under (header q 0 first) (rows_of (spec_of q 0 first)) ∷ marked_bases rows_of q 1 rest

by_kind : (q : Query) (ds : List Range) → q.decls ≡ ds → 1 ≤ length ds → ((i : ℕ) (d : Range) → slice_get ds i ≡ Some d → is_range_over (take i ds) d ≡ true) → First q
by_kind q [] all some over = absurd (omega arith)
by_kind q (range.Alias j a ∷ ds) all some over = let e = over 0 (range.Alias j a) refl in cc
by_kind q (range.Databases ∷ ds) all some over = record { first = range.Databases; rest = ds; all = all; bases = λ c. refl; headers = refl; specs = refl; marks = λ rows_of. refl }
by_kind q (range.Relations p ∷ ds) all some over = record { first = range.Relations p; rest = ds; all = all; bases = λ c. refl; headers = refl; specs = refl; marks = λ rows_of. refl }
by_kind q (range.Attributes p r ∷ ds) all some over = record { first = range.Attributes p r; rest = ds; all = all; bases = λ c. refl; headers = refl; specs = refl; marks = λ rows_of. refl }
by_kind q (range.Tuples p r ∷ ds) all some over = record { first = range.Tuples p r; rest = ds; all = all; bases = λ c. refl; headers = refl; specs = refl; marks = λ rows_of. refl }
by_kind q (range.Values p r a ∷ ds) all some over = record { first = range.Values p r a; rest = ds; all = all; bases = λ c. refl; headers = refl; specs = refl; marks = λ rows_of. refl }

pub first_of : (q : Query) → IsViewOfProfile q → First q
first_of q profile = by_kind q q.decls refl profile.some_declaration (ranges q profile)
