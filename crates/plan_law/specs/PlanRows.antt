-- The plan of a view: joins of flat rows, by places.
use Rattle.std.specs.Prelude.{suc, true, List, [], ◌∷◌, ◌++◌, map, filter, zip, ℕ}
use Rattle.ss_text.specs.Texts.{Row}
use Rattle.schema_model.specs.Catalogue.{CatalogueValue}
use Rattle.view_def.specs.Query.{Query}
use Rattle.flow_law.specs.Facts.{Fact}
use Rattle.view_meaning.specs.Valuations.{counts}
use Rattle.view_meaning.specs.Meaning.{fact_of}
use Rattle.plan_law.specs.Kinds.{Term, Range}
use Rattle.plan_law.specs.Kinds.range
use Rattle.schema_delta.specs.declared.spec.FlatSpec.{FlatSpec}
use Rattle.schema_delta.specs.Flat.{flat}
use Rattle.plan_law.specs.Columns.{Column, Combo, header, headers_from, spec_of, read}
use Rattle.plan_law.specs.Links.{keys_hold, own_holds}
use Rattle.plan_law.specs.Chain.{Joint, chain}

abbrev pub texts : Combo → Row
texts x = map (λ (c : Column). c.1) x

-- what each base declaration asks of the catalogue, from place k on
abbrev pub specs_from : Query → ℕ → List Range → List FlatSpec
specs_from q k [] = []
specs_from q k (range.Alias j a ∷ ds) = specs_from q (suc k) ds
specs_from q k (d ∷ ds) = spec_of q k d ∷ specs_from q (suc k) ds

-- the flat rows of declaration k that pass their own tests, behind rows under these terms
abbrev pub own_rows : CatalogueValue → Query → List Term → ℕ → Range → List Row
own_rows c q h k d = filter (own_holds q h (header q k d)) (flat c (spec_of q k d))

-- those of the base declarations from place k on
abbrev pub rows_from : CatalogueValue → Query → List Term → ℕ → List Range → List (List Row)
rows_from c q h k [] = []
rows_from c q h k (range.Alias j a ∷ ds) = rows_from c q h (suc k) ds
rows_from c q h k (d ∷ ds) = own_rows c q h k d ∷ rows_from c q (h ++ header q k d) (suc k) ds

-- a join by the keys between these terms and those
abbrev pub joint_of : Query → List Term → List Term → Joint
joint_of q h d = record { keys = keys_hold q h d; passes = λ row. true }

-- the joins with the base declarations from place k on, behind rows under these terms
abbrev pub joints_from : Query → List Term → ℕ → List Range → List Joint
joints_from q h k [] = []
joints_from q h k (range.Alias j a ∷ ds) = joints_from q h (suc k) ds
joints_from q h k (d ∷ ds) = joint_of q h (header q k d) ∷ joints_from q (h ++ header q k d) (suc k) ds

-- a plan's joins; the rows that its first declaration gives, and those of each further one
abbrev pub plan_joints : Query → List Range → List Joint
plan_joints q [] = []
plan_joints q (d ∷ ds) = joints_from q (header q 0 d) 1 ds

abbrev pub first_rows : CatalogueValue → Query → List Range → List Row
first_rows c q [] = [] ∷ []
first_rows c q (d ∷ ds) = own_rows c q [] 0 d

abbrev pub further_rows : CatalogueValue → Query → List Range → List (List Row)
further_rows c q [] = []
further_rows c q (d ∷ ds) = rows_from c q (header q 0 d) 1 ds

-- the rows that the plan lists: the first declaration's, joined with those of one declaration after another
abbrev pub plan_rows : CatalogueValue → Query → List Range → List Row
plan_rows c q ds = chain (plan_joints q ds) (first_rows c q ds) (further_rows c q ds)

-- the terms over them
abbrev pub plan_header : Query → List Term
plan_header q = headers_from q 0 q.decls

-- the facts that rows under these terms give
abbrev pub row_facts : Query → List Term → List Row → List Fact
row_facts q h rows = map (λ row. fact_of q (read q (zip h row))) (filter (λ row. counts q (read q (zip h row))) rows)
