-- Flat rows that pass the tests of their declaration.
use Rattle.std.specs.Prelude.{List, [], ◌∷◌, filter}
use Rattle.std.specs.List.{list_all}
use Rattle.ss_text.specs.Texts.{Row}
use Rattle.schema_model.specs.Catalogue.{CatalogueValue}
use Rattle.schema_delta.specs.declared.spec.FlatSpec.{FlatSpec}
use Rattle.schema_delta.specs.Flat.{flat}
use Rattle.plan_form.specs.declared.base.Equal.{Equal}
use Rattle.plan_form.specs.Bases.{equal_holds}

-- the rows that pass these tests
abbrev pub rows_passing : List Equal → List Row → List Row
rows_passing tests rows = filter (λ row. list_all (equal_holds row) tests) rows

-- those of each declaration over a catalogue
abbrev pub own_listed : CatalogueValue → List FlatSpec → List (List Equal) → List (List Row)
own_listed c [] ts = []
own_listed c (s ∷ ss) [] = []
own_listed c (s ∷ ss) (t ∷ ts) = rows_passing t (flat c s) ∷ own_listed c ss ts
