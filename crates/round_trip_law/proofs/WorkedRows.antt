-- Worked rows: what a view back has, and what is lost where a premise is left out.
use Rattle.std.proofs.Common.{◌≡◌, refl, List, [], ◌∷◌}
use Rattle.std.specs.Prelude.{codes, true}
use Rattle.std.specs.Str.{is_utf8, chars}
use Rattle.ss_text.specs.Texts.{Text, Row}
use Rattle.ss_text.specs.Label.{is_table_label, is_column_label}
use Rattle.schema_model.specs.Catalogue.{CatalogueValue, relation_value, database_value}
use Rattle.flow_law.specs.Facts.{illegal, conflict, refusal_by}
use Rattle.flow_law.specs.FactTables.{tables}
use Rattle.view_meaning.specs.Valuations.{valuations, counts}
use Rattle.view_meaning.specs.Meaning.{meaning, facts}
use Rattle.view_meaning.specs.Refusal.{refusal}
use Rattle.view_stack.specs.Stands.{given_by}
use Rattle.round_trip_law.specs.Forms.{Named, Parts, from_values, from_columns, from_tables, to_values, to_columns, to_tables}
use Rattle.round_trip_law.specs.Kept.{is_refused, alone}

abbrev three : Text → Text → Text → Row
three a b c = a ∷ b ∷ c ∷ []

-- the salary floor of a category in each department
abbrev parts : Parts
parts = record { keys = codes "category" ∷ []; name = codes "dept"; value = codes "floor" }

abbrev at : Text → Named
at db = record { db = db; rel = codes "salInfo" }

-- an office with these attributes
abbrev office : Row → List Row → CatalogueValue
office attributes rows = database_value (codes "A") (relation_value (codes "salInfo") attributes rows ∷ []) ∷ []

-- departments as values, in another order of attributes
abbrev values : List Row → CatalogueValue
values rows = office (three (codes "dept") (codes "floor") (codes "category")) rows

abbrev row : Text → Text → Text → Row
row category dept floor = three dept floor category

abbrev to_tables_and_back : CatalogueValue → CatalogueValue
to_tables_and_back c = given_by (given_by c (to_tables parts (codes "C") (from_values parts (at (codes "A"))))) (to_values parts (at (codes "D")) (from_tables parts (codes "C")))

abbrev to_columns_and_back : CatalogueValue → CatalogueValue
to_columns_and_back c = given_by (given_by c (to_columns parts (at (codes "B")) (from_values parts (at (codes "A"))))) (to_values parts (at (codes "D")) (from_columns parts (at (codes "B"))))

abbrev to_values_and_back : Parts → CatalogueValue → CatalogueValue
to_values_and_back p c = given_by (given_by c (to_values p (at (codes "B")) (from_columns p (at (codes "A"))))) (to_columns p (at (codes "D")) (from_values p (at (codes "B"))))

-- ---- a row that stands twice, and one without a value
abbrev salaries : CatalogueValue
salaries = values (row (codes "Prof") (codes "cs") (codes "72") ∷ row (codes "Prof") (codes "math") [] ∷ row (codes "Prof") (codes "cs") (codes "72") ∷ row (codes "Assoc") (codes "cs") (codes "60") ∷ [])

by_tables : to_tables_and_back salaries ≡ alone parts (at (codes "D")) (three (codes "Assoc") (codes "cs") (codes "60") ∷ three (codes "Prof") (codes "cs") (codes "72") ∷ three (codes "Prof") (codes "math") [] ∷ [])
unfolding meaning facts valuations counts tables
by_tables = refl

by_columns : to_columns_and_back salaries ≡ alone parts (at (codes "D")) (three (codes "Assoc") (codes "cs") (codes "60") ∷ three (codes "Prof") (codes "cs") (codes "72") ∷ [])
unfolding meaning facts valuations counts tables
by_columns = refl

-- ---- two rows with one category: both become one row; of an attribute without a text, and of a row without one, nothing is left
abbrev wide : CatalogueValue
wide =
    office (codes "category" ∷ three (codes "math") (codes "cs") (codes "bio"))
    ((codes "Prof" ∷ three [] (codes "72") []) ∷ (codes "Prof" ∷ three (codes "65") [] []) ∷ (codes "Tech" ∷ three [] [] []) ∷ (codes "Assoc" ∷ three [] (codes "60") []) ∷ [])

by_values : to_values_and_back parts wide
    ≡ database_value (codes "D") (relation_value (codes "salInfo") (three (codes "category") (codes "cs") (codes "math")) (three (codes "Assoc") (codes "60") [] ∷ three (codes "Prof") (codes "72") (codes "65") ∷ []) ∷ []) ∷ []
unfolding meaning facts valuations counts tables
by_values = refl

-- ---- a name that is no label: no tables are made
unlabelled : is_refused (values (row (codes "Prof") [] (codes "72") ∷ [])) (to_tables parts (codes "C") (from_values parts (at (codes "A")))) ≡ true
unfolding refusal refusal_by illegal facts valuations counts is_table_label is_utf8 chars lib.Utf8.encode
unlabelled = refl

-- ---- nor columns in a table that has no label
abbrev nowhere : Named
nowhere = record { db = codes "B"; rel = [] }

no_table : is_refused (values (row (codes "Prof") (codes "cs") (codes "72") ∷ [])) (to_columns parts nowhere (from_values parts (at (codes "A")))) ≡ true
unfolding refusal refusal_by illegal facts valuations counts is_table_label is_utf8 chars lib.Utf8.encode
no_table = refl

-- ---- a name that is a key's: no columns are made, since its values would not come back
abbrev named_as_key : CatalogueValue
named_as_key = values (row (codes "Prof") (codes "category") (codes "72") ∷ [])

key_refused : is_refused named_as_key (to_columns parts (at (codes "B")) (from_values parts (at (codes "A")))) ≡ true
unfolding refusal refusal_by illegal facts valuations counts is_table_label is_column_label is_utf8 chars lib.Utf8.encode
key_refused = refl

key_lost : to_columns_and_back named_as_key ≡ alone parts (at (codes "D")) []
unfolding meaning facts valuations counts tables
key_lost = refl

-- ---- two floors of one category in one department: one of them would be lost
abbrev clashing : CatalogueValue
clashing = values (row (codes "Prof") (codes "cs") (codes "72") ∷ row (codes "Prof") (codes "cs") (codes "60") ∷ [])

clash_refused : is_refused clashing (to_columns parts (at (codes "B")) (from_values parts (at (codes "A")))) ≡ true
unfolding refusal refusal_by illegal conflict facts valuations counts is_table_label is_column_label is_utf8 chars lib.Utf8.encode
clash_refused = refl

clash_lost : to_columns_and_back clashing ≡ alone parts (at (codes "D")) (three (codes "Prof") (codes "cs") (codes "60") ∷ [])
unfolding meaning facts valuations counts tables
clash_lost = refl

-- ---- a relation without the attribute of the values, or of a key, says nothing
without_value : to_tables_and_back (office (codes "dept" ∷ codes "category" ∷ []) ((codes "cs" ∷ codes "Prof" ∷ []) ∷ [])) ≡ alone parts (at (codes "D")) []
unfolding meaning facts valuations counts tables
without_value = refl

without_key : to_values_and_back parts (office (codes "cs" ∷ []) ((codes "72" ∷ []) ∷ [])) ≡ database_value (codes "D") (relation_value (codes "salInfo") (codes "category" ∷ []) [] ∷ []) ∷ []
unfolding meaning facts valuations counts tables
without_key = refl

-- ---- nor does a row that has fewer texts than there are attributes, of which a sound catalogue has none
too_short : to_tables_and_back (values ((codes "cs" ∷ codes "72" ∷ []) ∷ [])) ≡ alone parts (at (codes "D")) []
unfolding meaning facts valuations counts tables
too_short = refl

-- ---- where the value's attribute is a key's too, the texts under the names are lost
abbrev twice : Parts
twice = record parts { value = codes "category" }

twice_lost : to_values_and_back twice (office (codes "category" ∷ codes "cs" ∷ []) ((codes "Prof" ∷ codes "72" ∷ []) ∷ []))
    ≡ database_value (codes "D") (relation_value (codes "salInfo") (codes "category" ∷ codes "cs" ∷ []) ((codes "Prof" ∷ codes "Prof" ∷ []) ∷ []) ∷ []) ∷ []
unfolding meaning facts valuations counts tables
twice_lost = refl
