-- Facts of a view whose table label is constant, and the tables of one whose label is a variable.
use Rattle.std.specs.Prelude.{◌≡◌, ⊤, List, map, Option, Some, None}
use Rattle.std.specs.List.{AllByRecursion}
use Rattle.ss_text.specs.Texts.{Text, text_cmp}
use Rattle.ss_text.specs.Ascending.{ascending}
use Rattle.flow_law.specs.Facts.{Fact, facts_of}
use Rattle.flow_law.specs.Tables.{TablesValue}
use Rattle.flow_law.specs.FactTables.{fact_table}

-- each fact bears this label
abbrev pub AllBear : Text → List Fact → Type 0
AllBear label fs = AllByRecursion (λ (f : Fact). f.label ≡ label) fs

-- each fact bears the constant label, where there is one
abbrev pub BearLabel : Option Text → List Fact → Type 0
BearLabel None fs = ⊤
BearLabel (Some label) fs = AllBear label fs

-- a table for each label of the facts
abbrev pub label_tables : List Fact → TablesValue
label_tables fs = map (λ label. (label, fact_table (facts_of label fs))) (ascending text_cmp (map (λ (f : Fact). f.label) fs))
