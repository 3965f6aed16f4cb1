-- The facts of a view, and when the view is refused for them.
use Rattle.std.specs.Prelude.{not, ◌==◌, List, ◌∷◌, length, map, filter, Option, Some, None, option_map, option_and_then, slice_get, if◌then◌else◌}
use Rattle.std.specs.List.{filter_map}
use Rattle.std.specs.Option.{option_or}
use Rattle.std.specs.declared.cmp.Ordering.{Ordering}
use Rattle.std.specs.Ordering.{ordering_then}
use Rattle.ss_text.specs.Texts.{Text, Row, text_eq, row_eq, text_cmp, row_cmp}
use Rattle.ss_text.specs.Ascending.{ascending, least}
use Rattle.ss_text.specs.Label.{is_table_label, is_column_label}
use Rattle.flow_law.specs.declared.shape.Shape.{Shape}
use Rattle.flow_law.specs.declared.refused.IllegalLabel.{IllegalLabel}
use Rattle.flow_law.specs.declared.refused.Clash.{Clash}

-- what one valuation gives: a table, a key, and a column with its value where the view has a variable column
pub record Fact : Type 0 where
  pub label : Text
  pub key : Row
  pub cell : Option (Text × Text)

-- the column that a fact names
abbrev pub column_of : Fact → Option Text
column_of f = option_map (λ (c : Text × Text). c.0) f.cell

-- a table and a column, in order
abbrev pub Pair : Type 0
Pair = Text × Text

abbrev pub pair_cmp : Pair → Pair → Ordering
pair_cmp a b = ordering_then (text_cmp a.0 b.0) (text_cmp a.1 b.1)

-- the tables and columns that facts name
abbrev pub pairs_of : List Fact → List Pair
pairs_of fs = filter_map (λ (f : Fact). option_map (λ column. (f.label, column)) (column_of f)) fs

-- the least table label that is not legal
abbrev pub illegal_table : List Fact → Option IllegalLabel
illegal_table fs =
    option_map (λ t. record { table = t; column = None }) (least text_cmp (filter (λ t. not (is_table_label t)) (map (λ (f : Fact). f.label) fs)))

-- the least table and column whose column label is not legal beside these constant columns
abbrev pub illegal_column : Row → List Fact → Option IllegalLabel
illegal_column constants fs =
    option_map (λ (p : Pair). record { table = p.0; column = Some p.1 }) (least pair_cmp (filter (λ (p : Pair). not (is_column_label p.1 constants)) (pairs_of fs)))

-- the label for which a view with these facts is refused: a table's before any column's
unfoldable pub illegal : Shape → List Fact → Option IllegalLabel
illegal shape fs = option_or (illegal_table fs) (illegal_column shape.constants fs)

-- the facts of one table
abbrev pub facts_of : Text → List Fact → List Fact
facts_of label fs = filter (λ (f : Fact). text_eq label f.label) fs

-- the value that a fact has for a column
abbrev pub value_in : Text → Fact → Option Text
value_in column f = option_and_then (λ (c : Text × Text). if text_eq column c.0 then Some c.1 else None) f.cell

-- the values for a key and a column that are not empty
abbrev pub values_at : List Fact → Row → Text → List Text
values_at fs key column =
    filter (λ (v : Text). not (length v == 0)) (filter_map (value_in column) (filter (λ (f : Fact). row_eq key f.key) fs))

-- a table, a key and a column, in order
abbrev pub Spot : Type 0
Spot = Text × Row × Text

abbrev pub spot_cmp : Spot → Spot → Ordering
spot_cmp a b = ordering_then (text_cmp a.0 b.0) (ordering_then (row_cmp a.1 b.1) (text_cmp a.2 b.2))

-- the tables, keys and columns that facts name, each once, ascending
abbrev pub spots_of : List Fact → List Spot
spots_of fs =
    ascending spot_cmp (filter_map (λ (f : Fact). option_map (λ column. (f.label, f.key, column)) (column_of f)) fs)

-- the clash of a spot that has two values
abbrev pub clash_of : Spot → List Text → Option Clash
clash_of s (a ∷ b ∷ rest) = Some (record { table = s.0; column = s.2; first = a; second = b; key = s.1 })
clash_of s values = None

-- the least spot with two different values that are not empty, and the two least of them
unfoldable pub conflict : List Fact → Option Clash
conflict fs =
    slice_get (filter_map (λ (s : Spot). clash_of s (ascending text_cmp (values_at (facts_of s.0 fs) s.1 s.2))) (spots_of fs)) 0

-- what is made of a label that is not legal, or else of a conflict: a label is refused before any conflict
abbrev pub first_refusal : {A : Type 0} → (IllegalLabel → A) → (Clash → A) → Option IllegalLabel → Option Clash → Option A
first_refusal label clash (Some l) c = Some (label l)
first_refusal label clash None (Some c) = Some (clash c)
first_refusal label clash None None = None

-- and of that for which a view with these facts is refused
unfoldable pub refusal_by : {A : Type 0} → (IllegalLabel → A) → (Clash → A) → Shape → List Fact → Option A
refusal_by label clash shape fs = first_refusal label clash (illegal shape fs) (conflict fs)
