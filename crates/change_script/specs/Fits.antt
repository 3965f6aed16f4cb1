-- Forms of tables, and the tables that fit one.
use Rattle.std.specs.Prelude.{◌≡◌, ◌≤◌, true, length, is_some, unwrap_or, bytes_eq}
use Rattle.std.specs.List.{AllByRecursion, IsDistinct}
use Rattle.ss_text.specs.Texts.{Text, Row}
use Rattle.ss_text.specs.Label.{is_table_label, is_column_label}
use Rattle.flow_law.specs.declared.shape.Shape.{Shape}
use Rattle.flow_law.specs.Tables.{TableValue, TablesValue}

-- constant columns that all differ, of which no more stand before the variable column than there are
pub record IsForm (shape : Shape) : Type 0 where
  pub distinct : IsDistinct bytes_eq shape.constants
  pub spot : unwrap_or shape.spot (length shape.constants) ≤ length shape.constants

-- a legal label and legal columns, which stand only where there is a variable column, and a text for each constant column in each key
pub record TableFits (shape : Shape) (label : Text) (t : TableValue) : Type 0 where
  pub legal : is_table_label label ≡ true
  pub columns : AllByRecursion (λ column. is_column_label column shape.constants ≡ true) t.columns
  pub spot : AllByRecursion (λ (column : Text). is_some shape.spot ≡ true) t.columns
  pub keys : AllByRecursion (λ (r : Row × Row). length r.0 ≡ length shape.constants) t.rows

abbrev pub TablesFit : Shape → TablesValue → Type 0
TablesFit shape ts = AllByRecursion (λ (p : Text × TableValue). TableFits shape p.0 p.1) ts
