-- The tables that have a form.
use Rattle.std.specs.Prelude.{◌≡◌, true, is_some}
use Rattle.std.specs.List.{AllByRecursion}
use Rattle.ss_text.specs.Texts.{Text}
use Rattle.ss_text.specs.Label.{is_column_label}
use Rattle.flow_law.specs.declared.shape.Shape.{Shape}
use Rattle.flow_law.specs.Tables.{TableValue}
use Rattle.flow_law.specs.InOrder.{IsTable}
use Rattle.view_folder.specs.Held.{KeysFit}

-- a table in order with legal columns, which stand only where there is a variable column, and a text for each constant column in each key
pub record HasForm (shape : Shape) (t : TableValue) : Type 0 where
  pub in_order : IsTable t
  pub columns : AllByRecursion (λ column. is_column_label column shape.constants ≡ true) t.columns
  pub spot : AllByRecursion (λ (column : Text). is_some shape.spot ≡ true) t.columns
  pub keys : KeysFit shape t
