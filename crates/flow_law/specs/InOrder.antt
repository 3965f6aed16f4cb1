-- Which tables are in order.
use Rattle.std.specs.Prelude.{◌≡◌, length}
use Rattle.std.specs.List.{AllByRecursion}
use Rattle.std.specs.List.Sorted.{IsStrictlySortedBy}
use Rattle.ss_text.specs.Texts.{Text, Row, text_cmp, row_cmp}
use Rattle.flow_law.specs.Tables.{TableValue, TablesValue, row_keys, labels_of}

-- columns and keys ascend strictly, and each row has a cell for each column
pub record IsTable (t : TableValue) : Type 0 where
  pub columns : IsStrictlySortedBy text_cmp t.columns
  pub keys : IsStrictlySortedBy row_cmp (row_keys t)
  pub cells : AllByRecursion (λ (r : Row × Row). length r.1 ≡ length t.columns) t.rows

-- labels ascend strictly, and each table is in order
pub record AreTables (ts : TablesValue) : Type 0 where
  pub labels : IsStrictlySortedBy text_cmp (labels_of ts)
  pub tables : AllByRecursion (λ (p : Text × TableValue). IsTable p.1) ts
