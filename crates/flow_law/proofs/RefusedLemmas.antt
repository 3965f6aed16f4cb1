-- The labels of facts that are not legal.
use Rattle.std.proofs.Common.{◌≡◌, Bool, true, false, cond, List, [], ◌∷◌, map, Option, Some, None, refl, ap}
use Rattle.std.specs.Prelude.{not, filter, option_map, option_and_then, if◌then◌else◌}
use Rattle.std.specs.List.{filter_map, cons_option}
use Rattle.std.specs.Cmp.{IsTotalOrder, on_total, then_total}
use Rattle.std.specs.Cmp.Lexicographic.{nat_list_cmp_total}
use Rattle.std.specs.FinMap.{IsAntisymmetric}
use Rattle.ss_text.specs.Texts.{Text, Row, text_cmp}
use Rattle.ss_text.specs.Label.{is_table_label, is_column_label}
use Rattle.ss_text.proofs.KeyLemmas.{text_order}
use Rattle.flow_law.specs.Facts.{Fact, Pair, pair_cmp, column_of, pairs_of}
use Rattle.flow_law.proofs.Entries.{first_equal, second_equal}

pub pair_total : IsTotalOrder pair_cmp
pair_total = then_total (on_total (λ (p : Pair). p.0) nat_list_cmp_total) (on_total (λ (p : Pair). p.1) nat_list_cmp_total)

pub pair_same : IsAntisymmetric pair_cmp
pair_same p q e =
    let tables = text_order.same p.0 q.0 (first_equal (text_cmp p.0 q.0) _ e) in
    let columns = text_order.same p.1 q.1 (second_equal (text_cmp p.0 q.0) _ e) in
    λ i. (tables i, columns i)

-- the table label of a fact, where it is not legal
abbrev pub bad_table : Fact → Option Text
bad_table f = if is_table_label f.label then None else Some f.label

pub bad_tables : (fs : List Fact) → filter_map bad_table fs ≡ filter (λ (t : Text). not (is_table_label t)) (map (λ (f : Fact). f.label) fs)
bad_tables [] = refl
bad_tables (f ∷ fs) = by_label (is_table_label f.label) (bad_tables fs)
  where
    by_label : (b : Bool) → filter_map bad_table fs ≡ filter (λ (t : Text). not (is_table_label t)) (map (λ (f : Fact). f.label) fs)
        → cons_option (if b then None else Some f.label) (filter_map bad_table fs) ≡ cond (not b) (f.label ∷ filter (λ (t : Text). not (is_table_label t)) (map (λ (f : Fact). f.label) fs)) (filter (λ (t : Text). not (is_table_label t)) (map (λ (f : Fact). f.label) fs))
    by_label true h = h
    by_label false h = ap (λ (ts : List Text). f.label ∷ ts) h

-- and its table and column label, where the column's is not legal beside these constant columns
module _ (constants : Row) where
  abbrev pub bad_column : Fact → Option Pair
  bad_column f = option_and_then (λ (column : Text). if is_column_label column constants then None else Some (f.label, column)) (column_of f)

  kept : List Pair → List Pair
  kept ps = filter (λ (p : Pair). not (is_column_label p.1 constants)) ps

  pub bad_columns : (fs : List Fact) → filter_map bad_column fs ≡ filter (λ (p : Pair). not (is_column_label p.1 constants)) (pairs_of fs)
  unfolding kept
  bad_columns [] = refl
  bad_columns (f ∷ fs) = by_column (column_of f) (bad_columns fs)
    where
      by_label : (column : Text) (b : Bool) → filter_map bad_column fs ≡ kept (pairs_of fs) → cons_option (if b then None else Some (f.label, column)) (filter_map bad_column fs) ≡ cond (not b) ((f.label, column) ∷ kept (pairs_of fs)) (kept (pairs_of fs))
      by_label column true h = h
      by_label column false h = ap (λ (ps : List Pair). (f.label, column) ∷ ps) h

      by_column : (c : Option Text) → filter_map bad_column fs ≡ kept (pairs_of fs)
          → cons_option (option_and_then (λ (column : Text). if is_column_label column constants then None else Some (f.label, column)) c) (filter_map bad_column fs) ≡ kept (cons_option (option_map (λ (column : Text). (f.label, column)) c) (pairs_of fs))
      by_column None h = h
      by_column (Some column) h = by_label column (is_column_label column constants) h
