-- A view over a source, and the view over the values that are made of it: both have the facts of the same entries.
use Rattle.std.proofs.Common.{◌≡◌, ◌∙◌, ◌+◌, true, List, [], ◌∷◌, Some, None, map, length, length-append, refl, sym, ap, subst}
use Rattle.std.specs.Prelude.{option_map, bytes_eq, filter}
use Rattle.std.specs.Option.{option_or}
use Rattle.std.specs.List.{list_all, AllByRecursion, IsDistinct}
use Rattle.std.proofs.lemmas.List.{length-map}
use Rattle.ss_text.specs.Texts.{Text, Row, text_eq, row_cmp, is_in}
use Rattle.ss_text.specs.Ascending.{ascending}
use Rattle.ss_text.proofs.KeyLemmas.{text_order, row_order, equal_itself}
use Rattle.ss_text.proofs.SetLemmas.{SameElements, same_map, same_filter, same_filter_map, least_of_same}
use Rattle.schema_model.specs.Catalogue.{RelationValue, CatalogueValue, relation_value, relation_of}
use Rattle.view_def.specs.Query.{Query}
use Rattle.flow_law.specs.declared.shape.Shape.{Shape}
use Rattle.flow_law.specs.declared.refused.IllegalLabel.{IllegalLabel}
use Rattle.flow_law.specs.declared.refused.EvalFault.TheVariants as eval
use Rattle.flow_law.specs.Facts.{Fact, Pair, illegal, illegal_table, illegal_column, conflict, first_refusal, refusal_by}
use Rattle.flow_law.specs.FactTables.{tables}
use Rattle.flow_law.proofs.RefusedLemmas.{pair_total, pair_same}
use Rattle.flow_law.proofs.SameFacts.{tables_same, conflict_same}
use Rattle.view_meaning.specs.Elements.{Valuation}
use Rattle.view_meaning.specs.Meaning.{given, facts, shape_of, meaning}
use Rattle.view_meaning.specs.Refusal.{refusal}
use Rattle.view_meaning.specs.Terms.{value_of}
use Rattle.view_meaning.specs.Valuations.{assignments}
use Rattle.view_stack.specs.Stands.{given_by}
use Rattle.round_trip_law.specs.Forms.{Named, Parts, header, Source, cell, from_values, from_columns, from_tables, to_values, to_columns, to_tables}
use Rattle.round_trip_law.specs.Kept.{alone}
use Rattle.round_trip_law.specs.Law.{IsThroughValues, AreThroughValues, ThroughValues}
use Rattle.round_trip_law.proofs.CellLemmas.{own_texts, text_next, text_last, IsApart, apart}
use Rattle.round_trip_law.proofs.Entries.{Entry, AreFull, entry_row, value_fact, column_fact, table_fact, counted, entry_of, said, AreNamed, Makes, makes_values, makes_columns, makes_tables, facts_are}
use Rattle.round_trip_law.proofs.Members.{all_by, list_all_by, in_ascending, ascending_in, same_by}
use Rattle.view_meaning.proofs.OrderLemmas.{in_all, in_any, map_in}
use Rattle.round_trip_law.proofs.SourceLemmas.{among, row_entry, values_said, values_named, columns_named, tables_named}
use Rattle.round_trip_law.proofs.TargetLemmas.{values_made}

-- ---- views whose facts are the same
module _ (fs gs : List Fact) (same : SameElements fs gs) (shape : Shape) where
  table_same : illegal_table fs ≡ illegal_table gs
  table_same = ap (option_map (λ (t : Text). let l : IllegalLabel = record { table = t; column = None } in l)) (least_of_same text_order.total text_order.same _ _ (same_filter _ _ _ (same_map (λ (f : Fact). f.label) fs gs same)))

  column_same : illegal_column shape.constants fs ≡ illegal_column shape.constants gs
  column_same = ap (option_map (λ (p : Pair). let l : IllegalLabel = record { table = p.0; column = Some p.1 } in l)) (least_of_same pair_total pair_same _ _ (same_filter _ _ _ (same_filter_map _ fs gs same)))

  illegal_same : illegal shape fs ≡ illegal shape gs
  unfolding illegal
  illegal_same = λ i. option_or (table_same i) (column_same i)

module _ (c d : CatalogueValue) (q w : Query) (form : shape_of q ≡ shape_of w) (same : SameElements (facts c q) (facts d w)) where
  pub meaning_same : meaning c q ≡ meaning d w
  unfolding meaning
  meaning_same = ap (λ (shape : Shape). tables shape (facts c q)) form ∙ tables_same (facts c q) (facts d w) same (shape_of w)

  pub refusal_same : refusal c q ≡ refusal d w
  unfolding refusal refusal_by
  refusal_same =
      ap (λ (shape : Shape). first_refusal eval.Illegal eval.Conflict (illegal shape (facts c q)) (conflict (facts c q))) form
      ∙ (λ i. first_refusal eval.Illegal eval.Conflict (illegal_same (facts c q) (facts d w) same (shape_of w) i) (conflict_same (facts c q) (facts d w) same i))

-- ---- the values that are made of entries say the same entries
module _ (p : Parts) (at : Named) (distinct : IsDistinct bytes_eq (header p)) where
  apart_parts : IsApart p.keys p.name p.value
  apart_parts = apart p.keys p.name p.value distinct

  row_back : (e : Entry) → length e.key ≡ length p.keys → row_entry p (header p) (entry_row e) ≡ e
  row_back e l =
      let key = own_texts p.keys (p.name ∷ p.value ∷ []) e.key (e.name ∷ e.value ∷ []) l apart_parts.keys_apart in
      let name = text_next p.keys e.key p.name e.name (p.value ∷ []) (e.value ∷ []) l apart_parts.first in
      let value = text_last p.keys e.key p.name e.name p.value e.value l apart_parts.second apart_parts.both in
      λ i. record { key = key i; name = name i; value = value i }

  rows_back : (es : List Entry) → AreFull p es → map (row_entry p (header p)) (map entry_row es) ≡ es
  rows_back [] h = refl
  rows_back (e ∷ es) h = λ i. row_back e h.0 i ∷ rows_back es h.1 i

  all_there : list_all (λ a. is_in a (header p)) (header p) ≡ true
  all_there = list_all_by (λ a. is_in a (header p)) (header p) (λ a i. in_any (text_eq a) a (header p) i (equal_itself text_order a))

  module _ (es : List Entry) (full : AreFull p es) where
    abbrev rows : List Row
    rows = ascending row_cmp (map entry_row es)

    long : (e : Entry) → length e.key ≡ length p.keys → length (entry_row e) ≡ length (header p)
    long e l = length-append e.key (e.name ∷ e.value ∷ []) ∙ ap (λ n. n + 2) l ∙ sym (length-append p.keys (p.name ∷ p.value ∷ []))

    fit : AllByRecursion (λ (row : Row). length row ≡ length (header p)) rows
    fit = all_by (λ (row : Row). length row ≡ length (header p)) rows
        (λ row i.
        let e = map_in entry_row row es (ascending_in row_order row (map entry_row es) i) in
        ap length e.2 ∙ long e.0 (in_all (λ (e : Entry). length e.key ≡ length p.keys) e.0 es e.1 full))

    -- these entries are read of the values
    abbrev pub read_again : List Entry
    read_again = map (row_entry p (header p)) rows

    relation : RelationValue
    relation = relation_value at.rel (header p) rows

    there : relation_of (alone p at (map entry_row es)) at.db at.rel ≡ Some relation
    unfolding relation
    there = rw (equal_itself text_order at.db, equal_itself text_order at.rel) refl

    pub values_say : said (alone p at (map entry_row es)) (from_values p at) ≡ read_again
    unfolding relation
    values_say = values_said p at (alone p at (map entry_row es)) relation there fit (among p (header p) all_there)

    rows_same : SameElements rows (map entry_row es)
    rows_same = same_by rows (map entry_row es) (λ row i. ascending_in row_order row (map entry_row es) i) (λ row i. in_ascending row_order row (map entry_row es) i)

    pub again_same : SameElements read_again es
    again_same = subst (SameElements read_again) (rows_back es full) (same_map (row_entry p (header p)) rows (map entry_row es) rows_same)

-- ---- a view through values
module _ (p : Parts) (middle : Named) (distinct : IsDistinct bytes_eq (header p)) (c : CatalogueValue) (s : Source) (named : AreNamed c s) (long : length s.keys ≡ length p.keys) where
  full_said : (vs : List Valuation) → AreFull p (map (λ v. entry_of s (value_of v)) vs)
  full_said [] = tt
  full_said (v ∷ vs) = (length-map s.keys (λ t. given (value_of v t)) ∙ long, full_said vs)

  abbrev es : List Entry
  es = said c s

  full : AreFull p es
  full = full_said (filter (λ v. counted s (value_of v)) (assignments c [] s.decls))

  abbrev values : CatalogueValue
  values = given_by c (to_values p middle s)

  values_are : values ≡ alone p middle (map entry_row es)
  values_are = values_made p middle c s es (facts_are c s (to_values p middle s) (value_fact middle) (makes_values p s middle) named)

  module _ (to : Source → Query) (fact : Entry → Fact) (makes : (s : Source) → Makes s (to s) fact) (form : shape_of (to (from_values p middle)) ≡ shape_of (to s)) where
    direct : facts c (to s) ≡ map fact es
    direct = facts_are c s (to s) fact (makes s) named

    again : facts values (to (from_values p middle)) ≡ map fact (read_again p middle distinct es full)
    again =
        facts_are values (from_values p middle) (to (from_values p middle)) fact (makes (from_values p middle)) (values_named p middle values)
        ∙ ap (λ (d : CatalogueValue). map fact (said d (from_values p middle))) values_are
        ∙ ap (map fact) (values_say p middle distinct es full)

    same_facts : SameElements (facts values (to (from_values p middle))) (facts c (to s))
    same_facts =
        subst (λ (fs : List Fact). SameElements fs (facts c (to s))) (sym again)
        (subst (SameElements (map fact (read_again p middle distinct es full))) (sym direct) (same_map fact (read_again p middle distinct es full) es (again_same p middle distinct es full)))

    pub is_through : IsThroughValues p middle c s to
    is_through = record {
      tables = meaning_same values c (to (from_values p middle)) (to s) form same_facts;
      refused = refusal_same values c (to (from_values p middle)) (to s) form same_facts;
    }

  pub are_through : (to : Named) → AreThroughValues p middle to c s
  are_through to = record {
    columns = is_through (to_columns p to) (column_fact to) (λ s. makes_columns p s to) refl;
    tables = is_through (to_tables p to.db) table_fact (λ s. makes_tables p s to.db) refl;
  }

pub through_values : ThroughValues
through_values p at middle to c distinct =
    (are_through p middle distinct c (from_columns p at) (columns_named p at c) (length-map p.keys (cell 1)) to, are_through p middle distinct c (from_tables p at.db) (tables_named p at.db c) (length-map p.keys (cell 1)) to)
