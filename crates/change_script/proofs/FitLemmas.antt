-- The tables of facts fit their form, where no label is illegal.
use Rattle.std.proofs.Common.{◌≡◌, Bool, true, false, not, cond, map, filter, List, [], ◌∷◌, ◌++◌, length, Option, Some, None, refl}
use Rattle.std.specs.Prelude.{is_some, option_map, option_to_list}
use Rattle.std.specs.List.{AllByRecursion, filter_map, cons_option}
use Rattle.std.specs.Option.{option_or, ForSome}
use Rattle.std.specs.Cmp.Lexicographic.{nat_list_cmp_total, lists_total}
use Rattle.std.specs.declared.cmp.Ordering.{Ordering}
use Rattle.std.specs.declared.cmp.Ordering.TheVariants.{Less, Equal, Greater}
use Rattle.ss_text.specs.Texts.{Text, Row, text_eq, text_cmp, row_cmp}
use Rattle.ss_text.specs.Label.{is_table_label, is_column_label}
use Rattle.ss_text.specs.Ascending.{ascending, least, lesser, by_order}
use Rattle.ss_text.proofs.GroupLemmas.{all_filter, all_ascending, all_weaker}
use Rattle.flow_law.specs.declared.shape.Shape.{Shape}
use Rattle.flow_law.specs.Facts.{Fact, Pair, column_of, pairs_of, pair_cmp, illegal, illegal_table, illegal_column, facts_of}
use Rattle.flow_law.specs.FactTables.{tables, fact_table, value_for}
use Rattle.flow_law.specs.Tables.{TableValue}
use Rattle.change_script.specs.Fits.{TableFits, TablesFit}

-- a fact of a view of this form: a text for each constant column, and a cell only where there is a variable column
pub record FactFits (shape : Shape) (f : Fact) : Type 0 where
  pub key : length f.key ≡ length shape.constants
  pub cell : (column : Text) → column_of f ≡ Some column → is_some shape.spot ≡ true

-- a list without a least element
no_lesser : {A : Type 0} (R : A → A → Ordering) (x : A) (o : Option A) → lesser R x o ≡ None → ⊥
no_lesser R x None e = cc
no_lesser R x (Some y) e = by_case (R x y) e
  where
    by_case : (r : Ordering) → by_order r (Some x) (Some x) (Some y) ≡ None → ⊥
    by_case Less h = cc
    by_case Equal h = cc
    by_case Greater h = cc

none_least : {A : Type 0} (R : A → A → Ordering) (xs : List A) → least R xs ≡ None → xs ≡ []
none_least R [] h = refl
none_least R (x ∷ xs) h = absurd (no_lesser R x (least R xs) h)

none_left : {A : Type 0} (p : A → Bool) (xs : List A) → filter (λ x. not (p x)) xs ≡ [] → AllByRecursion (λ x. p x ≡ true) xs
none_left p [] h = tt
none_left p (x ∷ xs) h = by_test (p x) refl h (λ rest. none_left p xs rest)
  where
    by_test : (b : Bool) → p x ≡ b → cond (not b) (x ∷ filter (λ y. not (p y)) xs) (filter (λ y. not (p y)) xs) ≡ [] → (filter (λ y. not (p y)) xs ≡ [] → AllByRecursion (λ y. p y ≡ true) xs) → AllByRecursion (λ y. p y ≡ true) (x ∷ xs)
    by_test true e h more = (e, more h)
    by_test false e h more = absurd (cc)

none_mapped : {A B : Type 0} (f : A → B) (o : Option A) → option_map f o ≡ None → o ≡ None
none_mapped f None h = refl
none_mapped f (Some x) h = absurd (cc)

neither : {A : Type 0} (a b : Option A) → option_or a b ≡ None → (a ≡ None) × (b ≡ None)
neither None b h = (refl, h)
neither (Some x) b h = absurd (cc)

each_of : {A B : Type 0} (f : A → B) (P : B → Type 0) (xs : List A) → AllByRecursion P (map f xs) → AllByRecursion (λ x. P (f x)) xs
each_of f P [] h = tt
each_of f P (x ∷ xs) h = (h.0, each_of f P xs h.1)

each_to : {A B : Type 0} (f : A → B) (P : B → Type 0) (xs : List A) → AllByRecursion (λ x. P (f x)) xs → AllByRecursion P (map f xs)
each_to f P [] h = tt
each_to f P (x ∷ xs) h = (h.0, each_to f P xs h.1)

each_behind : {A : Type 0} (P : A → Type 0) (o : Option A) (xs : List A) → ForSome o P → AllByRecursion P xs → AllByRecursion P (option_to_list o ++ xs)
each_behind P None xs h i = i
each_behind P (Some x) xs h i = (h x refl, i)

module _ (shape : Shape) where
  abbrev Legal : Fact → Type 0
  Legal f = (column : Text) → column_of f ≡ Some column → is_column_label column shape.constants ≡ true

  -- what holds of the columns of facts, by fact
  columns_legal : (fs : List Fact) → AllByRecursion (λ (p : Pair). is_column_label p.1 shape.constants ≡ true) (pairs_of fs) → AllByRecursion Legal fs
  columns_legal [] h = tt
  columns_legal (f ∷ fs) h = by_column (column_of f) refl h (λ rest. columns_legal fs rest)
    where
      by_column : (o : Option Text) → column_of f ≡ o
          → AllByRecursion (λ (p : Pair). is_column_label p.1 shape.constants ≡ true) (cons_option (option_map (λ column. (f.label, column)) o) (pairs_of fs))
          → (AllByRecursion (λ (p : Pair). is_column_label p.1 shape.constants ≡ true) (pairs_of fs) → AllByRecursion Legal fs) → AllByRecursion Legal (f ∷ fs)
      by_column None e h more = (λ column is. absurd (cc), more h)
      by_column (Some c) e h more = (λ column is. let same : c ≡ column = cc in rw same at h.0, more h.1)

  column_texts : (P : Text → Type 0) (fs : List Fact) → AllByRecursion (λ (f : Fact). (column : Text) → column_of f ≡ Some column → P column) fs → AllByRecursion P (filter_map column_of fs)
  column_texts P [] h = tt
  column_texts P (f ∷ fs) h = by_column (column_of f) refl (column_texts P fs h.1)
    where
      by_column : (o : Option Text) → column_of f ≡ o → AllByRecursion P (filter_map column_of fs) → AllByRecursion P (cons_option o (filter_map column_of fs))
      by_column None e rest = rest
      by_column (Some c) e rest = (h.0 c e, rest)

  fact_table_fits : (label : Text) (fs : List Fact) → is_table_label label ≡ true → AllByRecursion (FactFits shape) fs → AllByRecursion Legal fs → TableFits shape label (fact_table fs)
  fact_table_fits label fs legal fit columns =
      let keys : List Row = ascending row_cmp (map (λ (f : Fact). f.key) fs) in
      let named : Row = ascending text_cmp (filter_map column_of fs) in
      record {
        legal = legal;
        columns = all_ascending nat_list_cmp_total (λ column. is_column_label column shape.constants ≡ true) (filter_map column_of fs) (column_texts (λ column. is_column_label column shape.constants ≡ true) fs columns);
        spot = all_ascending nat_list_cmp_total (λ (column : Text). is_some shape.spot ≡ true) (filter_map column_of fs) (column_texts (λ column. is_some shape.spot ≡ true) fs (all_weaker (FactFits shape) (λ (f : Fact). (column : Text) → column_of f ≡ Some column → is_some shape.spot ≡ true) (λ f h. h.cell) fs fit));
        keys =
            each_to (λ (key : Row). (key, map (value_for fs key) named)) (λ (r : Row × Row). length r.0 ≡ length shape.constants) keys
            (all_ascending (lists_total nat_list_cmp_total) (λ (key : Row). length key ≡ length shape.constants) (map (λ (f : Fact). f.key) fs)
            (each_to (λ (f : Fact). f.key) (λ (key : Row). length key ≡ length shape.constants) fs (all_weaker (FactFits shape) (λ (f : Fact). length f.key ≡ length shape.constants) (λ f h. h.key) fs fit)));
      }

  pub tables_fit : (fs : List Fact) → ForSome shape.label (λ label. is_table_label label ≡ true) → illegal shape fs ≡ None → AllByRecursion (FactFits shape) fs → TablesFit shape (tables shape fs)
  unfolding illegal tables
  tables_fit fs constant none fit =
      let legal = neither (illegal_table fs) (illegal_column shape.constants fs) none in
      let labels = none_left is_table_label (map (λ (f : Fact). f.label) fs) (none_least text_cmp _ (none_mapped _ _ legal.0)) in
      let columns = columns_legal fs (none_left (λ (p : Pair). is_column_label p.1 shape.constants) (pairs_of fs) (none_least pair_cmp _ (none_mapped _ _ legal.1))) in
      let all = option_to_list shape.label ++ map (λ (f : Fact). f.label) fs in
      each_to (λ label. (label, fact_table (facts_of label fs))) (λ (p : Text × TableValue). TableFits shape p.0 p.1) (ascending text_cmp all)
      (all_weaker (λ label. is_table_label label ≡ true) (λ label. TableFits shape label (fact_table (facts_of label fs)))
      (λ label l. fact_table_fits label (facts_of label fs) l (all_filter (FactFits shape) (λ (f : Fact). text_eq label f.label) fs fit) (all_filter Legal (λ (f : Fact). text_eq label f.label) fs columns))
      (ascending text_cmp all)
      (all_ascending nat_list_cmp_total (λ label. is_table_label label ≡ true) all (each_behind (λ label. is_table_label label ≡ true) shape.label (map (λ (f : Fact). f.label) fs) constant labels)))
