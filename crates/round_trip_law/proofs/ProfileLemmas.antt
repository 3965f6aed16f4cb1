-- Each source and each form that is made of it is a view of the language.
use Rattle.std.proofs.Common.{◌≡◌, ◌∙◌, ◌+◌, ◌≤◌, ℕ, Bool, true, false, List, [], ◌∷◌, ◌++◌, Option, Some, None, map, length, length-append, refl, sym, ap, subst, arith}
use Rattle.std.specs.Prelude.{bytes_eq, flat_map, count_by, option_to_list, Contains}
use Rattle.std.specs.List.{list_all, AllByRecursion, IsDistinct}
use Rattle.std.proofs.lemmas.List.{length-map}
use Rattle.std.proofs.lemmas.List.Elements.{All-contains, All-from_recursion}
use Rattle.ss_text.specs.Texts.{Text, Row}
use Rattle.ss_text.proofs.GroupLemmas.{all_weaker}
use Rattle.view_def.specs.declared.typed.Place.TheVariants as place
use Rattle.view_def.specs.declared.typed.Range.{Range}
use Rattle.view_def.specs.declared.typed.Term.{Term}
use Rattle.view_def.specs.declared.typed.Term.TheVariants as term
use Rattle.view_def.specs.Conditions.{AllOf}
use Rattle.view_def.specs.Profile.{IsViewOfProfile, is_term_over, is_text_variable, are_ranges_after, ranges_over_rows, is_column_over, are_well_joined, is_well_joined_filter, range_folds, term_folds}
use Rattle.view_def.specs.Terms.{terms_of_each, terms_of_filter, terms_of_view}
use Rattle.view_stack.proofs.ScriptLemmas.{all_append}
use Rattle.round_trip_law.specs.Forms.{Named, Parts, Source, cell, no_key_nor_empty, from_values, from_columns, from_tables, to_values, to_columns, to_tables}
use Rattle.round_trip_law.specs.Law.{AreLegal, AreViews, FormsAreViews}
use Rattle.round_trip_law.proofs.CellLemmas.{apart}
use Rattle.round_trip_law.proofs.Members.{all_flat}

-- ---- lists
all_true : {A : Type 0} (test : A → Bool) (xs : List A) → AllByRecursion (λ x. test x ≡ true) xs → list_all test xs ≡ true
all_true test [] h = refl
all_true test (x ∷ xs) h = rw h.0 (all_true test xs h.1)

-- the constant columns without the name
without_middle : (keys : Row) (a b : Text) → IsDistinct bytes_eq (keys ++ a ∷ b ∷ []) → IsDistinct bytes_eq (keys ++ b ∷ [])
unfolding IsDistinct
without_middle [] a b d = (tt, tt)
without_middle (x ∷ keys) a b d = (less keys d.0, without_middle keys a b d.1)
  where
    less : (ks : Row) → AllByRecursion (λ y. bytes_eq x y ≡ false) (ks ++ a ∷ b ∷ []) → AllByRecursion (λ y. bytes_eq x y ≡ false) (ks ++ b ∷ [])
    less [] h = (h.1.0, tt)
    less (k ∷ ks) h = (h.0, less ks h.1)

-- ---- terms over declarations, which fold the rows of one variable by one attribute variable
abbrev only : ℕ × ℕ
only = (1, 0)

record Fits (ds : List Range) (t : Term) : Type 0 where
  over : is_term_over ds t ≡ true
  folds : AllByRecursion (λ (f : ℕ × ℕ). f ≡ only) (term_folds t)

record IsSource (p : Parts) (s : Source) : Type 0 where
  some : 1 ≤ length s.decls
  few : length s.decls ≤ 8
  few_over_rows : count_by ranges_over_rows s.decls ≤ 4
  ranges : are_ranges_after [] s.decls ≡ true
  aliases : AllByRecursion (λ (f : ℕ × ℕ). f ≡ only) (flat_map range_folds s.decls)
  long : length s.keys ≡ length p.keys
  keys : AllByRecursion (Fits s.decls) s.keys
  name : is_text_variable s.decls s.name ≡ true
  value : Fits s.decls s.value
  terms : AllByRecursion (Fits s.decls) (terms_of_filter s.condition)
  joined : is_well_joined_filter s.condition ≡ true

-- ---- the three sources
module _ (p : Parts) (at : Named) where
  cells_fit : (ds : List Range) (k : ℕ) → ((a : Text) → Fits ds (cell k a)) → (names : Row) → AllByRecursion (Fits ds) (map (cell k) names)
  cells_fit ds k h [] = tt
  cells_fit ds k h (a ∷ names) = (h a, cells_fit ds k h names)

  values_source : IsSource p (from_values p at)
  values_source = record {
    some = omega arith;
    few = omega arith;
    few_over_rows = omega arith;
    ranges = refl;
    aliases = tt;
    long = length-map p.keys (cell 0);
    keys = cells_fit (from_values p at).decls 0 (λ a. record { over = refl; folds = tt }) p.keys;
    name = refl;
    value = record { over = refl; folds = tt };
    terms = tt;
    joined = refl;
  }

  tables_source : IsSource p (from_tables p at.db)
  tables_source = record {
    some = omega arith;
    few = omega arith;
    few_over_rows = omega arith;
    ranges = refl;
    aliases = tt;
    long = length-map p.keys (cell 1);
    keys = cells_fit (from_tables p at.db).decls 1 (λ a. record { over = refl; folds = tt }) p.keys;
    name = refl;
    value = record { over = refl; folds = tt };
    terms = tt;
    joined = refl;
  }

  abbrev by_columns : List Range
  by_columns = (from_columns p at).decls

  conditions_fit : (keys : Row) → AllByRecursion (Fits by_columns) (terms_of_each (no_key_nor_empty keys))
  conditions_fit [] = (record { over = refl; folds = (refl, tt) }, (record { over = refl; folds = tt }, tt))
  conditions_fit (k ∷ keys) = (record { over = refl; folds = tt }, (record { over = refl; folds = tt }, conditions_fit keys))

  two_joined : (keys : Row) → 1 ≤ length keys → is_well_joined_filter (Some (AllOf (no_key_nor_empty keys))) ≡ true
  two_joined [] h = absurd (omega (arith, h))
  two_joined (k ∷ []) h = refl
  two_joined (k ∷ l ∷ keys) h = joined keys
    where
      joined : (keys : Row) → are_well_joined (no_key_nor_empty keys) ≡ true
      joined [] = refl
      joined (k ∷ keys) = joined keys

  columns_source : 1 ≤ length p.keys → IsSource p (from_columns p at)
  columns_source some_key = record {
    some = omega arith;
    few = omega arith;
    few_over_rows = omega arith;
    ranges = refl;
    aliases = tt;
    long = length-map p.keys (cell 1);
    keys = cells_fit by_columns 1 (λ a. record { over = refl; folds = tt }) p.keys;
    name = refl;
    value = record { over = refl; folds = (refl, tt) };
    terms = conditions_fit p.keys;
    joined = two_joined p.keys some_key;
  }

-- ---- the three forms that are made
module _ (p : Parts) (to : Named) (s : Source) (legal : AreLegal p to) (source : IsSource p s) where
  name_fits : Fits s.decls (term.Var s.name)
  name_fits = record { over = source.name; folds = tt }

  all_over : (ts : List Term) → AllByRecursion (Fits s.decls) ts → list_all (is_term_over s.decls) ts ≡ true
  all_over ts h = all_true (is_term_over s.decls) ts (all_weaker (Fits s.decls) (λ t. is_term_over s.decls t ≡ true) (λ t f. f.over) ts h)

  -- the terms of a view with these keys and this value
  all_fit : (keys : List Term) (value : Option Term) → AllByRecursion (Fits s.decls) keys → AllByRecursion (Fits s.decls) (option_to_list value) → AllByRecursion (Fits s.decls) (keys ++ option_to_list value ++ terms_of_filter s.condition)
  all_fit keys value h k = all_append (Fits s.decls) (keys ++ option_to_list value) (terms_of_filter s.condition) (all_append (Fits s.decls) keys (option_to_list value) h k) source.terms

  one : (ts : List Term) → AllByRecursion (Fits s.decls) ts → (k u v : ℕ) → Contains (flat_map range_folds s.decls ++ flat_map term_folds ts) (k, u) → Contains (flat_map range_folds s.decls ++ flat_map term_folds ts) (k, v) → u ≡ v
  one ts h k u v i j =
      let folds : AllByRecursion (λ (f : ℕ × ℕ). f ≡ only) (flat_map range_folds s.decls ++ flat_map term_folds ts) =
      all_append (λ (f : ℕ × ℕ). f ≡ only) (flat_map range_folds s.decls) (flat_map term_folds ts) source.aliases
      (all_flat (λ (f : ℕ × ℕ). f ≡ only) term_folds ts (all_weaker (Fits s.decls) (λ t. AllByRecursion (λ (f : ℕ × ℕ). f ≡ only) (term_folds t)) (λ t f. f.folds) ts h)) in
      let all = All-from_recursion (λ (f : ℕ × ℕ). f ≡ only) (flat_map range_folds s.decls ++ flat_map term_folds ts) folds in
      let first : (k, u) ≡ only = All-contains (λ (f : ℕ × ℕ). f ≡ only) (flat_map range_folds s.decls ++ flat_map term_folds ts) (k, u) all i in
      let second : (k, v) ≡ only = All-contains (λ (f : ℕ × ℕ). f ≡ only) (flat_map range_folds s.decls ++ flat_map term_folds ts) (k, v) all j in
      ap (λ (f : ℕ × ℕ). f.1) first ∙ sym (ap (λ (f : ℕ × ℕ). f.1) second)

  row_fits : AllByRecursion (Fits s.decls) (s.keys ++ term.Var s.name ∷ s.value ∷ [])
  row_fits = all_append (Fits s.decls) s.keys (term.Var s.name ∷ s.value ∷ []) source.keys (name_fits, (source.value, tt))

  rest_fits : AllByRecursion (Fits s.decls) (s.keys ++ s.value ∷ [])
  rest_fits = all_append (Fits s.decls) s.keys (s.value ∷ []) source.keys (source.value, tt)

  values_view : IsViewOfProfile (to_values p to s)
  values_view = record {
    view_db = legal.db;
    label = legal.rel;
    constants = legal.distinct;
    some_constant = let n = length-append p.keys (p.name ∷ p.value ∷ []) in omega (arith, n);
    keys = length-append s.keys (term.Var s.name ∷ s.value ∷ []) ∙ ap (λ n. n + 2) source.long ∙ sym (length-append p.keys (p.name ∷ p.value ∷ []));
    spot = λ n e. absurd (cc);
    column = refl;
    value = refl;
    varies = λ n e. absurd (cc);
    some_declaration = source.some;
    few = source.few;
    few_over_rows = source.few_over_rows;
    ranges = source.ranges;
    terms = all_over (terms_of_view (to_values p to s)) (all_fit (s.keys ++ term.Var s.name ∷ s.value ∷ []) None row_fits tt);
    condition = source.joined;
    one_fold = one (terms_of_view (to_values p to s)) (all_fit (s.keys ++ term.Var s.name ∷ s.value ∷ []) None row_fits tt);
  }

  columns_view : IsViewOfProfile (to_columns p to s)
  columns_view = record {
    view_db = legal.db;
    label = legal.rel;
    constants = (apart p.keys p.name p.value legal.distinct).keys_apart;
    some_constant = legal.some_key;
    keys = source.long;
    spot = λ n e. let same : length p.keys ≡ n = cc in omega (arith, same);
    column = refl;
    value = refl;
    varies = λ n e. let same : place.Var s.name ≡ n = cc in subst (λ x. is_column_over s.decls x ≡ true) same source.name;
    some_declaration = source.some;
    few = source.few;
    few_over_rows = source.few_over_rows;
    ranges = source.ranges;
    terms = all_over (terms_of_view (to_columns p to s)) (all_fit s.keys (Some s.value) source.keys (source.value, tt));
    condition = source.joined;
    one_fold = one (terms_of_view (to_columns p to s)) (all_fit s.keys (Some s.value) source.keys (source.value, tt));
  }

  tables_view : IsViewOfProfile (to_tables p to.db s)
  tables_view = record {
    view_db = legal.db;
    label = source.name;
    constants = without_middle p.keys p.name p.value legal.distinct;
    some_constant = let n = length-append p.keys (p.value ∷ []) in omega (arith, n);
    keys = length-append s.keys (s.value ∷ []) ∙ ap (λ n. n + 1) source.long ∙ sym (length-append p.keys (p.value ∷ []));
    spot = λ n e. absurd (cc);
    column = refl;
    value = refl;
    varies = λ n e. absurd (cc);
    some_declaration = source.some;
    few = source.few;
    few_over_rows = source.few_over_rows;
    ranges = source.ranges;
    terms = all_over (terms_of_view (to_tables p to.db s)) (all_fit (s.keys ++ s.value ∷ []) None rest_fits tt);
    condition = source.joined;
    one_fold = one (terms_of_view (to_tables p to.db s)) (all_fit (s.keys ++ s.value ∷ []) None rest_fits tt);
  }

  are_views : AreViews p to s
  are_views = record { values = values_view; columns = columns_view; tables = tables_view }

pub forms_are_views : FormsAreViews
forms_are_views p at to legal =
    (are_views p to (from_values p at) legal (values_source p at), are_views p to (from_columns p at) legal (columns_source p at legal.some_key), are_views p to (from_tables p at.db) legal (tables_source p at))
