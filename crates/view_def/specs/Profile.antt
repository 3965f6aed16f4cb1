-- Which typed views the language has: what every use of a view may rely on.
use Rattle.std.specs.Prelude.{◌≡◌, ◌≤◌, ℕ, Bool, true, false, not, ◌&&◌, List, [], ◌∷◌, ◌++◌, length, flat_map, count_by, slice_get, bytes_eq, Contains, Option, Some, None, is_some}
use Rattle.std.specs.List.{list_all, IsDistinct}
use Rattle.std.specs.Option.{option_map_or, ForSome}
use Rattle.ss_text.specs.Label.{is_table_label}
use Rattle.view_def.specs.declared.typed.Place.{Place}
use Rattle.view_def.specs.declared.typed.Place.TheVariants as place
use Rattle.view_def.specs.declared.typed.Term.{Term}
use Rattle.view_def.specs.declared.typed.Term.TheVariants as term
use Rattle.view_def.specs.declared.typed.Range.{Range}
use Rattle.view_def.specs.declared.typed.Range.TheVariants as range
use Rattle.view_def.specs.Conditions.{Condition, Conditions, AnyOf, AllOf, NotOf, Compares, none, more}
use Rattle.view_def.specs.Query.{Query}
use Rattle.view_def.specs.Terms.{terms_of_view}

-- a declaration of a tuple variable; the variable of every other kind has a text
abbrev pub lists_tuples : Range → Bool
lists_tuples (range.Tuples db rel) = true
lists_tuples d = false

-- whether a declaration ranges over rows: tuples or column values, and is no alias
abbrev pub ranges_over_rows : Range → Bool
ranges_over_rows (range.Tuples db rel) = true
ranges_over_rows (range.Values db rel a) = true
ranges_over_rows d = false

-- whether there is a declaration at a place, of a tuple variable or of another
abbrev pub is_tuple_variable : List Range → ℕ → Bool
is_tuple_variable ds k = option_map_or lists_tuples (slice_get ds k) false

abbrev pub is_text_variable : List Range → ℕ → Bool
is_text_variable ds k = option_map_or (λ d. not (lists_tuples d)) (slice_get ds k) false

-- a name, or a variable that has a text
abbrev pub has_text : List Range → Place → Bool
has_text ds (place.Fixed t) = true
has_text ds (place.Var k) = is_text_variable ds k

-- a range whose variables are among these declarations
abbrev pub is_range_over : List Range → Range → Bool
is_range_over ds range.Databases = true
is_range_over ds (range.Relations db) = has_text ds db
is_range_over ds (range.Attributes db rel) = has_text ds db && has_text ds rel
is_range_over ds (range.Tuples db rel) = has_text ds db && has_text ds rel
is_range_over ds (range.Values db rel a) = has_text ds db && has_text ds rel && has_text ds a
is_range_over ds (range.Alias k a) = is_tuple_variable ds k && has_text ds a

-- each declaration is over those before it
abbrev pub are_ranges_after : List Range → List Range → Bool
are_ranges_after before [] = true
are_ranges_after before (d ∷ ds) = is_range_over before d && are_ranges_after (before ++ d ∷ []) ds

-- a term whose variables are among these declarations
abbrev pub is_term_over : List Range → Term → Bool
is_term_over ds (term.Literal t) = true
is_term_over ds (term.Var k) = is_text_variable ds k
is_term_over ds (term.Cell k a) = is_tuple_variable ds k && has_text ds a

-- the table label: a legal one, or a variable that has a text
abbrev pub is_label_over : List Range → Place → Bool
is_label_over ds (place.Fixed t) = is_table_label t
is_label_over ds (place.Var k) = is_text_variable ds k

-- the variable column: a variable that has a text
abbrev pub is_column_over : List Range → Place → Bool
is_column_over ds (place.Fixed t) = false
is_column_over ds (place.Var k) = is_text_variable ds k

-- a tuple variable and the variable in its attribute place, where one stands there
abbrev pub cell_folds : ℕ → Place → List (ℕ × ℕ)
cell_folds k (place.Fixed a) = []
cell_folds k (place.Var v) = (k, v) ∷ []

abbrev pub range_folds : Range → List (ℕ × ℕ)
range_folds (range.Alias k a) = cell_folds k a
range_folds d = []

abbrev pub term_folds : Term → List (ℕ × ℕ)
term_folds (term.Cell k a) = cell_folds k a
term_folds t = []

-- those of the aliases and of the terms
abbrev pub folds_of_view : Query → List (ℕ × ℕ)
folds_of_view q = flat_map range_folds q.decls ++ flat_map term_folds (terms_of_view q)

abbrev pub has_two : Conditions → Bool
has_two (more c (more d cs)) = true
has_two cs = false

abbrev mutual
  -- OR and AND join at least two members, at each level
  pub is_well_joined : Condition → Bool
  is_well_joined (AnyOf cs) = has_two cs && are_well_joined cs
  is_well_joined (AllOf cs) = has_two cs && are_well_joined cs
  is_well_joined (NotOf c) = is_well_joined c
  is_well_joined (Compares s op t) = true

  pub are_well_joined : Conditions → Bool
  are_well_joined none = true
  are_well_joined (more c cs) = is_well_joined c && are_well_joined cs

abbrev pub is_well_joined_filter : Option Condition → Bool
is_well_joined_filter None = true
is_well_joined_filter (Some c) = is_well_joined c

pub record IsViewOfProfile (q : Query) : Type 0 where
  -- the view database and the table label
  pub view_db : is_table_label q.view_db ≡ true
  pub label : is_label_over q.decls q.label ≡ true
  -- the constant columns are distinct and at least one, and each has its key
  pub constants : IsDistinct bytes_eq q.constants
  pub some_constant : 1 ≤ length q.constants
  pub keys : length q.keys ≡ length q.constants
  -- the variable column, where there is one, has its place among the constants, its variable and its value
  pub spot : ForSome q.spot (λ s. s ≤ length q.constants)
  pub column : is_some q.column ≡ is_some q.spot
  pub value : is_some q.value ≡ is_some q.spot
  pub varies : ForSome q.column (λ p. is_column_over q.decls p ≡ true)
  -- at least one declaration and at most 8, at most 4 over rows, each over those before it
  pub some_declaration : 1 ≤ length q.decls
  pub few : length q.decls ≤ 8
  pub few_over_rows : count_by ranges_over_rows q.decls ≤ 4
  pub ranges : are_ranges_after [] q.decls ≡ true
  -- the terms are over the declarations
  pub terms : list_all (is_term_over q.decls) (terms_of_view q) ≡ true
  -- the condition is well joined
  pub condition : is_well_joined_filter q.condition ≡ true
  -- a tuple variable has one variable at most in its attribute place
  pub one_fold : (k u v : ℕ) → Contains (folds_of_view q) (k, u) → Contains (folds_of_view q) (k, v) → u ≡ v
