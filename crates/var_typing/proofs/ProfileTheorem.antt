-- What typing gives for a written view is a view of the profile.
use Rattle.std.proofs.Common.{◌≡◌, ◌≤◌, ◌++◌, ◌⊎◌, inl, inr, List, Option, Some, None, Ok, refl, sym, ◌∙◌, subst, arith, length, map}
use Rattle.std.specs.Prelude.{option_map, option_to_list, position}
use Rattle.std.proofs.lemmas.List.{length-map, map-append}
use Rattle.view_def.specs.Profile.{IsViewOfProfile, is_term_over, is_well_joined_filter}
use Rattle.view_def.specs.Query.{Query}
use Rattle.view_def.specs.RawConditions.{Raw}
use Rattle.view_def.specs.Terms.{terms_of_filter, terms_of_view}
use Rattle.view_def.specs.Tree.{ViewTree}
use Rattle.view_def.specs.Written as written
use Rattle.view_def.specs.Written.{IsWritten}
use Rattle.view_def.specs.declared.typed.Term.{Term}
use Rattle.view_def.specs.declared.written.RawDecl.{RawDecl}
use Rattle.var_typing.specs.declared.fault.TypeFault.{TypeFault}
use Rattle.var_typing.specs.Declarations.{alias_folds, declarations_fault, typed_range}
use Rattle.var_typing.specs.Header.{database_fault, label_fault, column_places, is_variable, header_fault, count_fault}
use Rattle.var_typing.specs.Scope.{variable_named}
use Rattle.var_typing.specs.Terms.{terms_in_filter, typed_term, typed_condition}
use Rattle.var_typing.specs.Typed.{fault_of, answered, query_from, typed}
use Rattle.var_typing.proofs.Members.{Among, among_append, among_left, among_right, among_split, among_contains, among_all}
use Rattle.var_typing.proofs.ProfileDeclarations.{few_declarations, few_over_rows, ranges_in_turn}
use Rattle.var_typing.proofs.ProfileHeader.{legal_database, label_over, distinct_constants, some_constant, keys_many, spot_few, with_value, with_column, column_over}
use Rattle.var_typing.proofs.ProfileScope.{ranges_of}
use Rattle.var_typing.proofs.ProfileTerms.{terms_over, typed_terms, joined, one_variable}
use Rattle.var_typing.proofs.TypedLemmas.{counts}
use Rattle.var_typing.proofs.WalkLemmas.{none_left, none_right}

filter_terms : (ds : List RawDecl) (c : Option Raw) → terms_of_filter (option_map (typed_condition ds) c) ≡ map (typed_term ds) (terms_in_filter c)
filter_terms ds None = refl
filter_terms ds (Some c) = typed_terms ds c

filter_joined : (ds : List RawDecl) (c : Option Raw) → is_well_joined_filter (option_map (typed_condition ds) c) ≡ written.is_well_joined_filter c
filter_joined ds None = refl
filter_joined ds (Some c) = joined ds c

-- the terms of the typed view are those of the walk
among_terms : (t : ViewTree) (x : Term) → Among x (terms_of_view (query_from t)) → Among x (map (typed_term t.decls) (t.select ++ terms_in_filter t.condition))
among_terms t x h = subst (λ (l : List Term). Among x l) (sym (map-append (typed_term t.decls) t.select (terms_in_filter t.condition))) (cases (among_append x (q.keys ++ option_to_list q.value) (terms_of_filter q.condition) h))
  where
    q : Query
    q = query_from t

    cases : Among x (q.keys ++ option_to_list q.value) ⊎ Among x (terms_of_filter q.condition) → Among x (map (typed_term t.decls) t.select ++ map (typed_term t.decls) (terms_in_filter t.condition))
    cases (inl i) = among_left x (map (typed_term t.decls) t.select) _ (among_split x (position is_variable (column_places t.decls t.columns)) (map (typed_term t.decls) t.select) i)
    cases (inr j) = among_right x (map (typed_term t.decls) t.select) _ (subst (λ (l : List Term). Among x l) (filter_terms t.decls t.condition) j)

of_profile : (t : ViewTree) → fault_of t ≡ None → IsWritten t → IsViewOfProfile (query_from t)
of_profile t h w =
    let ds = t.decls in
    let declared = none_left (declarations_fault ds) _ h in
    let later = none_right (declarations_fault ds) _ h in
    let header = none_left (header_fault t) _ later in
    let after = none_right (header_fault t) _ later in
    let count = counts t (none_left (count_fault t) _ after) in
    let body = none_right (count_fault t) _ after in
    let database = none_left (database_fault t.view_db.text (variable_named ds t.view_db)) _ header in
    let names = none_right (database_fault t.view_db.text (variable_named ds t.view_db)) _ header in
    let label = none_left (label_fault ds t.label.text (variable_named ds t.label)) _ names in
    let columns = none_right (label_fault ds t.label.text (variable_named ds t.label)) _ names in
    let as_many = count ∙ sym (length-map t.select (typed_term ds)) in
    let many = length-map ds (λ (d : RawDecl). typed_range ds d.range) in
    record {
      view_db = legal_database t.view_db.text (variable_named ds t.view_db) database;
      label = label_over ds t.label label;
      constants = distinct_constants ds t.columns columns;
      some_constant = some_constant ds t.columns columns;
      keys = keys_many ds t.columns columns (map (typed_term ds) t.select) as_many;
      spot = spot_few ds t.columns columns (map (typed_term ds) t.select) as_many;
      column = with_column ds t.columns columns;
      value = with_value ds t.columns columns (map (typed_term ds) t.select) as_many;
      varies = column_over ds t.columns columns;
      some_declaration = let n = w.decls in omega arith;
      few = let n = few_declarations ds declared in omega arith;
      few_over_rows = few_over_rows ds declared;
      ranges = ranges_in_turn ds declared;
      terms = among_all (is_term_over (ranges_of ds ds)) (terms_of_view (query_from t)) (λ x i. terms_over ds (alias_folds ds ds) (t.select ++ terms_in_filter t.condition) body x (among_terms t x i));
      condition = filter_joined ds t.condition ∙ w.condition;
      one_fold = λ k u v i j.
          one_variable ds declared (t.select ++ terms_in_filter t.condition) body (terms_of_view (query_from t)) (among_terms t) k u v (among_contains (k, u) _ i) (among_contains (k, v) _ j);
    }

-- a written view that is typed is a view of the profile
pub profile : (t : ViewTree) (q : Query) → typed t ≡ Ok q → IsWritten t → IsViewOfProfile q
unfolding typed
profile t q e w =
    let (none, is) = by_fault (fault_of t) e in
    subst (λ (p : Query). IsViewOfProfile p) is (of_profile t none w)
  where
    by_fault : (f : Option TypeFault) → answered f (query_from t) ≡ Ok q → (f ≡ None) × (query_from t ≡ q)
    by_fault None h = (refl, cc)
    by_fault (Some f) h = absurd (cc)

-- also of a tree that no text spells: there is a constant column, and each has its key
columns_of_view : (t : ViewTree) → fault_of t ≡ None → (1 ≤ length (query_from t).constants) × (length (query_from t).keys ≡ length (query_from t).constants)
columns_of_view t h =
    let ds = t.decls in
    let later = none_right (declarations_fault ds) _ h in
    let header = none_left (header_fault t) _ later in
    let after = none_right (header_fault t) _ later in
    let count = counts t (none_left (count_fault t) _ after) in
    let names = none_right (database_fault t.view_db.text (variable_named ds t.view_db)) _ header in
    let columns = none_right (label_fault ds t.label.text (variable_named ds t.label)) _ names in
    let as_many = count ∙ sym (length-map t.select (typed_term ds)) in
    (some_constant ds t.columns columns, keys_many ds t.columns columns (map (typed_term ds) t.select) as_many)

pub has_columns : (t : ViewTree) (q : Query) → typed t ≡ Ok q → (1 ≤ length q.constants) × (length q.keys ≡ length q.constants)
unfolding typed
has_columns t q e =
    let (none, is) = by_fault (fault_of t) e in
    subst (λ (p : Query). (1 ≤ length p.constants) × (length p.keys ≡ length p.constants)) is (columns_of_view t none)
  where
    by_fault : (f : Option TypeFault) → answered f (query_from t) ≡ Ok q → (f ≡ None) × (query_from t ≡ q)
    by_fault None h = (refl, cc)
    by_fault (Some f) h = absurd (cc)
