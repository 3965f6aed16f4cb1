-- The whole walk: which part of it refuses first, and what stands where none does.
use Rattle.std.proofs.Common.{◌≡◌, ◌≢◌, ◌<◌, ◌++◌, [], ℕ, false, not, List, Option, Some, None, Ok, Err, refl, sym, ap, ◌∙◌, arith, length, map}
use Rattle.std.specs.Prelude.{nat_eq}
use Rattle.std.specs.Option.{ForSome}
use Rattle.std.proofs.lemmas.Bool.Decides.{nat_tests}
use Rattle.std.proofs.lemmas.List.{length-map}
use Rattle.std.proofs.lemmas.List.Quantifiers.{position-Some}
use Rattle.ss_text.specs.Texts.{Text}
use Rattle.view_def.specs.Tree.{ViewTree}
use Rattle.view_def.specs.Conditions.{Condition}
use Rattle.view_def.specs.declared.typed.Place.{Place}
use Rattle.view_def.specs.declared.typed.Place.TheVariants as place
use Rattle.view_def.specs.declared.typed.Range.{Range}
use Rattle.view_def.specs.declared.typed.Term.{Term}
use Rattle.view_def.specs.declared.written.RawDecl.{RawDecl}
use Rattle.var_typing.specs.declared.fault.TypeFault.{TypeFault}
use Rattle.var_typing.specs.declared.fault.TypeFault.TheVariants as fault
use Rattle.var_typing.specs.declared.folds.Fold.{Fold}
use Rattle.var_typing.specs.declared.header.Header.{Header}
use Rattle.var_typing.specs.declared.view.Body.{Body}
use Rattle.var_typing.specs.Declarations.{alias_folds, declarations_fault, typed_range}
use Rattle.var_typing.specs.Folds.{SameOthers}
use Rattle.var_typing.specs.Header.{header_fault, count_fault, column_places, is_variable, Parts, header_of, header_parts}
use Rattle.var_typing.specs.Refusals.{◌or_else◌}
use Rattle.var_typing.specs.Scope.{place_named}
use Rattle.var_typing.specs.Terms.{terms_fault, terms_in_filter, typed_term}
use Rattle.var_typing.specs.Typed.{fault_of, answered, body_of, body_parts, query_with, query_from, typed}
use Rattle.var_typing.proofs.TermLemmas.{terms_same}
use Rattle.var_typing.proofs.WalkLemmas.{after_none, at_some, none_right, not_true}

refused : (t : ViewTree) (f : TypeFault) → fault_of t ≡ Some f → typed t ≡ Err f
unfolding typed
refused t f h = ap (λ (g : Option TypeFault). answered g (query_from t)) h

accepted : (t : ViewTree) → fault_of t ≡ None → typed t ≡ Ok (query_from t)
unfolding typed
accepted t h = ap (λ (g : Option TypeFault). answered g (query_from t)) h

or_else-assoc : (f g h : Option TypeFault) → ((f or_else g) or_else h) ≡ (f or_else (g or_else h))
or_else-assoc None g h = refl
or_else-assoc (Some f) g h = refl

abbrev rest_terms : ViewTree → List Fold → Option TypeFault
rest_terms t folds = terms_fault t.decls folds (t.select ++ terms_in_filter t.condition)

-- a slice has the declarations of the tree
module _ (t : ViewTree) (ds : List RawDecl) (e : ds ≡ t.decls) where
  pub declarations_refused : (f : TypeFault) → (f ≢ fault.NoMemory → declarations_fault ds ≡ Some f) → f ≢ fault.NoMemory → typed t ≡ Err f
  declarations_refused f h n = refused t f (at_some (declarations_fault t.decls) _ f (ap declarations_fault (sym e) ∙ h n))

  module _ (declared : declarations_fault ds ≡ None) where
    after_declarations : fault_of t ≡ ((header_fault t or_else count_fault t) or_else rest_terms t (alias_folds t.decls t.decls))
    after_declarations =
        after_none (declarations_fault t.decls) _ (ap declarations_fault (sym e) ∙ declared)
        ∙ sym (or_else-assoc (header_fault t) (count_fault t) (rest_terms t (alias_folds t.decls t.decls)))

    pub header_refused : (f : TypeFault) → (f ≢ fault.NoMemory → (header_fault t or_else count_fault t) ≡ Some f) → f ≢ fault.NoMemory → typed t ≡ Err f
    header_refused f h n = refused t f (after_declarations ∙ at_some (header_fault t or_else count_fault t) (rest_terms t (alias_folds t.decls t.decls)) f (h n))

    module _ (kept : List Fold) (taken : SameOthers (alias_folds ds ds) kept) (header : (header_fault t or_else count_fault t) ≡ None) where
      after_header : fault_of t ≡ rest_terms t kept
      after_header =
          after_declarations ∙ after_none (header_fault t or_else count_fault t) (rest_terms t (alias_folds t.decls t.decls)) header
          ∙ ap (λ (d : List RawDecl). rest_terms t (alias_folds d d)) (sym e)
          ∙ terms_same t.decls (alias_folds ds ds) kept taken (t.select ++ terms_in_filter t.condition)

      pub body_refused : (f : TypeFault) → (f ≢ fault.NoMemory → rest_terms t kept ≡ Some f) → f ≢ fault.NoMemory → typed t ≡ Err f
      body_refused f h n = refused t f (after_header ∙ h n)

      pub view_typed : (h : Header) (ranges : List Range) (b : Body) → rest_terms t kept ≡ None → header_parts h ≡ header_of t → ranges ≡ map (λ (d : RawDecl). typed_range ds d.range) ds → body_parts b ≡ body_of t
          → typed t ≡ Ok (query_with (header_parts h) ranges (body_parts b))
      view_typed h ranges b none hs rs bs =
          accepted t (after_header ∙ none) ∙ ap Ok (
          ap (λ (d : List RawDecl). query_with (header_of t) (map (λ (r : RawDecl). typed_range d r.range) d) (body_of t)) (sym e)
          ∙ ap (λ (l : List Range). query_with (header_of t) l (body_of t)) (sym rs)
          ∙ ap (λ (x : List Term × Option Condition). query_with (header_of t) ranges x) (sym bs)
          ∙ ap (λ (x : Text × Place × Parts). query_with x ranges (body_parts b)) (sym hs))

-- as many terms as columns
pub counts : (t : ViewTree) → count_fault t ≡ None → length t.columns ≡ length t.select
counts t h = same_count (length t.columns) (length t.select) (not_true (not (nat_eq (length t.columns) (length t.select))) _ h)
  where
    same_count : (a b : ℕ) → not (nat_eq a b) ≡ false → a ≡ b
    same_count a b h = grind (arith, nat_tests)

-- the place of the variable column is one of the terms
pub spot_within : (t : ViewTree) (h : Header) (b : Body) → (header_fault t or_else count_fault t) ≡ None → header_parts h ≡ header_of t → body_parts b ≡ body_of t → ForSome h.columns.spot (λ k. k < length b.terms.items)
spot_within t h b none hs bs k is =
    let at = position-Some is_variable (column_places t.decls t.columns) k (place.Fixed []) (ap (λ (x : Text × Place × Parts). x.2.1) (sym hs) ∙ is) in
    let places = length-map t.columns (place_named t.decls) in
    let same = counts t (none_right (header_fault t) (count_fault t) none) in
    let terms = ap (λ (x : List Term × Option Condition). length x.0) bs in
    let many = length-map t.select (typed_term t.decls) in
    let lt = at.0 in
    omega arith
