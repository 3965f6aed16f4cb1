-- What passes typing is over the declarations in sight.
use Rattle.std.proofs.Common.{◌≡◌, ◌<◌, ◌∷◌, ◌++◌, [], ℕ, zero, suc, Bool, true, false, not, List, Option, Some, None, refl, sym, ap, ◌∙◌, arith, length, map, append-nil, if◌then◌else◌}
use Rattle.std.specs.Prelude.{slice_get, nat_le, option_map, ◌&&◌}
use Rattle.std.specs.Option.{option_map_or}
use Rattle.std.proofs.lemmas.Bool.Decides.{nat_tests}
use Rattle.std.proofs.lemmas.List.Quantifiers.{position-Some}
use Rattle.std.proofs.lemmas.Option.{slice_get-map}
use Rattle.std.proofs.lemmas.Bool.{and_from}
use Rattle.ss_text.specs.Texts.{Text, text_eq}
use Rattle.view_def.specs.Profile.{is_tuple_variable, is_text_variable, has_text, is_range_over, is_term_over}
use Rattle.view_def.specs.Profile as profile
use Rattle.view_def.specs.declared.typed.Range.{Range}
use Rattle.view_def.specs.declared.written.Name.{Name}
use Rattle.view_def.specs.declared.written.RawDecl.{RawDecl}
use Rattle.view_def.specs.declared.written.RawRange.{RawRange}
use Rattle.view_def.specs.declared.written.RawRange.TheVariants as raw
use Rattle.view_def.specs.declared.written.RawTerm.{RawTerm}
use Rattle.view_def.specs.declared.written.RawTerm.TheVariants as raw_term
use Rattle.var_typing.specs.declared.fault.TypeFault.TheVariants.{NotDeclared, WrongKind}
use Rattle.var_typing.specs.declared.folds.Fold.{Fold}
use Rattle.var_typing.specs.Declarations.{range_fault, typed_range}
use Rattle.var_typing.specs.Folds.{attribute_fault, two_folds, fold_of}
use Rattle.var_typing.specs.Refusals.{where_true, ◌or_else◌}
use Rattle.var_typing.specs.Scope.{declared_at, lists_tuples, is_tuple, variable_named, variable_or, place_named, visible_fault, name_fault, tuple_at_fault, tuple_fault, variable_at}
use Rattle.var_typing.specs.Terms.{lone_fault, term_fault, typed_term}
use Rattle.var_typing.proofs.WalkLemmas.{none_left, none_right, not_true}

-- the ranges of some declarations of ds
abbrev pub ranges_of : List RawDecl → List RawDecl → List Range
ranges_of ds some = map (λ (d : RawDecl). typed_range ds d.range) some

same_kind : (ds : List RawDecl) (r : RawRange) → profile.lists_tuples (typed_range ds r) ≡ lists_tuples r
same_kind ds raw.Databases = refl
same_kind ds (raw.Relations db) = refl
same_kind ds (raw.Attributes db rel) = refl
same_kind ds (raw.Tuples db rel) = refl
same_kind ds (raw.Values db rel a) = refl
same_kind ds (raw.Alias x a) = refl

-- an element of a front
at_front : {A : Type 0} (xs ys : List A) (k : ℕ) → k < length xs → (x : A) × (slice_get xs k ≡ Some x) × (slice_get (xs ++ ys) k ≡ Some x)
at_front [] ys k lt = absurd (omega arith)
at_front (x ∷ xs) ys zero lt = (x, refl, refl)
at_front (x ∷ xs) ys (suc k) lt = at_front xs ys k (omega arith)

not_within : (m n : ℕ) → nat_le m n ≡ false → n < m
not_within m n h = grind (arith, nat_tests)

module _ (ds before rest : List RawDecl) (whole : ds ≡ before ++ rest) where
  -- a variable in sight, by its kind
  module _ (k : ℕ) (lt : k < length before) where
    kind_of : option_map_or (λ (r : Range). profile.lists_tuples r) (slice_get (ranges_of ds before) k) false ≡ is_tuple ds k
    kind_of =
        let (d, here, there) = at_front before rest k lt in
        ap (λ (o : Option Range). option_map_or profile.lists_tuples o false) (slice_get-map (λ (e : RawDecl). typed_range ds e.range) before k ∙ ap (option_map (λ (e : RawDecl). typed_range ds e.range)) here)
        ∙ same_kind ds d.range
        ∙ ap (λ (o : Option RawDecl). option_map_or (λ (e : RawDecl). lists_tuples e.range) o false) (sym there ∙ ap (λ (l : List RawDecl). slice_get l k) (sym whole))

    text_here : is_tuple ds k ≡ false → is_text_variable (ranges_of ds before) k ≡ true
    text_here h =
        let (d, here, there) = at_front before rest k lt in
        let kind : lists_tuples d.range ≡ false =
        ap (λ (o : Option RawDecl). option_map_or (λ (e : RawDecl). lists_tuples e.range) o false) (sym there ∙ ap (λ (l : List RawDecl). slice_get l k) (sym whole)) ∙ h in
        ap (λ (o : Option Range). option_map_or (λ r. not (profile.lists_tuples r)) o false) (slice_get-map (λ (e : RawDecl). typed_range ds e.range) before k ∙ ap (option_map (λ (e : RawDecl). typed_range ds e.range)) here)
        ∙ ap not (same_kind ds d.range ∙ kind)

    tuple_here : not (is_tuple ds k) ≡ false → is_tuple_variable (ranges_of ds before) k ≡ true
    tuple_here h = kind_of ∙ turned (is_tuple ds k) h
      where
        turned : (b : Bool) → not b ≡ false → b ≡ true
        turned true h = refl
        turned false h = absurd (cc)

  named_over : (x : Text) (v : Option ℕ) → visible_fault ds (length before) x v ≡ None → has_text (ranges_of ds before) (variable_or x v) ≡ true
  named_over x None h = refl
  named_over x (Some k) h =
      let seen = none_left (where_true (nat_le (length before) k) (NotDeclared x)) (where_true (is_tuple ds k) (WrongKind x)) h in
      let kind = none_right (where_true (nat_le (length before) k) (NotDeclared x)) (where_true (is_tuple ds k) (WrongKind x)) h in
      text_here k (not_within (length before) k (not_true (nat_le (length before) k) (NotDeclared x) seen)) (not_true (is_tuple ds k) (WrongKind x) kind)

  name_over : (n : Name) → name_fault ds (length before) n ≡ None → has_text (ranges_of ds before) (place_named ds n) ≡ true
  name_over n h = named_over n.text (variable_named ds n) h

  tuple_over : (x : Text) → tuple_fault ds (length before) x ≡ None → is_tuple_variable (ranges_of ds before) (variable_at ds x) ≡ true
  tuple_over x h = by_place (declared_at ds x) refl h
    where
      by_place : (v : Option ℕ) → declared_at ds x ≡ v → tuple_at_fault ds (length before) x v ≡ None → is_tuple_variable (ranges_of ds before) (variable_at ds x) ≡ true
      by_place None e h = absurd (cc)
      by_place (Some k) e h =
          let seen = none_left (where_true (nat_le (length before) k) (NotDeclared x)) (where_true (not (is_tuple ds k)) (WrongKind x)) h in
          let kind = none_right (where_true (nat_le (length before) k) (NotDeclared x)) (where_true (not (is_tuple ds k)) (WrongKind x)) h in
          rw e (tuple_here k (not_within (length before) k (not_true (nat_le (length before) k) (NotDeclared x) seen)) (not_true (not (is_tuple ds k)) (WrongKind x) kind))

  attribute_over : (folds : List Fold) (x : Text) (a : Name) → attribute_fault ds (length before) folds x a ≡ None
      → (is_tuple_variable (ranges_of ds before) (variable_at ds x) && has_text (ranges_of ds before) (place_named ds a)) ≡ true
  attribute_over folds x a h =
      let more = none_right (tuple_fault ds (length before) x) (name_fault ds (length before) a or_else two_folds folds x (fold_of ds x a)) h in
      and_from _ _ (tuple_over x (none_left (tuple_fault ds (length before) x) (name_fault ds (length before) a or_else two_folds folds x (fold_of ds x a)) h))
      (name_over a (none_left (name_fault ds (length before) a) (two_folds folds x (fold_of ds x a)) more))

  pub range_over : (folds : List Fold) (r : RawRange) → range_fault ds (length before) folds r ≡ None → is_range_over (ranges_of ds before) (typed_range ds r) ≡ true
  range_over folds raw.Databases h = refl
  range_over folds (raw.Relations db) h = name_over db h
  range_over folds (raw.Attributes db rel) h = and_from _ _ (name_over db (none_left _ _ h)) (name_over rel (none_right _ _ h))
  range_over folds (raw.Tuples db rel) h = and_from _ _ (name_over db (none_left _ _ h)) (name_over rel (none_right _ _ h))
  range_over folds (raw.Values db rel a) h =
      let later = none_right _ _ h in
      and_from _ _ (and_from _ _ (name_over db (none_left _ _ h)) (name_over rel (none_left _ _ later))) (name_over a (none_right _ _ later))
  range_over folds (raw.Alias x a) h = attribute_over folds x a h

-- a declared identifier is in range
pub declared_within : (ds : List RawDecl) (x : Text) (k : ℕ) → declared_at ds x ≡ Some k → k < length ds
declared_within ds x k h = (position-Some (λ (d : RawDecl). text_eq d.var x) ds k (record { range = raw.Databases; var = [] }) h).0

pub variable_within : (ds : List RawDecl) (n : Name) (k : ℕ) → variable_named ds n ≡ Some k → k < length ds
variable_within ds n k h = by_quotes n.quoted h
  where
    by_quotes : (q : Bool) → (if q then None else declared_at ds n.text) ≡ Some k → k < length ds
    by_quotes true h = absurd (cc)
    by_quotes false h = declared_within ds n.text k h

module _ (ds : List RawDecl) where
  all : ds ≡ ds ++ []
  all = sym (append-nil ds)

  pub text_variable : (k : ℕ) → k < length ds → is_tuple ds k ≡ false → is_text_variable (ranges_of ds ds) k ≡ true
  text_variable k lt h = text_here ds ds [] all k lt h

  pub term_over : (folds : List Fold) (t : RawTerm) → term_fault ds folds t ≡ None → is_term_over (ranges_of ds ds) (typed_term ds t) ≡ true
  term_over folds (raw_term.Lone x) h = by_place (declared_at ds x) refl h
    where
      by_place : (v : Option ℕ) → declared_at ds x ≡ v → lone_fault ds x v ≡ None → is_text_variable (ranges_of ds ds) (variable_at ds x) ≡ true
      by_place None e h = absurd (cc)
      by_place (Some k) e h = rw e (text_variable k (declared_within ds x k e) (not_true (is_tuple ds k) (WrongKind x) h))
  term_over folds (raw_term.Dot x a) h = attribute_over ds ds [] all folds x a h
  term_over folds (raw_term.Literal t) h = refl
