-- Columns that pass typing: distinct constants, and at most one variable.
use Rattle.std.proofs.Common.{◌≡◌, ◌<◌, ◌≤◌, ◌+◌, ◌∷◌, ◌++◌, [], ℕ, zero, suc, Bool, true, false, List, Option, Some, None, refl, sym, ap, ◌∙◌, subst, arith, length, is_some, cond, append-nil, length-append}
use Rattle.std.specs.Prelude.{bytes_eq, position, option_and_then, slice_get, ◌&&◌, ◌||◌}
use Rattle.std.specs.List.{list_all, list_any, find, IsDistinct}
use Rattle.std.specs.Option.{ForSome}
use Rattle.std.specs.Cmp.Lexicographic.{nat_list_eq_equiv}
use Rattle.std.proofs.lemmas.List.{length-map}
use Rattle.std.proofs.lemmas.List.Edits.{length-remove}
use Rattle.std.proofs.lemmas.List.Elements.{filter_map-append}
use Rattle.std.proofs.lemmas.List.Folds.{list_any-append}
use Rattle.std.proofs.lemmas.List.Quantifiers.{position-Some}
use Rattle.std.proofs.lemmas.Map.Keys.{IsDistinct-cons, IsDistinct-head, IsDistinct-tail}
use Rattle.std.proofs.lemmas.Bool.{not-false}
use Rattle.std.proofs.Math.Bool.{or-false}
use Rattle.ss_text.specs.Texts.{Text, Row, text_eq, is_in}
use Rattle.ss_text.specs.Label.{is_table_label}
use Rattle.ss_text.proofs.PlaceLemmas.{map_last, each_last}
use Rattle.view_def.specs.Profile.{is_label_over, is_column_over, has_text}
use Rattle.view_def.specs.declared.typed.Place.{Place}
use Rattle.view_def.specs.declared.typed.Place.TheVariants as place
use Rattle.view_def.specs.declared.written.Name.{Name}
use Rattle.view_def.specs.declared.written.RawDecl.{RawDecl}
use Rattle.var_typing.specs.declared.fault.TypeFault.TheVariants.{WrongKind, BadLabel, ColumnTwice, TwoVariableColumns, NoConstantColumn}
use Rattle.var_typing.specs.Header.{database_fault, label_fault, is_variable, constant_text, column_places, constants_of, column_after, column_fault, columns_fault, is_empty}
use Rattle.var_typing.specs.Refusals.{where_true, in_turn}
use Rattle.var_typing.specs.Scope.{is_tuple, variable_named, variable_or, place_named}
use Rattle.var_typing.specs.Typed.{without}
use Rattle.var_typing.proofs.PositionLemmas.{is_some-position, is_some-find}
use Rattle.var_typing.proofs.ProfileDeclarations.{in_turn_keeps}
use Rattle.var_typing.proofs.ProfileScope.{ranges_of, text_variable, variable_within}
use Rattle.var_typing.proofs.WalkLemmas.{none_left, none_right, not_true}

pub legal_database : (x : Text) (v : Option ℕ) → database_fault x v ≡ None → is_table_label x ≡ true
legal_database x None h = not-false (is_table_label x) (not_true _ (BadLabel x) h)
legal_database x (Some k) h = absurd (cc)

module _ (ds : List RawDecl) where
  label_of : (x : Text) (v : Option ℕ) → ((k : ℕ) → v ≡ Some k → k < length ds) → label_fault ds x v ≡ None → is_label_over (ranges_of ds ds) (variable_or x v) ≡ true
  label_of x None within h = not-false (is_table_label x) (not_true _ (BadLabel x) h)
  label_of x (Some k) within h = text_variable ds k (within k refl) (not_true (is_tuple ds k) (WrongKind x) h)

  pub label_over : (n : Name) → label_fault ds n.text (variable_named ds n) ≡ None → is_label_over (ranges_of ds ds) (place_named ds n) ≡ true
  label_over n h = label_of n.text (variable_named ds n) (variable_within ds n) h

-- one more text that is not there yet
distinct_last : (xs : Row) (t : Text) → IsDistinct bytes_eq xs → is_in t xs ≡ false → IsDistinct bytes_eq (xs ++ t ∷ [])
distinct_last [] t d h = IsDistinct-cons bytes_eq t [] tt d
distinct_last (x ∷ xs) t d h =
    IsDistinct-cons bytes_eq x (xs ++ t ∷ []) (each_last (λ y. bytes_eq x y ≡ false) xs t (IsDistinct-head bytes_eq x xs d) (nat_list_eq_equiv.symm x t ∙ or_left (text_eq t x) _ h)) (distinct_last xs t (IsDistinct-tail bytes_eq x xs d) (or_right (text_eq t x) _ h))
  where
    or_left : (a b : Bool) → (a || b) ≡ false → a ≡ false
    or_left true b h = absurd (cc)
    or_left false b h = refl

    or_right : (a b : Bool) → (a || b) ≡ false → b ≡ false
    or_right true b h = absurd (cc)
    or_right false b h = h

none_distinct : IsDistinct bytes_eq []
unfolding IsDistinct
none_distinct = tt

abbrev one_if : Bool → ℕ
one_if b = cond b 1 0

-- columns so far
record AreColumns (ds : List RawDecl) (places : List Place) : Type 0 where
  distinct : IsDistinct bytes_eq (constants_of places)
  count : length (constants_of places) + one_if (list_any is_variable places) ≡ length places
  texts : list_all (has_text (ranges_of ds ds)) places ≡ true

list_all_last : {A : Type 0} (p : A → Bool) (xs : List A) (x : A) → list_all p xs ≡ true → p x ≡ true → list_all p (xs ++ x ∷ []) ≡ true
list_all_last p [] x h e = ap (λ b. b && true) e
list_all_last p (y ∷ xs) x h e = by_head (p y) h (λ r. list_all_last p xs x r e)
  where
    by_head : (b : Bool) → (b && list_all p xs) ≡ true → (list_all p xs ≡ true → list_all p (xs ++ x ∷ []) ≡ true) → (b && list_all p (xs ++ x ∷ [])) ≡ true
    by_head true r later = later r
    by_head false r later = absurd (cc)

there : {A : Type 0} (xs : List A) (k : ℕ) → k < length xs → is_some (slice_get xs k) ≡ true
there [] k lt = absurd (omega arith)
there (x ∷ xs) zero lt = refl
there (x ∷ xs) (suc k) lt = there xs k (omega arith)

-- the one that is found passes its test, and each test that all pass
found : {A : Type 0} (p q : A → Bool) (xs : List A) (x : A) → find p xs ≡ Some x → list_all q xs ≡ true → (p x ≡ true) × (q x ≡ true)
found p q [] x h a = absurd (cc)
found {A} p q (y ∷ xs) x h a = by_head (p y) (q y) refl refl h a (λ g r. found p q xs x g r)
  where
    by_head : (b c : Bool) → p y ≡ b → q y ≡ c → cond b (Some y) (find p xs) ≡ Some x → (c && list_all q xs) ≡ true → (find p xs ≡ Some x → list_all q xs ≡ true → (p x ≡ true) × (q x ≡ true)) → (p x ≡ true) × (q x ≡ true)
    by_head b false e f h a later = absurd (cc)
    by_head true true e f h a later = let i : y ≡ x = cc in (ap p (sym i) ∙ e, ap q (sym i) ∙ f)
    by_head false true e f h a later = later h a

module _ (ds : List RawDecl) where
  one_more : (places : List Place) (x : Text) (v : Option ℕ) → ((k : ℕ) → v ≡ Some k → k < length ds)
      → column_after ds (constants_of places) (list_any is_variable places) x v ≡ None → AreColumns ds places → AreColumns ds (places ++ variable_or x v ∷ [])
  one_more places x None within h c =
      let constants = filter_map-append constant_text places (place.Fixed x ∷ []) in
      let varies = list_any-append is_variable places (place.Fixed x ∷ []) ∙ or-false (list_any is_variable places) in
      record {
        distinct = subst (λ (l : Row). IsDistinct bytes_eq l) (sym constants) (distinct_last (constants_of places) x c.distinct (not_true _ (ColumnTwice x) h));
        count =
            let n = ap length constants ∙ length-append (constants_of places) (x ∷ []) in
            let m = length-append places (place.Fixed x ∷ []) in
            let b = ap one_if varies in
            let old = c.count in
            omega arith;
        texts = list_all_last (has_text (ranges_of ds ds)) places (place.Fixed x) c.texts refl;
      }
  one_more places x (Some k) within h c =
      let kind = not_true (is_tuple ds k) (WrongKind x) (none_left (where_true (is_tuple ds k) (WrongKind x)) _ h) in
      let none_before = not_true (list_any is_variable places) (TwoVariableColumns x) (none_right (where_true (is_tuple ds k) (WrongKind x)) _ h) in
      let constants = filter_map-append constant_text places (place.Var k ∷ []) ∙ append-nil (constants_of places) in
      let varies = list_any-append is_variable places (place.Var k ∷ []) ∙ ap (λ b. b || true) none_before in
      record {
        distinct = subst (λ (l : Row). IsDistinct bytes_eq l) (sym constants) c.distinct;
        count =
            let n = ap length constants in
            let m = length-append places (place.Var k ∷ []) in
            let b = ap one_if varies in
            let a = ap one_if none_before in
            let old = c.count in
            omega arith;
        texts = list_all_last (has_text (ranges_of ds ds)) places (place.Var k) c.texts (text_variable ds k (within k refl) kind);
      }

  step : (before : List Name) (n : Name) → column_fault ds before n ≡ None → AreColumns ds (column_places ds before) → AreColumns ds (column_places ds (before ++ n ∷ []))
  step before n h c =
      subst (λ (l : List Place). AreColumns ds l) (sym (map_last (place_named ds) before n))
      (one_more (column_places ds before) n.text (variable_named ds n) (variable_within ds n) h c)

  module _ (columns : List Name) (passed : columns_fault ds columns ≡ None) where
    sound : AreColumns ds (column_places ds columns)
    sound =
        in_turn_keeps (column_fault ds) (λ (l : List Name). AreColumns ds (column_places ds l)) step [] columns (none_left (in_turn (column_fault ds) [] columns) _ passed)
        (record { distinct = none_distinct; count = refl; texts = refl })

    pub distinct_constants : IsDistinct bytes_eq (constants_of (column_places ds columns))
    distinct_constants = sound.distinct

    pub some_constant : 1 ≤ length (constants_of (column_places ds columns))
    some_constant = not_empty (constants_of (column_places ds columns)) (not_true _ NoConstantColumn (none_right (in_turn (column_fault ds) [] columns) _ passed))
      where
        not_empty : (l : Row) → is_empty l ≡ false → 1 ≤ length l
        not_empty [] h = absurd (cc)
        not_empty (x ∷ l) h = omega arith

    -- the terms without the one at the variable column, and that one
    module _ {A : Type 0} (terms : List A) (as_many : length columns ≡ length terms) where
      many : length (column_places ds columns) ≡ length terms
      many = length-map columns (place_named ds) ∙ as_many

      spot_lt : (k : ℕ) → position is_variable (column_places ds columns) ≡ Some k → k < length terms
      spot_lt k e = let lt = (position-Some is_variable (column_places ds columns) k (place.Fixed []) e).0 in let m = many in omega arith

      varies : (b : Bool) → is_some (position is_variable (column_places ds columns)) ≡ b → one_if (list_any is_variable (column_places ds columns)) ≡ one_if b
      varies b e = ap one_if (sym (is_some-position is_variable (column_places ds columns)) ∙ e)

      pub keys_many : length (without (position is_variable (column_places ds columns)) terms) ≡ length (constants_of (column_places ds columns))
      keys_many = by_spot (position is_variable (column_places ds columns)) refl
        where
          by_spot : (s : Option ℕ) → position is_variable (column_places ds columns) ≡ s → length (without s terms) ≡ length (constants_of (column_places ds columns))
          by_spot None e = let c = sound.count in let v = varies false (ap is_some e) in let m = many in omega arith
          by_spot (Some k) e =
              let c = sound.count in let v = varies true (ap is_some e) in let m = many in let r = length-remove terms k (spot_lt k e) in omega arith

      pub spot_few : ForSome (position is_variable (column_places ds columns)) (λ s. s ≤ length (constants_of (column_places ds columns)))
      spot_few k e = let c = sound.count in let v = varies true (ap is_some e) in let m = many in let lt = spot_lt k e in omega arith

      pub with_value : is_some (option_and_then (slice_get terms) (position is_variable (column_places ds columns))) ≡ is_some (position is_variable (column_places ds columns))
      with_value = by_spot (position is_variable (column_places ds columns)) refl
        where
          by_spot : (s : Option ℕ) → position is_variable (column_places ds columns) ≡ s → is_some (option_and_then (slice_get terms) s) ≡ is_some s
          by_spot None e = refl
          by_spot (Some k) e = there terms k (spot_lt k e)

    pub with_column : is_some (find is_variable (column_places ds columns)) ≡ is_some (position is_variable (column_places ds columns))
    with_column = is_some-find is_variable (column_places ds columns) ∙ sym (is_some-position is_variable (column_places ds columns))

    pub column_over : ForSome (find is_variable (column_places ds columns)) (λ p. is_column_over (ranges_of ds ds) p ≡ true)
    column_over p e =
        let (varies, over) = found is_variable (has_text (ranges_of ds ds)) (column_places ds columns) p e sound.texts in
        variable_over p varies over
      where
        variable_over : (p : Place) → is_variable p ≡ true → has_text (ranges_of ds ds) p ≡ true → is_column_over (ranges_of ds ds) p ≡ true
        variable_over (place.Fixed t) v h = absurd (cc)
        variable_over (place.Var k) v h = h
