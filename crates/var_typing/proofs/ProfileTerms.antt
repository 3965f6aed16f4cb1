-- Terms and folds of a view that passes typing.
use Rattle.std.proofs.Common.{◌≡◌, ◌∷◌, ◌++◌, [], ◌⊎◌, inl, inr, ℕ, Bool, true, false, List, None, refl, sym, ap, ◌∙◌, subst, arith, length, map, append_assoc, append-nil}
use Rattle.std.specs.Prelude.{flat_map, not, ◌&&◌, ◌||◌, ◌==◌}
use Rattle.std.proofs.lemmas.Bool.Decides.{nat_tests}
use Rattle.std.proofs.lemmas.List.{map-append}
use Rattle.std.proofs.lemmas.List.Concat.{flat_map-append}
use Rattle.std.proofs.lemmas.List.Folds.{list_any-append}
use Rattle.std.proofs.lemmas.Bool.{or_from}
use Rattle.ss_text.specs.Texts.{Text}
use Rattle.view_def.specs.Conditions.{none}
use Rattle.view_def.specs.Profile.{is_term_over, cell_folds, range_folds, term_folds}
use Rattle.view_def.specs.RawConditions as raw_conditions
use Rattle.view_def.specs.RawConditions.{Raw, Raws, AnyRaw, AllRaw, NotRaw, CompareRaw}
use Rattle.view_def.specs.Terms.{terms_of, terms_of_each}
use Rattle.view_def.specs.Written as written
use Rattle.view_def.specs.Profile as profile
use Rattle.view_def.specs.declared.typed.Place.{Place}
use Rattle.view_def.specs.declared.typed.Place.TheVariants as place
use Rattle.view_def.specs.declared.typed.Term.{Term}
use Rattle.view_def.specs.declared.written.Name.{Name}
use Rattle.view_def.specs.declared.written.RawDecl.{RawDecl}
use Rattle.view_def.specs.declared.written.RawRange.{RawRange}
use Rattle.view_def.specs.declared.written.RawRange.TheVariants as raw
use Rattle.view_def.specs.declared.written.RawTerm.{RawTerm}
use Rattle.view_def.specs.declared.written.RawTerm.TheVariants as raw_term
use Rattle.var_typing.specs.declared.fault.TypeFault.TheVariants.{TwoFolds}
use Rattle.var_typing.specs.declared.folds.Fold.{Fold}
use Rattle.var_typing.specs.Declarations as declarations
use Rattle.var_typing.specs.Declarations.{too_many, range_fault, alias_folds, declaration_fault, declarations_fault, typed_range}
use Rattle.var_typing.specs.Folds.{fold_at, fold_of, is_other, has_other, two_folds, attribute_fault}
use Rattle.var_typing.specs.Scope.{place_named, variable_at, name_fault, tuple_fault}
use Rattle.var_typing.specs.Terms as terms
use Rattle.var_typing.specs.Terms.{term_fault, terms_fault, terms_in, terms_in_each, typed_term, typed_condition, typed_conditions}
use Rattle.var_typing.proofs.Members.{Among, among_append, among_left, among_right, among_flat_map, among_flat_map_back, among_map, none_among}
use Rattle.var_typing.proofs.ProfileDeclarations.{in_turn_keeps}
use Rattle.var_typing.proofs.ProfileScope.{ranges_of, term_over}
use Rattle.var_typing.proofs.WalkLemmas.{none_left, none_right, not_true}

-- no fold of the list has another one there
abbrev pub NoOther : List Fold → Type 0
NoOther fs = (f : Fold) → Among f fs → has_other fs f ≡ false

other_back : (f g : Fold) → is_other f g ≡ is_other g f
other_back f g = grind (arith, nat_tests)

not_other_itself : (f : Fold) → is_other f f ≡ false
not_other_itself f = grind (arith, nat_tests)

-- one more that has no other
no_other_last : (fs : List Fold) (f : Fold) → NoOther fs → has_other fs f ≡ false → NoOther (fs ++ f ∷ [])
no_other_last fs f h k g i = list_any-append (is_other g) fs (f ∷ []) ∙ cases (among_append g fs (f ∷ []) i)
  where
    cases : Among g fs ⊎ Among g (f ∷ []) → (has_other fs g || (is_other g f || false)) ≡ false
    cases (inl i) = or_from _ _ (h g i) (or_from _ _ (other_back g f ∙ none_among (is_other f) g fs k i) refl)
    cases (inr (inl e)) = or_from _ _ (ap (has_other fs) e ∙ k) (or_from _ _ (ap (λ (x : Fold). is_other x f) e ∙ not_other_itself f) refl)
    cases (inr (inr j)) = absurd j

-- the fold of an attribute place that passes
no_other_at : (fs : List Fold) (x : Text) (k : ℕ) (p : Place) → NoOther fs → two_folds fs x (fold_at k p) ≡ None → NoOther (fs ++ fold_at k p)
no_other_at fs x k (place.Fixed a) h t = subst (λ (l : List Fold). NoOther l) (sym (append-nil fs)) h
no_other_at fs x k (place.Var v) h t = no_other_last fs (record { tuple = k; variable = v }) h (not_true _ (TwoFolds x) t)

module _ (ds : List RawDecl) where
  attribute_folds : (visible : ℕ) (fs : List Fold) (x : Text) (a : Name) → NoOther fs → attribute_fault ds visible fs x a ≡ None → NoOther (fs ++ fold_of ds x a)
  attribute_folds visible fs x a h t =
      no_other_at fs x (variable_at ds x) (place_named ds a) h (none_right (name_fault ds visible a) _ (none_right (tuple_fault ds visible x) _ t))

  same_folds : (fs : List Fold) → NoOther fs → NoOther (fs ++ [])
  same_folds fs h = subst (λ (l : List Fold). NoOther l) (sym (append-nil fs)) h

  range_step : (visible : ℕ) (fs : List Fold) (r : RawRange) → NoOther fs → range_fault ds visible fs r ≡ None → NoOther (fs ++ declarations.range_folds ds r)
  range_step visible fs raw.Databases h t = same_folds fs h
  range_step visible fs (raw.Relations db) h t = same_folds fs h
  range_step visible fs (raw.Attributes db rel) h t = same_folds fs h
  range_step visible fs (raw.Tuples db rel) h t = same_folds fs h
  range_step visible fs (raw.Values db rel a) h t = same_folds fs h
  range_step visible fs (raw.Alias x a) h t = attribute_folds visible fs x a h t

  declaration_step : (before : List RawDecl) (d : RawDecl) → declaration_fault ds before d ≡ None → NoOther (alias_folds ds before) → NoOther (alias_folds ds (before ++ d ∷ []))
  declaration_step before d t h =
      subst (λ (l : List Fold). NoOther l)
      (sym (flat_map-append (λ (e : RawDecl). declarations.range_folds ds e.range) before (d ∷ []) ∙ ap (λ (l : List Fold). alias_folds ds before ++ l) (append-nil (declarations.range_folds ds d.range))))
      (range_step (length before) (alias_folds ds before) d.range h (none_left (range_fault ds (length before) (alias_folds ds before) d.range) _ (none_right (too_many before d) _ t)))

  alias_walk : declarations_fault ds ≡ None → NoOther (alias_folds ds ds)
  alias_walk t = in_turn_keeps (declaration_fault ds) (λ (l : List RawDecl). NoOther (alias_folds ds l)) declaration_step [] ds t (λ f i. absurd i)

  term_step : (fs : List Fold) (t : RawTerm) → NoOther fs → term_fault ds fs t ≡ None → NoOther (fs ++ terms.term_folds ds t)
  term_step fs (raw_term.Lone x) h t = same_folds fs h
  term_step fs (raw_term.Dot x a) h t = attribute_folds (length ds) fs x a h t
  term_step fs (raw_term.Literal l) h t = same_folds fs h

  terms_walk : (fs : List Fold) (ts : List RawTerm) → NoOther fs → terms_fault ds fs ts ≡ None → NoOther (fs ++ flat_map (terms.term_folds ds) ts)
  terms_walk fs [] h e = same_folds fs h
  terms_walk fs (t ∷ ts) h e =
      subst (λ (l : List Fold). NoOther l) (append_assoc fs (terms.term_folds ds t) (flat_map (terms.term_folds ds) ts))
      (terms_walk (fs ++ terms.term_folds ds t) ts (term_step fs t h (none_left (term_fault ds fs t) _ e)) (none_right (term_fault ds fs t) _ e))

  -- each term is over the declarations
  pub terms_over : (fs : List Fold) (ts : List RawTerm) → terms_fault ds fs ts ≡ None → (t : Term) → Among t (map (typed_term ds) ts) → is_term_over (ranges_of ds ds) t ≡ true
  terms_over fs [] e t i = absurd i
  terms_over fs (r ∷ ts) e t (inl i) = ap (is_term_over (ranges_of ds ds)) i ∙ term_over ds fs r (none_left (term_fault ds fs r) _ e)
  terms_over fs (r ∷ ts) e t (inr i) = terms_over (fs ++ terms.term_folds ds r) ts (none_right (term_fault ds fs r) _ e) t i

-- the terms of a typed condition
mutual
  pub typed_terms : (ds : List RawDecl) (c : Raw) → terms_of (typed_condition ds c) ≡ map (typed_term ds) (terms_in c)
  typed_terms ds (AnyRaw cs) = typed_terms_each ds cs
  typed_terms ds (AllRaw cs) = typed_terms_each ds cs
  typed_terms ds (NotRaw c) = typed_terms ds c
  typed_terms ds (CompareRaw s op t) = refl

  pub typed_terms_each : (ds : List RawDecl) (cs : Raws) → terms_of_each (typed_conditions ds cs) ≡ map (typed_term ds) (terms_in_each cs)
  typed_terms_each ds raw_conditions.none = refl
  typed_terms_each ds (raw_conditions.more c cs) =
      ap (λ (l : List Term). l ++ terms_of_each (typed_conditions ds cs)) (typed_terms ds c) ∙ ap (λ (l : List Term). map (typed_term ds) (terms_in c) ++ l) (typed_terms_each ds cs)
      ∙ sym (map-append (typed_term ds) (terms_in c) (terms_in_each cs))

two : (ds : List RawDecl) (cs : Raws) → profile.has_two (typed_conditions ds cs) ≡ written.has_two cs
two ds raw_conditions.none = refl
two ds (raw_conditions.more c raw_conditions.none) = refl
two ds (raw_conditions.more c (raw_conditions.more d cs)) = refl

both_same : (a b c d : Bool) → a ≡ b → c ≡ d → (a && c) ≡ (b && d)
both_same a b c d e f = ap (λ x. x && c) e ∙ ap (λ x. b && x) f

-- typing keeps which members are joined
mutual
  pub joined : (ds : List RawDecl) (c : Raw) → profile.is_well_joined (typed_condition ds c) ≡ written.is_well_joined c
  joined ds (AnyRaw cs) = both_same _ _ _ _ (two ds cs) (joined_each ds cs)
  joined ds (AllRaw cs) = both_same _ _ _ _ (two ds cs) (joined_each ds cs)
  joined ds (NotRaw c) = joined ds c
  joined ds (CompareRaw s op t) = refl

  joined_each : (ds : List RawDecl) (cs : Raws) → profile.are_well_joined (typed_conditions ds cs) ≡ written.are_well_joined cs
  joined_each ds raw_conditions.none = refl
  joined_each ds (raw_conditions.more c cs) = both_same _ _ _ _ (joined ds c) (joined_each ds cs)

-- a fold as a pair of places
abbrev pair : Fold → ℕ × ℕ
pair f = (f.tuple, f.variable)

cell_pairs : (k : ℕ) (p : Place) → cell_folds k p ≡ map pair (fold_at k p)
cell_pairs k (place.Fixed a) = refl
cell_pairs k (place.Var v) = refl

module _ (ds : List RawDecl) where
  range_pairs : (r : RawRange) → range_folds (typed_range ds r) ≡ map pair (declarations.range_folds ds r)
  range_pairs raw.Databases = refl
  range_pairs (raw.Relations db) = refl
  range_pairs (raw.Attributes db rel) = refl
  range_pairs (raw.Tuples db rel) = refl
  range_pairs (raw.Values db rel a) = refl
  range_pairs (raw.Alias x a) = cell_pairs (variable_at ds x) (place_named ds a)

  term_pairs : (t : RawTerm) → term_folds (typed_term ds t) ≡ map pair (terms.term_folds ds t)
  term_pairs (raw_term.Lone x) = refl
  term_pairs (raw_term.Dot x a) = cell_pairs (variable_at ds x) (place_named ds a)
  term_pairs (raw_term.Literal l) = refl

  -- each fold of the typed view is one of the walk
  among_walked : (ts : List RawTerm) (us : List Term) → ((t : Term) → Among t us → Among t (map (typed_term ds) ts)) → (p : ℕ × ℕ) → Among p (flat_map range_folds (ranges_of ds ds) ++ flat_map term_folds us)
      → (f : Fold) × Among f (alias_folds ds ds ++ flat_map (terms.term_folds ds) ts) × (p ≡ pair f)
  among_walked ts us sub p h = cases (among_append p (flat_map range_folds (ranges_of ds ds)) (flat_map term_folds us) h)
    where
      cases : Among p (flat_map range_folds (ranges_of ds ds)) ⊎ Among p (flat_map term_folds us) → (f : Fold) × Among f (alias_folds ds ds ++ flat_map (terms.term_folds ds) ts) × (p ≡ pair f)
      cases (inl i) =
          let (r, ri, rj) = among_flat_map range_folds p (ranges_of ds ds) i in
          let (d, di, de) = among_map (λ (e : RawDecl). typed_range ds e.range) r ds ri in
          let (f, fi, fe) = among_map pair p (declarations.range_folds ds d.range) (subst (λ (l : List (ℕ × ℕ)). Among p l) (ap range_folds de ∙ range_pairs d.range) rj) in
          (f, among_left f (alias_folds ds ds) _ (among_flat_map_back (λ (e : RawDecl). declarations.range_folds ds e.range) f d ds di fi), fe)
      cases (inr j) =
          let (u, ui, uj) = among_flat_map term_folds p us j in
          let (t, ti, te) = among_map (typed_term ds) u ts (sub u ui) in
          let (f, fi, fe) = among_map pair p (terms.term_folds ds t) (subst (λ (l : List (ℕ × ℕ)). Among p l) (ap term_folds te ∙ term_pairs t) uj) in
          (f, among_right f (alias_folds ds ds) _ (among_flat_map_back (terms.term_folds ds) f t ts ti fi), fe)

  same_variable : (f g : Fold) (k u v : ℕ) → is_other f g ≡ false → (k, u) ≡ pair f → (k, v) ≡ pair g → u ≡ v
  same_variable f g k u v h e i = same_numbers f.tuple g.tuple f.variable g.variable k u v (ap (λ (p : ℕ × ℕ). p.0) e) (ap (λ (p : ℕ × ℕ). p.0) i) (ap (λ (p : ℕ × ℕ). p.1) e) (ap (λ (p : ℕ × ℕ). p.1) i) h
    where
      same_numbers : (a b c d k u v : ℕ) → k ≡ a → k ≡ b → u ≡ c → v ≡ d → ((b == a) && not (d == c)) ≡ false → u ≡ v
      same_numbers a b c d k u v e f g h i = grind (arith, nat_tests)

  -- one variable for a tuple variable
  pub one_variable : declarations_fault ds ≡ None → (ts : List RawTerm) → terms_fault ds (alias_folds ds ds) ts ≡ None → (us : List Term) → ((t : Term) → Among t us → Among t (map (typed_term ds) ts))
      → (k u v : ℕ) → Among (k, u) (flat_map range_folds (ranges_of ds ds) ++ flat_map term_folds us) → Among (k, v) (flat_map range_folds (ranges_of ds ds) ++ flat_map term_folds us) → u ≡ v
  one_variable declared ts passed us sub k u v i j =
      let (f, fi, fe) = among_walked ts us sub (k, u) i in
      let (g, gi, ge) = among_walked ts us sub (k, v) j in
      let none = terms_walk ds (alias_folds ds ds) ts (alias_walk ds declared) passed f fi in
      same_variable f g k u v (none_among (is_other f) g _ none gi) fe ge
