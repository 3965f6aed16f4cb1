-- The conflict of facts is that of their cells, spot by spot.
use Rattle.std.proofs.Common.{◌≡◌, ℕ, suc, arith, Bool, true, false, cond, List, [], ◌∷◌, map, length, Option, Some, None, refl, sym, ap, ◌∙◌}
use Rattle.std.specs.Prelude.{not, ◌==◌, ◌&&◌, filter, slice_get, option_map, option_and_then, if◌then◌else◌}
use Rattle.std.specs.Option.{option_or}
use Rattle.std.specs.declared.cmp.Ordering.{Ordering}
use Rattle.std.specs.declared.cmp.Ordering.TheVariants.{Less, Equal, Greater}
use Rattle.std.specs.List.{filter_map, cons_option}
use Rattle.std.proofs.lemmas.Bool.Decides.{nat_tests}
use Rattle.std.specs.Cmp.{IsTotalOrder, on_total, then_total}
use Rattle.std.specs.Cmp.Lexicographic.{nat_list_cmp_total, lists_total}
use Rattle.std.specs.FinMap.{IsAntisymmetric}
use Rattle.std.specs.Ordering.{on, then_cmp, ordering_then, is_eq}
use Rattle.ss_text.specs.Texts.{Text, text_cmp, text_eq, row_cmp, row_eq}
use Rattle.ss_text.specs.Ascending.{ascending}
use Rattle.ss_text.proofs.KeyLemmas.{IsKeyOrder, text_order, row_order}
use Rattle.ss_text.proofs.GroupLemmas.{grouped}
use Rattle.flow_law.specs.declared.refused.Clash.{Clash}
use Rattle.flow_law.specs.Facts.{Fact, Spot, spot_cmp, spots_of, values_at, facts_of, clash_of, conflict, value_in, column_of}

pub some_length : (n : ℕ) → not (suc n == 0) ≡ true
some_length n = grind (arith, nat_tests)

-- spots and their order
abbrev pub spot_eq : Spot → Spot → Bool
spot_eq s t = text_eq s.0 t.0 && (row_eq s.1 t.1 && text_eq s.2 t.2)

spot_total : IsTotalOrder spot_cmp
spot_total =
    then_total (on_total (λ (s : Spot). s.0) nat_list_cmp_total)
    (then_total (on_total (λ (s : Spot). s.1) (lists_total nat_list_cmp_total)) (on_total (λ (s : Spot). s.2) nat_list_cmp_total))

pub first_equal : (r s : Ordering) → ordering_then r s ≡ Equal → r ≡ Equal
first_equal Less s e = absurd (cc)
first_equal Equal s e = refl
first_equal Greater s e = absurd (cc)

pub second_equal : (r s : Ordering) → ordering_then r s ≡ Equal → s ≡ Equal
second_equal Less s e = absurd (cc)
second_equal Equal s e = e
second_equal Greater s e = absurd (cc)

spot_same : IsAntisymmetric spot_cmp
spot_same s t e =
    let rest = second_equal (text_cmp s.0 t.0) _ e in
    let tables = text_order.same s.0 t.0 (first_equal (text_cmp s.0 t.0) _ e) in
    let keys = row_order.same s.1 t.1 (first_equal (row_cmp s.1 t.1) _ rest) in
    let columns = text_order.same s.2 t.2 (second_equal (row_cmp s.1 t.1) _ rest) in
    λ i. (tables i, keys i, columns i)

both_ties : (r s : Ordering) → is_eq r && is_eq s ≡ is_eq (ordering_then r s)
both_ties Less s = refl
both_ties Equal s = refl
both_ties Greater s = refl

pub spot_order : IsKeyOrder spot_cmp spot_eq
spot_order = record {
  total = spot_total;
  same = spot_same;
  ties = λ s t. rw (text_order.ties s.0 t.0, row_order.ties s.1 t.1, text_order.ties s.2 t.2, both_ties (row_cmp s.1 t.1) (text_cmp s.2 t.2)) (both_ties (text_cmp s.0 t.0) (ordering_then (row_cmp s.1 t.1) (text_cmp s.2 t.2)));
}

-- a spot with one value that a fact has for it
abbrev pub Entry : Type 0
Entry = Spot × Text

abbrev pub spot_of : Entry → Spot
spot_of e = e.0

abbrev pub entry_cmp : Entry → Entry → Ordering
entry_cmp = then_cmp (on spot_of spot_cmp) (on (λ (e : Entry). e.1) text_cmp)

abbrev pub entry : Fact → Text × Text → Entry
entry f c = ((f.label, f.key, c.0), c.1)

abbrev pub entries : List Fact → List Entry
entries fs = filter_map (λ (f : Fact). option_map (entry f) f.cell) fs

-- a cell of a fact, if there is one, before other entries
abbrev pub put : Fact → Option (Text × Text) → List Entry → List Entry
put f cell es = cons_option (option_map (entry f) cell) es

abbrev pub kept : List Text → List Text
kept vs = filter (λ (v : Text). not (length v == 0)) vs

abbrev pub values_of : List Entry → List Text
values_of es = map (λ (e : Entry). e.1) es

-- the clash of the entries of one spot
abbrev pub clash_in : Spot → List Entry → Option Clash
clash_in s own = clash_of s (ascending text_cmp (kept (values_of own)))

abbrev pub first_some : List (Option Clash) → Option Clash
first_some [] = None
first_some (o ∷ os) = option_or o (first_some os)

first_mapped : {A : Type 0} (f : A → Option Clash) (xs : List A) → slice_get (filter_map f xs) 0 ≡ first_some (map f xs)
first_mapped f [] = refl
first_mapped f (x ∷ xs) = by_case (f x) (first_mapped f xs)
  where
    by_case : (o : Option Clash) → slice_get (filter_map f xs) 0 ≡ first_some (map f xs) → slice_get (cons_option o (filter_map f xs)) 0 ≡ option_or o (first_some (map f xs))
    by_case None h = h
    by_case (Some c) h = refl

abbrev spot : Fact → Text → Spot
spot f column = (f.label, f.key, column)

abbrev spots_named : List Fact → List Spot
spots_named fs = filter_map (λ (f : Fact). option_map (spot f) (column_of f)) fs

spots_are : (fs : List Fact) → spots_named fs ≡ map spot_of (entries fs)
spots_are [] = refl
spots_are (f ∷ fs) = by_cell f.cell (spots_are fs)
  where
    by_cell : (cell : Option (Text × Text)) → spots_named fs ≡ map spot_of (entries fs)
        → cons_option (option_map (spot f) (option_map (λ (c : Text × Text). c.0) cell)) (spots_named fs) ≡ map spot_of (put f cell (entries fs))
    by_cell None h = h
    by_cell (Some c) h = ap (λ (ss : List Spot). (f.label, f.key, c.0) ∷ ss) h

two_filters : {A B : Type 0} (h : A → Option B) (p q : A → Bool) (x : A) (xs : List A)
    → filter_map h (filter q (filter p (x ∷ xs))) ≡ cond (p x && q x) (cons_option (h x) (filter_map h (filter q (filter p xs)))) (filter_map h (filter q (filter p xs)))
two_filters h p q x xs = by_first (p x)
  where
    by_second : (b : Bool) → filter_map h (cond b (x ∷ filter q (filter p xs)) (filter q (filter p xs))) ≡ cond b (cons_option (h x) (filter_map h (filter q (filter p xs)))) (filter_map h (filter q (filter p xs)))
    by_second true = refl
    by_second false = refl

    by_first : (b : Bool) → filter_map h (filter q (cond b (x ∷ filter p xs) (filter p xs))) ≡ cond (b && q x) (cons_option (h x) (filter_map h (filter q (filter p xs)))) (filter_map h (filter q (filter p xs)))
    by_first true = by_second (q x)
    by_first false = refl

-- the values of a spot
module _ (s : Spot) where
  abbrev own : List Entry → List Entry
  own es = filter (λ (e : Entry). spot_eq s e.0) es

  own_one : (f : Fact) (cell : Option (Text × Text)) (es : List Entry)
      → values_of (own (put f cell es))
      ≡ cond (text_eq s.0 f.label && row_eq s.1 f.key) (cons_option (option_and_then (λ (c : Text × Text). if text_eq s.2 c.0 then Some c.1 else None) cell) (values_of (own es))) (values_of (own es))
  own_one f None es = either (text_eq s.0 f.label && row_eq s.1 f.key)
    where
      either : (b : Bool) → values_of (own es) ≡ cond b (values_of (own es)) (values_of (own es))
      either true = refl
      either false = refl
  own_one f (Some c) es = by_parts (text_eq s.0 f.label) (row_eq s.1 f.key) (text_eq s.2 c.0)
    where
      by_parts : (t k u : Bool) → values_of (cond (t && (k && u)) (((f.label, f.key, c.0), c.1) ∷ own es) (own es))
          ≡ cond (t && k) (cons_option (if u then Some c.1 else None) (values_of (own es))) (values_of (own es))
      by_parts true true true = refl
      by_parts true true false = refl
      by_parts true false u = refl
      by_parts false k u = refl

  values_are : (fs : List Fact) → filter_map (value_in s.2) (filter (λ (f : Fact). row_eq s.1 f.key) (facts_of s.0 fs)) ≡ values_of (own (entries fs))
  values_are [] = refl
  values_are (f ∷ fs) =
      two_filters (value_in s.2) (λ (g : Fact). text_eq s.0 g.label) (λ (g : Fact). row_eq s.1 g.key) f fs
      ∙ rw (values_are fs) (sym (own_one f f.cell (entries fs)))

by_spot : (fs : List Fact) (spots : List Spot) → map (λ (s : Spot). clash_of s (ascending text_cmp (values_at (facts_of s.0 fs) s.1 s.2))) spots ≡ map (λ (s : Spot). clash_in s (own s (entries fs))) spots
by_spot fs [] = refl
by_spot fs (s ∷ ss) = rw (values_are s fs, by_spot fs ss) refl

pub conflict_is : (fs : List Fact) → conflict fs ≡ first_some (grouped spot_order spot_of clash_in (entries fs))
unfolding conflict
conflict_is fs =
    first_mapped (λ (s : Spot). clash_of s (ascending text_cmp (values_at (facts_of s.0 fs) s.1 s.2))) (spots_of fs)
    ∙ ap first_some (by_spot fs (spots_of fs) ∙ ap (λ (ss : List Spot). map (λ (s : Spot). clash_in s (own s (entries fs))) (ascending spot_cmp ss)) (spots_are fs))
