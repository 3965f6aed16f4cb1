-- The first illegal column that begins is the least illegal label of all facts.
use Rattle.std.proofs.Common.{◌≡◌, ◌∷◌, [], Bool, true, false, List, Option, Some, None, refl, sym, ◌∙◌, ap, map}
use Rattle.std.specs.Prelude.{not, ◌&&◌, ◌||◌, filter, option_map, slice_get}
use Rattle.std.specs.List.{list_any, find, AllByRecursion}
use Rattle.std.specs.List.Sorted.{IsStrictlySortedBy}
use Rattle.std.specs.Cmp.{on_total, then_total}
use Rattle.std.specs.Cmp.Lexicographic.{nat_list_cmp_total}
use Rattle.std.specs.declared.cmp.Ordering.{Ordering}
use Rattle.std.specs.declared.cmp.Ordering.TheVariants.{Less, Equal, Greater}
use Rattle.std.specs.Ordering.{ordering_then, is_eq}
use Rattle.std.proofs.lemmas.Bool.{false≢true}
use Rattle.std.proofs.lemmas.Cmp.{tied_itself}
use Rattle.std.proofs.lemmas.List.Kept.{IsStrictlySortedBy-filter}
use Rattle.ss_text.specs.Texts.{Text, Row, text_eq, text_cmp, is_in}
use Rattle.ss_text.specs.Label.{is_column_label}
use Rattle.ss_text.specs.Ascending.{ascending}
use Rattle.ss_text.proofs.KeyLemmas.{IsKeyOrder, text_order}
use Rattle.ss_text.proofs.PairLemmas.{any_ascending, any_filtered, ascending_ascends, same_keys}
use Rattle.ss_text.proofs.SetLemmas.{least_first}
use Rattle.flow_law.specs.declared.refused.IllegalLabel.{IllegalLabel}
use Rattle.flow_law.specs.Facts.{Fact, Pair, pair_cmp, pairs_of, illegal_column}
use Rattle.counts.specs.Pairs.{pair_same}
use Rattle.unfold_op.specs.Touched.{has_column, columns_named, SameBeyond}
use Rattle.unfold_op.specs.Kept.{first_illegal}
use Rattle.unfold_op.proofs.FactCells.{column_named}
use Rattle.unfold_op.proofs.TouchedLines.{columns_ascend}
use Rattle.flow_law.specs.Labelled.{AllBear}

abbrev pub pair_eq : Pair → Pair → Bool
pair_eq a b = text_eq a.0 b.0 && text_eq a.1 b.1

both_ties : (r s : Ordering) → is_eq r && is_eq s ≡ is_eq (ordering_then r s)
both_ties Less s = refl
both_ties Equal s = refl
both_ties Greater s = refl

pub pair_order : IsKeyOrder pair_cmp pair_eq
pair_order = record {
  total = then_total (on_total (λ (p : Pair). p.0) nat_list_cmp_total) (on_total (λ (p : Pair). p.1) nat_list_cmp_total);
  same = pair_same text_order.same text_order.same;
  ties = λ a b. rw (text_order.ties a.0 b.0, text_order.ties a.1 b.1) (both_ties (text_cmp a.0 b.0) (text_cmp a.1 b.1));
}

module _ (label : Text) where
  abbrev labelled : Row → List Pair
  labelled cs = map (λ c. let p : Pair = (label, c) in p) cs

  any_labelled : (q : Pair) (cs : Row) → list_any (pair_eq q) (labelled cs) ≡ (text_eq q.0 label && is_in q.1 cs)
  any_labelled q [] = none (text_eq q.0 label)
    where
      none : (b : Bool) → false ≡ (b && false)
      none true = refl
      none false = refl
  any_labelled q (c ∷ cs) = ap (λ b. pair_eq q (label, c) || b) (any_labelled q cs) ∙ shared (text_eq q.0 label) (text_eq q.1 c) (is_in q.1 cs)
    where
      shared : (a b d : Bool) → ((a && b) || (a && d)) ≡ (a && (b || d))
      shared true b d = refl
      shared false b d = refl

  all_labelled : (c : Text) (cs : Row) → AllByRecursion (λ d. text_cmp c d ≡ Less) cs → AllByRecursion (λ (p : Pair). pair_cmp (label, c) p ≡ Less) (labelled cs)
  all_labelled c [] h = tt
  all_labelled c (d ∷ ds) h = (rw (tied_itself text_order.total label) h.0, all_labelled c ds h.1)

  labelled_ascend : (cs : Row) → IsStrictlySortedBy text_cmp cs → IsStrictlySortedBy pair_cmp (labelled cs)
  unfolding IsStrictlySortedBy
  labelled_ascend [] s = tt
  labelled_ascend (c ∷ cs) s = (all_labelled c cs s.0, labelled_ascend cs s.1)

  any_pair : (q : Pair) (fs : List Fact) → AllBear label fs → list_any (pair_eq q) (pairs_of fs) ≡ (text_eq q.0 label && has_column fs q.1)
  any_pair q [] h = none (text_eq q.0 label)
    where
      none : (b : Bool) → false ≡ (b && false)
      none true = refl
      none false = refl
  any_pair q (f ∷ fs) h = by_cell f.cell refl (any_pair q fs h.1)
    where
      shared : (a b d : Bool) → ((a && b) || (a && d)) ≡ (a && (b || d))
      shared true b d = refl
      shared false b d = refl

      by_cell : (c : Option (Text × Text)) → f.cell ≡ c → list_any (pair_eq q) (pairs_of fs) ≡ (text_eq q.0 label && has_column fs q.1) → list_any (pair_eq q) (pairs_of (f ∷ fs)) ≡ (text_eq q.0 label && has_column (f ∷ fs) q.1)
      by_cell None is rest = rw is rest
      by_cell (Some c) is rest = rw (is, h.0) (ap (λ b. pair_eq q (label, c.0) || b) rest ∙ shared (text_eq q.0 label) (text_eq q.1 c.0) (has_column fs q.1))

  first_labelled : (cs : Row) → slice_get (labelled cs) 0 ≡ option_map (λ c. let p : Pair = (label, c) in p) (slice_get cs 0)
  first_labelled [] = refl
  first_labelled (c ∷ cs) = refl

pub first_found : (p : Text → Bool) (cs : Row) → slice_get (filter p cs) 0 ≡ find p cs
first_found p [] = refl
first_found p (c ∷ cs) = by_test (p c) refl (first_found p cs)
  where
    by_test : (b : Bool) → p c ≡ b → slice_get (filter p cs) 0 ≡ find p cs → slice_get (filter p (c ∷ cs)) 0 ≡ find p (c ∷ cs)
    by_test true e rest = rw e refl
    by_test false e rest = rw e rest

module _ (label : Text) (constants : Row) (named old new : List Fact) (beyond : SameBeyond named old new) (bear : AllBear label new)
    (legal : (c : Text) → has_column old c ≡ true → is_column_label c constants ≡ true) where
  bad : Text → Bool
  bad c = not (is_column_label c constants)

  abbrev begun : Row
  begun = filter (λ c. has_column new c && not (has_column old c)) (columns_named named)

  column_same : (c : Text) → is_in c (columns_named named) ≡ false → has_column old c ≡ has_column new c
  column_same c h = beyond.same _ (sym (column_named c named) ∙ h)

  bad_begun : (c : Text) → (has_column new c && bad c) ≡ (is_in c begun && bad c)
  unfolding bad
  bad_begun c = by_old (has_column old c) refl ∙ ap (λ b. b && bad c) (sym (any_filtered text_order (λ d. has_column new d && not (has_column old d)) c (columns_named named)))
    where
      t : Bool
      t = is_in c (columns_named named)

      never : (a : Bool) → (a && false) ≡ false
      never true = refl
      never false = refl

      by_named : (t b a : Bool) → (t ≡ false → false ≡ b) → (b && a) ≡ ((t && (b && true)) && a)
      by_named true true a h = refl
      by_named true false a h = refl
      by_named false true a h = absurd (false≢true (h refl))
      by_named false false a h = refl

      by_old : (o : Bool) → has_column old c ≡ o → (has_column new c && not (is_column_label c constants)) ≡ ((is_in c (columns_named named) && (has_column new c && not (has_column old c))) && not (is_column_label c constants))
      by_old true e = rw (legal c e) (never (has_column new c) ∙ sym (never _))
      by_old false e = rw e (by_named (is_in c (columns_named named)) (has_column new c) (not (is_column_label c constants)) (λ h. sym e ∙ column_same c h))

  abbrev bad_pairs : List Pair
  bad_pairs = filter (λ (p : Pair). not (is_column_label p.1 constants)) (pairs_of new)

  pairs_are : ascending pair_cmp bad_pairs ≡ labelled label (filter bad begun)
  unfolding bad
  pairs_are = same_keys pair_order (ascending pair_cmp bad_pairs) (labelled label (filter bad begun)) (ascending_ascends pair_order bad_pairs) (labelled_ascend label (filter bad begun) (IsStrictlySortedBy-filter text_cmp bad begun (IsStrictlySortedBy-filter text_cmp _ (columns_named named) (columns_ascend named))))
      (λ q. any_ascending pair_order q bad_pairs ∙ any_filtered pair_order (λ (p : Pair). not (is_column_label p.1 constants)) q (pairs_of new) ∙ ap (λ b. b && bad q.1) (any_pair label q new bear)
      ∙ joined (text_eq q.0 label) (has_column new q.1) (bad q.1) ∙ ap (λ b. text_eq q.0 label && b) (bad_begun q.1 ∙ sym (any_filtered text_order bad q.1 begun)) ∙ sym (any_labelled label q (filter bad begun)))
    where
      joined : (a b d : Bool) → ((a && b) && d) ≡ (a && (b && d))
      joined true b d = refl
      joined false b d = refl

  pub illegal_is_first : illegal_column constants new ≡ first_illegal label constants begun
  unfolding bad
  illegal_is_first =
      ap (option_map (λ (p : Pair). let l : IllegalLabel = record { table = p.0; column = Some p.1 } in l))
      (least_first pair_order.total pair_order.same (filter (λ (p : Pair). not (is_column_label p.1 constants)) (pairs_of new)) ∙ ap (λ ps. slice_get ps 0) pairs_are ∙ first_labelled label (filter bad begun)
      ∙ ap (option_map (λ c. let p : Pair = (label, c) in p)) (first_found bad begun)) ∙ twice (find bad begun)
    where
      twice : (o : Option Text) → option_map (λ (p : Pair). let l : IllegalLabel = record { table = p.0; column = Some p.1 } in l) (option_map (λ c. let p : Pair = (label, c) in p) o) ≡ option_map (λ c. let l : IllegalLabel = record { table = label; column = Some c } in l) o
      twice None = refl
      twice (Some c) = refl
