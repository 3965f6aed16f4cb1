-- The least illegal label of all facts is found among the labels that a change names.
use Rattle.std.proofs.Common.{◌≡◌, ◌∷◌, ◌++◌, [], Bool, true, false, List, Option, Some, None, refl, sym, ◌∙◌, ap, subst, map}
use Rattle.std.specs.Prelude.{not, ◌&&◌, ◌||◌, filter, flat_map, slice_get, option_map}
use Rattle.std.specs.Option.{option_or}
use Rattle.std.specs.List.{list_any, AllByRecursion}
use Rattle.std.specs.List.Sorted.{IsStrictlySortedBy}
use Rattle.std.specs.declared.cmp.Ordering.TheVariants.{Less}
use Rattle.std.proofs.lemmas.Bool.{false≢true}
use Rattle.std.proofs.lemmas.List.Folds.{list_any-append}
use Rattle.std.proofs.lemmas.List.Kept.{IsStrictlySortedBy-filter}
use Rattle.ss_text.specs.Texts.{Text, Row, text_eq, text_cmp, is_in}
use Rattle.ss_text.specs.Label.{is_table_label, is_column_label}
use Rattle.ss_text.specs.Ascending.{ascending}
use Rattle.ss_text.proofs.KeyLemmas.{text_order, equal_is}
use Rattle.ss_text.proofs.PairLemmas.{any_ascending, any_filtered, ascending_ascends, each_found, same_keys}
use Rattle.ss_text.proofs.SetLemmas.{least_first}
use Rattle.flow_law.specs.declared.refused.IllegalLabel.{IllegalLabel}
use Rattle.flow_law.specs.Facts.{Fact, Pair, pair_cmp, pairs_of, facts_of, illegal_table, illegal_column}
use Rattle.unfold_op.specs.Touched.{SameBeyond, bears_column}
use Rattle.unfold_op.proofs.NetIllegal.{pair_eq, pair_order, first_found}
use Rattle.split_op.specs.LabelLines.{labels_named, first_illegal_column, first_illegal_table}
use Rattle.split_op.proofs.LabelScript.{any_label, none_own}

-- whether a fact has a pair
abbrev bears_pair : Pair → Fact → Bool
bears_pair p f = text_eq p.0 f.label && bears_column p.1 f

any_pair : (p : Pair) (fs : List Fact) → list_any (pair_eq p) (pairs_of fs) ≡ list_any (bears_pair p) fs
any_pair p [] = refl
any_pair p (f ∷ fs) = by_cell f.cell refl (any_pair p fs)
  where
    none : (b r : Bool) → r ≡ ((b && false) || r)
    none true r = refl
    none false r = refl

    by_cell : (c : Option (Text × Text)) → f.cell ≡ c → list_any (pair_eq p) (pairs_of fs) ≡ list_any (bears_pair p) fs → list_any (pair_eq p) (pairs_of (f ∷ fs)) ≡ list_any (bears_pair p) (f ∷ fs)
    by_cell None is rest = rw is (rest ∙ none (text_eq p.0 f.label) (list_any (bears_pair p) fs))
    by_cell (Some c) is rest = rw is (ap (λ b. (text_eq p.0 f.label && text_eq p.1 c.0) || b) rest)

own_pair : (l : Text) (p : Pair) (fs : List Fact) → list_any (bears_pair p) (facts_of l fs) ≡ (text_eq p.0 l && list_any (bears_pair p) fs)
own_pair l p [] = none (text_eq p.0 l)
  where
    none : (b : Bool) → false ≡ (b && false)
    none true = refl
    none false = refl
own_pair l p (f ∷ fs) = by_label (text_eq l f.label) refl (own_pair l p fs)
  where
    of_label : (t u x r : Bool) → u ≡ t → ((u && x) || (t && r)) ≡ (t && ((u && x) || r))
    of_label true u x r e = refl
    of_label false true x r e = absurd (false≢true (sym e))
    of_label false false x r e = refl

    of_other : (t u x r : Bool) → (t ≡ true → u ≡ false) → (t && r) ≡ (t && ((u && x) || r))
    of_other true true x r h = absurd (false≢true (sym (h refl)))
    of_other true false x r h = refl
    of_other false u x r h = refl

    by_label : (a : Bool) → text_eq l f.label ≡ a → list_any (bears_pair p) (facts_of l fs) ≡ (text_eq p.0 l && list_any (bears_pair p) fs) → list_any (bears_pair p) (facts_of l (f ∷ fs)) ≡ (text_eq p.0 l && list_any (bears_pair p) (f ∷ fs))
    by_label true e rest = rw e (ap (λ b. bears_pair p f || b) rest ∙ of_label (text_eq p.0 l) (text_eq p.0 f.label) (bears_column p.1 f) (list_any (bears_pair p) fs) (ap (text_eq p.0) (sym (equal_is text_order l f.label e))))
    by_label false e rest = rw e (rest ∙ of_other (text_eq p.0 l) (text_eq p.0 f.label) (bears_column p.1 f) (list_any (bears_pair p) fs) (λ t. ap (λ (k : Text). text_eq k f.label) (equal_is text_order p.0 l t) ∙ e))

module _ (constants : Row) where
  abbrev bad : Pair → Bool
  bad p = not (is_column_label p.1 constants)

  abbrev block : List Fact → List Pair
  block fs = ascending pair_cmp (filter (λ (p : Pair). not (is_column_label p.1 constants)) (pairs_of fs))

  abbrev blocks : List Fact → List Text → List Pair
  blocks fs ls = flat_map (λ l. block (facts_of l fs)) ls

  any_block : (p : Pair) (fs : List Fact) → list_any (pair_eq p) (block fs) ≡ (list_any (bears_pair p) fs && bad p)
  any_block p fs = any_ascending pair_order p (filter bad (pairs_of fs)) ∙ any_filtered pair_order bad p (pairs_of fs) ∙ ap (λ b. b && bad p) (any_pair p fs)

  any_blocks : (p : Pair) (fs : List Fact) (ls : List Text) → list_any (pair_eq p) (blocks fs ls) ≡ (is_in p.0 ls && (list_any (bears_pair p) fs && bad p))
  any_blocks p fs [] = refl
  any_blocks p fs (l ∷ ls) =
      list_any-append (pair_eq p) (block (facts_of l fs)) (blocks fs ls) ∙ (λ i. any_block p (facts_of l fs) i || any_blocks p fs ls i)
      ∙ ap (λ b. (b && bad p) || (is_in p.0 ls && (list_any (bears_pair p) fs && bad p))) (own_pair l p fs) ∙ shared (text_eq p.0 l) (is_in p.0 ls) (list_any (bears_pair p) fs) (bad p)
    where
      shared : (a b r d : Bool) → (((a && r) && d) || (b && (r && d))) ≡ ((a || b) && (r && d))
      shared true true true true = refl
      shared true true true false = refl
      shared true true false d = refl
      shared true false true true = refl
      shared true false true false = refl
      shared true false false d = refl
      shared false b r d = refl

  all_joined : (P : Pair → Type 0) (xs ys : List Pair) → AllByRecursion P xs → AllByRecursion P ys → AllByRecursion P (xs ++ ys)
  all_joined P [] ys h i = i
  all_joined P (x ∷ xs) ys h i = (h.0, all_joined P xs ys h.1 i)

  two_parts : (xs ys : List Pair) → IsStrictlySortedBy pair_cmp xs → IsStrictlySortedBy pair_cmp ys → AllByRecursion (λ x. AllByRecursion (λ y. pair_cmp x y ≡ Less) ys) xs → IsStrictlySortedBy pair_cmp (xs ++ ys)
  unfolding IsStrictlySortedBy
  two_parts [] ys s t h = t
  two_parts (x ∷ xs) ys s t h = (all_joined (λ y. pair_cmp x y ≡ Less) xs ys s.0 h.0, two_parts xs ys s.1 t h.1)

  pair_label : (fs : List Fact) (l : Text) (p : Pair) → list_any (pair_eq p) (block (facts_of l fs)) ≡ true → p.0 ≡ l
  pair_label fs l p h = equal_is text_order p.0 l (first (text_eq p.0 l) (list_any (bears_pair p) fs) (bad p) (sym (any_block p (facts_of l fs) ∙ ap (λ b. b && bad p) (own_pair l p fs)) ∙ h))
    where
      first : (a b d : Bool) → ((a && b) && d) ≡ true → a ≡ true
      first true b d h = refl
      first false b d h = absurd (false≢true h)

  less_label : (p q : Pair) → text_cmp p.0 q.0 ≡ Less → pair_cmp p q ≡ Less
  less_label p q e = rw e refl

  all_less : (fs : List Fact) (p : Pair) (ls : List Text) → AllByRecursion (λ l. text_cmp p.0 l ≡ Less) ls → AllByRecursion (λ q. pair_cmp p q ≡ Less) (blocks fs ls)
  all_less fs p [] h = tt
  all_less fs p (l ∷ ls) h =
      all_joined (λ q. pair_cmp p q ≡ Less) (block (facts_of l fs)) (blocks fs ls)
      (each_found pair_order (λ q. pair_cmp p q ≡ Less) (block (facts_of l fs)) (λ q there. less_label p q (ap (text_cmp p.0) (pair_label fs l q there) ∙ h.0))) (all_less fs p ls h.1)

  blocks_ascend : (fs : List Fact) (ls : List Text) → IsStrictlySortedBy text_cmp ls → IsStrictlySortedBy pair_cmp (blocks fs ls)
  unfolding IsStrictlySortedBy
  blocks_ascend fs [] s = tt
  blocks_ascend fs (l ∷ ls) s =
      two_parts (block (facts_of l fs)) (blocks fs ls) (ascending_ascends pair_order (filter bad (pairs_of (facts_of l fs)))) (blocks_ascend fs ls s.1)
      (each_found pair_order (λ p. AllByRecursion (λ q. pair_cmp p q ≡ Less) (blocks fs ls)) (block (facts_of l fs)) (λ p there. all_less fs p ls (subst (λ (k : Text). AllByRecursion (λ m. text_cmp k m ≡ Less) ls) (sym (pair_label fs l p there)) s.0)))

  abbrev as_illegal : Option Pair → Option IllegalLabel
  as_illegal o = option_map (λ (p : Pair). record { table = p.0; column = Some p.1 }) o

  column_is : (fs : List Fact) → illegal_column constants fs ≡ as_illegal (slice_get (block fs) 0)
  column_is fs = ap as_illegal (least_first pair_order.total pair_order.same (filter bad (pairs_of fs)))

  first_of_two : (xs ys : List Pair) → as_illegal (slice_get (xs ++ ys) 0) ≡ option_or (as_illegal (slice_get xs 0)) (as_illegal (slice_get ys 0))
  first_of_two [] ys = refl
  first_of_two (x ∷ xs) ys = refl

  by_labels : (fs : List Fact) (ls : List Text) → as_illegal (slice_get (blocks fs ls) 0) ≡ first_illegal_column constants fs ls
  by_labels fs [] = refl
  by_labels fs (l ∷ ls) = first_of_two (block (facts_of l fs)) (blocks fs ls) ∙ (λ i. option_or (sym (column_is (facts_of l fs)) i) (by_labels fs ls i))

  -- after a change of facts with legal columns
  pub illegal_named : (named old new : List Fact) → SameBeyond named old new → ((p : Pair) → (list_any (bears_pair p) old && bad p) ≡ false) → illegal_column constants new ≡ first_illegal_column constants new (labels_named named)
  illegal_named named old new beyond none =
      column_is new ∙ ap (λ ps. as_illegal (slice_get ps 0)) (same_keys pair_order (block new) (blocks new (labels_named named)) (ascending_ascends pair_order (filter bad (pairs_of new)))
      (blocks_ascend new (labels_named named) (ascending_ascends text_order (map (λ (f : Fact). f.label) named)))
      (λ p. any_block p new ∙ by_label p (is_in p.0 (labels_named named)) refl ∙ sym (any_blocks p new (labels_named named)))) ∙ by_labels new (labels_named named)
    where
      no_pair : (p : Pair) (fs : List Fact) → list_any (λ (f : Fact). text_eq p.0 f.label) fs ≡ false → list_any (bears_pair p) fs ≡ false
      no_pair p [] h = refl
      no_pair p (f ∷ fs) h = by_test (text_eq p.0 f.label) h (no_pair p fs)
        where
          by_test : (b : Bool) → (b || list_any (λ (g : Fact). text_eq p.0 g.label) fs) ≡ false → (list_any (λ (g : Fact). text_eq p.0 g.label) fs ≡ false → list_any (bears_pair p) fs ≡ false) → ((b && bears_column p.1 f) || list_any (bears_pair p) fs) ≡ false
          by_test true h rest = absurd (false≢true (sym h))
          by_test false h rest = rest h

      by_label : (p : Pair) (b : Bool) → is_in p.0 (labels_named named) ≡ b → (list_any (bears_pair p) new && bad p) ≡ (is_in p.0 (labels_named named) && (list_any (bears_pair p) new && bad p))
      by_label p true e = rw e refl
      by_label p false e =
          let apart = sym (any_ascending text_order p.0 (map (λ (f : Fact). f.label) named) ∙ any_label p.0 named) ∙ e in
          ap (λ b. b && bad p) (sym (beyond.same (bears_pair p) (no_pair p named apart))) ∙ none p ∙ sym (ap (λ b. b && (list_any (bears_pair p) new && bad p)) e)

-- the least illegal table label
pub illegal_table_named : (named old new : List Fact) → SameBeyond named old new → ((l : Text) → (list_any (λ (f : Fact). text_eq l f.label) old && not (is_table_label l)) ≡ false) → illegal_table new ≡ first_illegal_table new (labels_named named)
illegal_table_named named old new beyond none =
    ap as_table (least_first text_order.total text_order.same (filter bad_label (map (λ (f : Fact). f.label) new)) ∙ ap (λ ls. slice_get ls 0) same ∙ first_found there (labels_named named))
  where
    bad_label : Text → Bool
    bad_label t = not (is_table_label t)

    there : Text → Bool
    there l = list_any (λ (f : Fact). text_eq l f.label) new && not (is_table_label l)

    as_table : Option Text → Option IllegalLabel
    as_table o = option_map (λ t. record { table = t; column = None }) o

    never : (a b : Bool) → b ≡ false → (a && b) ≡ false
    never true b h = h
    never false b h = refl

    by_named : (l : Text) (b : Bool) → is_in l (labels_named named) ≡ b → there l ≡ (is_in l (labels_named named) && there l)
    by_named l true e = rw e refl
    by_named l false e =
        let apart = sym (any_ascending text_order l (map (λ (f : Fact). f.label) named) ∙ any_label l named) ∙ e in
        ap (λ b. b && not (is_table_label l)) (sym (beyond.same (λ (f : Fact). text_eq l f.label) apart)) ∙ none l ∙ sym (ap (λ b. b && there l) e)

    same : ascending text_cmp (filter bad_label (map (λ (f : Fact). f.label) new)) ≡ filter there (labels_named named)
    same = same_keys text_order (ascending text_cmp (filter bad_label (map (λ (f : Fact). f.label) new))) (filter there (labels_named named))
        (ascending_ascends text_order (filter bad_label (map (λ (f : Fact). f.label) new))) (IsStrictlySortedBy-filter text_cmp there (labels_named named) (ascending_ascends text_order (map (λ (f : Fact). f.label) named)))
        (λ l. any_ascending text_order l (filter bad_label (map (λ (f : Fact). f.label) new)) ∙ any_filtered text_order bad_label l (map (λ (f : Fact). f.label) new) ∙ ap (λ b. b && bad_label l) (any_label l new)
        ∙ by_named l (is_in l (labels_named named)) refl ∙ sym (any_filtered text_order there l (labels_named named)))

-- what a first of none tells
none_at_all : {A : Type 0} (xs : List A) → slice_get xs 0 ≡ None → xs ≡ []
none_at_all [] e = refl
none_at_all (x ∷ xs) e = absurd (cc)

none_mapped : {A B : Type 0} (f : A → B) (o : Option A) → option_map f o ≡ None → o ≡ None
none_mapped f None e = refl
none_mapped f (Some x) e = absurd (cc)

-- facts without an illegal table label have none
pub no_bad_table : (fs : List Fact) → illegal_table fs ≡ None → (l : Text) → (list_any (λ (f : Fact). text_eq l f.label) fs && not (is_table_label l)) ≡ false
no_bad_table fs e l =
    ap (λ b. b && not (is_table_label l)) (sym (any_label l fs)) ∙ sym (any_filtered text_order bad_label l (map (λ (f : Fact). f.label) fs)) ∙ sym (any_ascending text_order l (filter bad_label (map (λ (f : Fact). f.label) fs)))
    ∙ ap (list_any (text_eq l)) (none_at_all (ascending text_cmp (filter bad_label (map (λ (f : Fact). f.label) fs))) (sym (least_first text_order.total text_order.same (filter bad_label (map (λ (f : Fact). f.label) fs))) ∙ none_mapped (λ (t : Text). let i : IllegalLabel = record { table = t; column = None } in i) _ e))
  where
    bad_label : Text → Bool
    bad_label t = not (is_table_label t)

module _ (constants : Row) where
  -- nor an illegal column
  pub no_bad_pair : (fs : List Fact) → illegal_column constants fs ≡ None → (p : Pair) → (list_any (bears_pair p) fs && not (is_column_label p.1 constants)) ≡ false
  no_bad_pair fs e p =
      sym (any_block constants p fs) ∙ ap (list_any (pair_eq p)) (none_at_all (block constants fs) (none_mapped (λ (q : Pair). let i : IllegalLabel = record { table = q.0; column = Some q.1 } in i) _ (sym (column_is constants fs) ∙ e)))

  -- nor do those of one label
  none_of_first : (fs : List Fact) (ls : List Text) → first_illegal_column constants fs ls ≡ None → (l : Text) → is_in l ls ≡ true → illegal_column constants (facts_of l fs) ≡ None
  none_of_first fs [] e l has = absurd (cc)
  none_of_first fs (k ∷ ls) e l has = by_label (illegal_column constants (facts_of k fs)) refl e (λ rest. none_of_first fs ls rest l)
    where
      by_same : (b : Bool) → text_eq l k ≡ b → illegal_column constants (facts_of k fs) ≡ None → (is_in l ls ≡ true → illegal_column constants (facts_of l fs) ≡ None) → (b || is_in l ls) ≡ true → illegal_column constants (facts_of l fs) ≡ None
      by_same true t is more h = ap (λ (m : Text). illegal_column constants (facts_of m fs)) (equal_is text_order l k t) ∙ is
      by_same false t is more h = more h

      by_label : (o : Option IllegalLabel) → illegal_column constants (facts_of k fs) ≡ o → option_or o (first_illegal_column constants fs ls) ≡ None → (first_illegal_column constants fs ls ≡ None → is_in l ls ≡ true → illegal_column constants (facts_of l fs) ≡ None) → illegal_column constants (facts_of l fs) ≡ None
      by_label None is rest more = by_same (text_eq l k) refl is (more rest) has
      by_label (Some i) is rest more = absurd (cc)

  pub legal_own : (fs : List Fact) → illegal_column constants fs ≡ None → (l : Text) → illegal_column constants (facts_of l fs) ≡ None
  legal_own fs e l = by_named (list_any (λ (f : Fact). text_eq l f.label) fs) refl
    where
      by_named : (b : Bool) → list_any (λ (f : Fact). text_eq l f.label) fs ≡ b → illegal_column constants (facts_of l fs) ≡ None
      by_named false t = ap (illegal_column constants) (none_own l fs t)
      by_named true t =
          none_of_first fs (labels_named fs) (sym (illegal_named constants fs [] fs (record { same = λ p none. sym none }) (λ p. refl)) ∙ e) l
          (any_ascending text_order l (map (λ (f : Fact). f.label) fs) ∙ any_label l fs ∙ t)

  pub column_of_named : (named old new : List Fact) → SameBeyond named old new → illegal_column constants old ≡ None → illegal_column constants new ≡ first_illegal_column constants new (labels_named named)
  column_of_named named old new beyond legal = illegal_named constants named old new beyond (no_bad_pair old legal)

pub table_of_named : (named old new : List Fact) → SameBeyond named old new → illegal_table old ≡ None → illegal_table new ≡ first_illegal_table new (labels_named named)
table_of_named named old new beyond legal = illegal_table_named named old new beyond (no_bad_table old legal)
