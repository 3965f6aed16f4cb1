-- The conflict of all facts is the first conflict of a label that a change names.
use Rattle.std.proofs.Common.{◌≡◌, ◌∷◌, ◌++◌, [], Bool, true, false, List, Option, Some, None, refl, sym, ◌∙◌, ap, subst, map}
use Rattle.std.specs.Prelude.{◌&&◌, ◌||◌, flat_map, is_some, slice_get}
use Rattle.std.specs.Option.{option_or}
use Rattle.std.specs.List.{list_any, filter_map, cons_option, AllByRecursion}
use Rattle.std.specs.List.Sorted.{IsStrictlySortedBy}
use Rattle.std.specs.declared.cmp.Ordering.TheVariants.{Less}
use Rattle.std.proofs.lemmas.Bool.{false≢true}
use Rattle.std.proofs.lemmas.List.Folds.{list_any-append}
use Rattle.ss_text.specs.Texts.{Text, text_eq, row_eq, text_cmp, is_in}
use Rattle.ss_text.specs.Ascending.{ascending}
use Rattle.ss_text.proofs.KeyLemmas.{text_order, equal_is}
use Rattle.ss_text.proofs.PairLemmas.{any_ascending, ascending_ascends, each_found}
use Rattle.flow_law.specs.declared.refused.Clash.{Clash}
use Rattle.flow_law.specs.Facts.{Fact, Spot, spot_cmp, spots_of, values_at, facts_of, clash_of, conflict}
use Rattle.unfold_op.specs.Touched.{SameBeyond}
use Rattle.unfold_op.proofs.Picked.{given_same}
use Rattle.flow_law.proofs.Entries.{spot_eq, spot_order}
use Rattle.unfold_op.proofs.NetConflict.{at_spot, ascend_alike, spot_named, spots_named, spots_ascend}
use Rattle.unfold_op.proofs.TouchedLines.{passes, any_value}
use Rattle.unfold_op.proofs.OneValue.{no_clash}
use Rattle.split_op.specs.LabelLines.{labels_named, clash_at, first_conflict}
use Rattle.split_op.proofs.LabelScript.{any_own, any_label, none_own}

-- spots of some labels, label by label
abbrev label_spots : List Fact → List Text → List Spot
label_spots fs ls = flat_map (λ l. spots_of (facts_of l fs)) ls

-- the spots of one label's facts
own_spot : (fs : List Fact) (l : Text) (s : Spot) → spot_named (facts_of l fs) s ≡ (text_eq s.0 l && spot_named fs s)
own_spot [] l s = none (text_eq s.0 l)
  where
    none : (b : Bool) → false ≡ (b && false)
    none true = refl
    none false = refl
own_spot (f ∷ fs) l s = by_label (text_eq l f.label) refl f.cell refl (own_spot fs l s)
  where
    of_label : (t u x r : Bool) → u ≡ t → ((u && x) || (t && r)) ≡ (t && ((u && x) || r))
    of_label true u x r e = refl
    of_label false true x r e = absurd (false≢true (sym e))
    of_label false false x r e = refl

    of_other : (t u x r : Bool) → (t ≡ true → u ≡ false) → (t && r) ≡ (t && ((u && x) || r))
    of_other true true x r h = absurd (false≢true (sym (h refl)))
    of_other true false x r h = refl
    of_other false u x r h = refl

    by_label : (a : Bool) → text_eq l f.label ≡ a → (c : Option (Text × Text)) → f.cell ≡ c → spot_named (facts_of l fs) s ≡ (text_eq s.0 l && spot_named fs s) → spot_named (facts_of l (f ∷ fs)) s ≡ (text_eq s.0 l && spot_named (f ∷ fs) s)
    by_label true e None is rest = rw (e, is) rest
    by_label false e None is rest = rw (e, is) rest
    by_label true e (Some c) is rest =
        rw (e, is) (ap (λ b. (text_eq s.0 f.label && (row_eq s.1 f.key && text_eq s.2 c.0)) || b) rest
        ∙ of_label (text_eq s.0 l) (text_eq s.0 f.label) (row_eq s.1 f.key && text_eq s.2 c.0) (spot_named fs s) (ap (text_eq s.0) (sym (equal_is text_order l f.label e))))
    by_label false e (Some c) is rest =
        rw (e, is) (rest ∙ of_other (text_eq s.0 l) (text_eq s.0 f.label) (row_eq s.1 f.key && text_eq s.2 c.0) (spot_named fs s) (λ t. ap (λ (k : Text). text_eq k f.label) (equal_is text_order s.0 l t) ∙ e))

any_label_spot : (fs : List Fact) (ls : List Text) (s : Spot) → list_any (spot_eq s) (label_spots fs ls) ≡ (is_in s.0 ls && spot_named fs s)
any_label_spot fs [] s = refl
any_label_spot fs (l ∷ ls) s =
    list_any-append (spot_eq s) (spots_of (facts_of l fs)) (label_spots fs ls) ∙ ap (λ b. b || list_any (spot_eq s) (label_spots fs ls)) (spots_named (facts_of l fs) s ∙ own_spot fs l s)
    ∙ ap (λ b. (text_eq s.0 l && spot_named fs s) || b) (any_label_spot fs ls s) ∙ shared (text_eq s.0 l) (is_in s.0 ls) (spot_named fs s)
  where
    shared : (a b d : Bool) → ((a && d) || (b && d)) ≡ ((a || b) && d)
    shared true true true = refl
    shared true true false = refl
    shared true false true = refl
    shared true false false = refl
    shared false b d = refl

-- they ascend
all_joined : (P : Spot → Type 0) (xs ys : List Spot) → AllByRecursion P xs → AllByRecursion P ys → AllByRecursion P (xs ++ ys)
all_joined P [] ys h i = i
all_joined P (x ∷ xs) ys h i = (h.0, all_joined P xs ys h.1 i)

two_parts : (xs ys : List Spot) → IsStrictlySortedBy spot_cmp xs → IsStrictlySortedBy spot_cmp ys → AllByRecursion (λ x. AllByRecursion (λ y. spot_cmp x y ≡ Less) ys) xs → IsStrictlySortedBy spot_cmp (xs ++ ys)
unfolding IsStrictlySortedBy
two_parts [] ys s t h = t
two_parts (x ∷ xs) ys s t h = (all_joined (λ y. spot_cmp x y ≡ Less) xs ys s.0 h.0, two_parts xs ys s.1 t h.1)

spot_label : (fs : List Fact) (l : Text) (s : Spot) → list_any (spot_eq s) (spots_of (facts_of l fs)) ≡ true → s.0 ≡ l
spot_label fs l s h = equal_is text_order s.0 l (first (text_eq s.0 l) (spot_named fs s) (sym (spots_named (facts_of l fs) s ∙ own_spot fs l s) ∙ h))
  where
    first : (a b : Bool) → (a && b) ≡ true → a ≡ true
    first true b h = refl
    first false b h = absurd (false≢true h)

less_label : (s t : Spot) → text_cmp s.0 t.0 ≡ Less → spot_cmp s t ≡ Less
less_label s t e = rw e refl

all_less : (fs : List Fact) (s : Spot) (ls : List Text) → AllByRecursion (λ l. text_cmp s.0 l ≡ Less) ls → AllByRecursion (λ t. spot_cmp s t ≡ Less) (label_spots fs ls)
all_less fs s [] h = tt
all_less fs s (l ∷ ls) h =
    all_joined (λ t. spot_cmp s t ≡ Less) (spots_of (facts_of l fs)) (label_spots fs ls)
    (each_found spot_order (λ t. spot_cmp s t ≡ Less) (spots_of (facts_of l fs)) (λ t there. less_label s t (ap (text_cmp s.0) (spot_label fs l t there) ∙ h.0))) (all_less fs s ls h.1)

label_spots_ascend : (fs : List Fact) (ls : List Text) → IsStrictlySortedBy text_cmp ls → IsStrictlySortedBy spot_cmp (label_spots fs ls)
unfolding IsStrictlySortedBy
label_spots_ascend fs [] s = tt
label_spots_ascend fs (l ∷ ls) s =
    two_parts (spots_of (facts_of l fs)) (label_spots fs ls) (spots_ascend (facts_of l fs)) (label_spots_ascend fs ls s.1)
    (each_found spot_order (λ t. AllByRecursion (λ u. spot_cmp t u ≡ Less) (label_spots fs ls)) (spots_of (facts_of l fs)) (λ t there. all_less fs t ls (subst (λ (k : Text). AllByRecursion (λ m. text_cmp k m ≡ Less) ls) (sym (spot_label fs l t there)) s.0)))

-- the clashes of one label's facts
own_twice : (fs : List Fact) (l : Text) → facts_of l (facts_of l fs) ≡ facts_of l fs
own_twice [] l = refl
own_twice (f ∷ fs) l = by_label (text_eq l f.label) refl (own_twice fs l)
  where
    by_label : (a : Bool) → text_eq l f.label ≡ a → facts_of l (facts_of l fs) ≡ facts_of l fs → facts_of l (facts_of l (f ∷ fs)) ≡ facts_of l (f ∷ fs)
    by_label true e rest = rw e (rw e (ap (λ gs. f ∷ gs) rest))
    by_label false e rest = rw e rest

own_clash : (fs : List Fact) (l : Text) (s : Spot) → s.0 ≡ l → clash_at fs s ≡ clash_at (facts_of l fs) s
own_clash fs l s e = ap (λ (gs : List Fact). clash_of s (ascending text_cmp (values_at gs s.1 s.2))) (sym (own_twice fs s.0) ∙ ap (λ (k : Text). facts_of s.0 (facts_of k fs)) e)

mapped_alike : (f g : Spot → Option Clash) (ss : List Spot) → AllByRecursion (λ s. f s ≡ g s) ss → filter_map f ss ≡ filter_map g ss
mapped_alike f g [] h = refl
mapped_alike f g (s ∷ ss) h = rw h.0 (ap (cons_option (g s)) (mapped_alike f g ss h.1))

given_joined : (f : Spot → Option Clash) (xs ys : List Spot) → filter_map f (xs ++ ys) ≡ filter_map f xs ++ filter_map f ys
given_joined f [] ys = refl
given_joined f (x ∷ xs) ys = ap (cons_option (f x)) (given_joined f xs ys) ∙ put (f x)
  where
    put : (o : Option Clash) → cons_option o (filter_map f xs ++ filter_map f ys) ≡ cons_option o (filter_map f xs) ++ filter_map f ys
    put None = refl
    put (Some c) = refl

first_of_two : (xs ys : List Clash) → slice_get (xs ++ ys) 0 ≡ option_or (slice_get xs 0) (slice_get ys 0)
first_of_two [] ys = refl
first_of_two (x ∷ xs) ys = refl

by_labels : (fs : List Fact) (ls : List Text) → slice_get (filter_map (clash_at fs) (label_spots fs ls)) 0 ≡ first_conflict fs ls
unfolding conflict
by_labels fs [] = refl
by_labels fs (l ∷ ls) =
    ap (λ cs. slice_get cs 0) (given_joined (clash_at fs) (spots_of (facts_of l fs)) (label_spots fs ls)) ∙ first_of_two (filter_map (clash_at fs) (spots_of (facts_of l fs))) (filter_map (clash_at fs) (label_spots fs ls))
    ∙ (λ i. option_or (slice_get (mapped_alike (clash_at fs) (clash_at (facts_of l fs)) (spots_of (facts_of l fs)) own i) 0) (by_labels fs ls i))
  where
    own : AllByRecursion (λ s. clash_at fs s ≡ clash_at (facts_of l fs) s) (spots_of (facts_of l fs))
    own = each_found spot_order (λ s. clash_at fs s ≡ clash_at (facts_of l fs) s) (spots_of (facts_of l fs)) (λ s there. own_clash fs l s (spot_label fs l s there))

-- where the clashes of other labels are none
pub conflict_of_labels : (fs : List Fact) (ls : List Text) → IsStrictlySortedBy text_cmp ls → ((s : Spot) → is_in s.0 ls ≡ false → clash_at fs s ≡ None) → conflict fs ≡ first_conflict fs ls
unfolding conflict
conflict_of_labels fs ls sorted none =
    ap (λ cs. slice_get cs 0) (given_same spot_order (clash_at fs) (spots_of fs) (label_spots fs ls) (spots_ascend fs) (label_spots_ascend fs ls sorted)
    (λ s. ap (λ b. b && is_some (clash_at fs s)) (spots_named fs s) ∙ by_label s (is_in s.0 ls) refl ∙ ap (λ b. b && is_some (clash_at fs s)) (sym (any_label_spot fs ls s)))) ∙ by_labels fs ls
  where
    never : (b : Bool) → (b && false) ≡ false
    never true = refl
    never false = refl

    by_label : (s : Spot) (b : Bool) → is_in s.0 ls ≡ b → (spot_named fs s && is_some (clash_at fs s)) ≡ ((is_in s.0 ls && spot_named fs s) && is_some (clash_at fs s))
    by_label s true e = rw e refl
    by_label s false e = rw (e, none s e) (never (spot_named fs s))

-- after a change of facts without a clash
pub conflict_named : (named old new : List Fact) → SameBeyond named old new → ((s : Spot) → clash_at old s ≡ None) → conflict new ≡ first_conflict new (labels_named named)
conflict_named named old new beyond none = conflict_of_labels new (labels_named named) (ascending_ascends text_order (map (λ (f : Fact). f.label) named)) (λ s e. same s (not_named s.0 e) ∙ none s)
  where
    not_named : (l : Text) → is_in l (labels_named named) ≡ false → list_any (λ (f : Fact). text_eq l f.label) named ≡ false
    not_named l e = sym (any_ascending text_order l (map (λ (f : Fact). f.label) named) ∙ any_label l named) ∙ e

    own_none : (l : Text) (p : Fact → Bool) → list_any (λ (f : Fact). text_eq l f.label) named ≡ false → list_any (λ (f : Fact). text_eq l f.label && p f) named ≡ false
    own_none l p e = sym (any_own l p named) ∙ ap (list_any p) (none_own l named e)

    same : (s : Spot) → list_any (λ (f : Fact). text_eq s.0 f.label) named ≡ false → clash_at new s ≡ clash_at old s
    same s e = ap (clash_of s) (ascend_alike (at_spot new s) (at_spot old s)
        (λ v. any_value (text_eq v) (s.1, s.2) (facts_of s.0 new) ∙ any_own s.0 (passes (text_eq v) (s.1, s.2)) new
        ∙ sym (beyond.same (λ (f : Fact). text_eq s.0 f.label && passes (text_eq v) (s.1, s.2) f) (own_none s.0 (passes (text_eq v) (s.1, s.2)) e))
        ∙ sym (any_own s.0 (passes (text_eq v) (s.1, s.2)) old) ∙ sym (any_value (text_eq v) (s.1, s.2) (facts_of s.0 old))))

-- facts without a conflict have none of one label
none_of_first : (fs : List Fact) (ls : List Text) → first_conflict fs ls ≡ None → (l : Text) → is_in l ls ≡ true → conflict (facts_of l fs) ≡ None
none_of_first fs [] e l has = absurd (cc)
none_of_first fs (k ∷ ls) e l has = by_clash (conflict (facts_of k fs)) refl e (λ rest. none_of_first fs ls rest l)
  where
    by_same : (b : Bool) → text_eq l k ≡ b → conflict (facts_of k fs) ≡ None → (is_in l ls ≡ true → conflict (facts_of l fs) ≡ None) → (b || is_in l ls) ≡ true → conflict (facts_of l fs) ≡ None
    by_same true t is more h = ap (λ (m : Text). conflict (facts_of m fs)) (equal_is text_order l k t) ∙ is
    by_same false t is more h = more h

    by_clash : (o : Option Clash) → conflict (facts_of k fs) ≡ o → option_or o (first_conflict fs ls) ≡ None → (first_conflict fs ls ≡ None → is_in l ls ≡ true → conflict (facts_of l fs) ≡ None) → conflict (facts_of l fs) ≡ None
    by_clash None is rest more = by_same (text_eq l k) refl is (more rest) has
    by_clash (Some c) is rest more = absurd (cc)

empty : conflict [] ≡ None
unfolding conflict
empty = refl

pub clean_own : (fs : List Fact) → conflict fs ≡ None → (l : Text) → conflict (facts_of l fs) ≡ None
clean_own fs e l = by_named (list_any (λ (f : Fact). text_eq l f.label) fs) refl
  where
    by_named : (b : Bool) → list_any (λ (f : Fact). text_eq l f.label) fs ≡ b → conflict (facts_of l fs) ≡ None
    by_named false t = ap conflict (none_own l fs t) ∙ empty
    by_named true t =
        none_of_first fs (labels_named fs) (sym (conflict_named fs [] fs (record { same = λ p none. sym none }) (no_clash [] empty)) ∙ e) l
        (any_ascending text_order l (map (λ (f : Fact). f.label) fs) ∙ any_label l fs ∙ t)

pub conflict_of_named : (named old new : List Fact) → SameBeyond named old new → conflict old ≡ None → conflict new ≡ first_conflict new (labels_named named)
conflict_of_named named old new beyond clean = conflict_named named old new beyond (no_clash old clean)
