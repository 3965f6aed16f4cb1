-- Tests on the way weigh what the same tests at the end do.
use Rattle.std.proofs.Common.{◌≡◌, ℕ, List, [], ◌∷◌, ◌++◌, map, filter, Bool, true, false, ◌&&◌, cond, refl, arith, ap, sym, ◌∙◌, Option, Some, None}
use Rattle.std.specs.Prelude.{fold, flat_map}
use Rattle.std.specs.List.{list_all}
use Rattle.std.proofs.lemmas.List.Folds.{list_all-append}
use Rattle.std.proofs.lemmas.Bool.{and_from}
use Rattle.std.proofs.Math.Nat.{add-zero}
use Rattle.ss_text.specs.Texts.{Text}
use Rattle.view_def.specs.declared.written.Op.TheVariants.{Eq, Ne, Lt, Le, Gt, Ge}
use Rattle.plan_law.specs.Kinds.{Term}
use Rattle.view_def.specs.Conditions.{Condition, Conditions, AnyOf, AllOf, NotOf, Compares, none, more}
use Rattle.view_def.specs.Query.{Query}
use Rattle.view_meaning.specs.Terms.{Reading, is_true, each_is_true, compares_values}
use Rattle.view_def.specs.Terms.{terms_of_view}
use Rattle.view_meaning.specs.Valuations.{counts, meets}
use Rattle.view_meaning.specs.Terms.{are_defined}
use Rattle.plan_law.specs.Columns.{Combo, read, is_consistent, may_equal, sides_of, equalities, is_tested, stage}
use Rattle.plan_law.proofs.Columns.{and_left, and_right, all_has, all_from, consistent_start, found_more}
use Rattle.plan_law.proofs.Steps.{combined}
use Rattle.view_meaning.specs.Early.{listed}
use Rattle.view_meaning.specs.Operands.{resolved}
use Rattle.operator_law.specs.Bags.{weigh}
use Rattle.operator_law.proofs.Weights.{weigh-same, weigh-filter, weigh-map, weigh-flat_map}
use Rattle.plan_law.proofs.Weights.{weigh-zero}

-- a longer combination says no less
may_equal_more : (a b a' b' : Option Text) → ((t : Text) → a ≡ Some t → a' ≡ Some t) → ((t : Text) → b ≡ Some t → b' ≡ Some t) → may_equal a' b' ≡ true → may_equal a b ≡ true
may_equal_more None b a' b' f g e = refl
may_equal_more (Some s) None a' b' f g e = refl
may_equal_more (Some s) (Some t) a' b' f g e =
    sym (ap (λ (o : Option Text). may_equal o b') (f s refl) ∙ ap (may_equal (Some s)) (g t refl)) ∙ e

-- what is tested of a longer combination is tested of its beginning
pub tested_start : (q : Query) (x y : Combo) → is_tested q (x ++ y) ≡ true → is_tested q x ≡ true
tested_start q x y e =
    let holds : Combo → Term × Term → Bool = λ (z : Combo) (p : Term × Term). may_equal (read q z p.0) (read q z p.1) in
    and_from (is_consistent q x) (list_all (holds x) (equalities q.condition))
    (consistent_start q x y (and_left (is_consistent q (x ++ y)) (list_all (holds (x ++ y)) (equalities q.condition)) e))
    (all_from (holds x) (equalities q.condition) (λ p m.
    may_equal_more (read q x p.0) (read q x p.1) (read q (x ++ y) p.0) (read q (x ++ y) p.1) (λ t. found_more x y (resolved q.decls p.0) t) (λ t. found_more x y (resolved q.decls p.1) t)
    (all_has (holds (x ++ y)) (equalities q.condition) p (and_right (is_consistent q (x ++ y)) (list_all (holds (x ++ y)) (equalities q.condition)) e) m)))

module _ (q : Query) (f : Combo → ℕ) where
  abbrev pub where_tested : Combo → ℕ
  where_tested y = cond (is_tested q y) (f y) 0

  none_tested : (x : Combo) (rest : List (List Combo)) → is_tested q x ≡ false → weigh where_tested (combined x rest) ≡ 0
  none_tested x [] e = let d : where_tested x ≡ 0 = rw e refl in omega (arith, d)
  none_tested x (ys ∷ rest) e =
      weigh-flat_map _ (λ y. combined (x ++ y) rest) ys
      ∙ weigh-zero _ (λ y. none_tested (x ++ y) rest (longer y (is_tested q (x ++ y)) refl)) ys
    where
      longer : (y : Combo) (b : Bool) → is_tested q (x ++ y) ≡ b → b ≡ false
      longer y true is = let d = tested_start q x y is in cc
      longer y false is = refl

  tested_or_none : (x : Combo) (rest : List (List Combo)) (b : Bool) → is_tested q x ≡ b → cond b (weigh where_tested (combined x rest)) 0 ≡ weigh where_tested (combined x rest)
  tested_or_none x rest true e = refl
  tested_or_none x rest false e = sym (none_tested x rest e)

  pub staged : (rest : List (List Combo)) (xs : List Combo) → weigh where_tested (fold (stage q) xs rest) ≡ weigh (λ x. weigh where_tested (combined x rest)) xs
  staged [] xs = weigh-same _ _ (λ x. sym (add-zero (where_tested x))) xs
  staged (ys ∷ rest) xs =
      staged rest (stage q xs ys)
      ∙ weigh-flat_map _ (λ x. filter (is_tested q) (map (λ y. x ++ y) ys)) xs
      ∙ weigh-same _ _ (λ x.
      weigh-filter _ (is_tested q) (map (λ y. x ++ y) ys)
      ∙ weigh-map _ (λ y. x ++ y) ys
      ∙ weigh-same _ _ (λ y. tested_or_none (x ++ y) rest (is_tested q (x ++ y)) refl) ys
      ∙ sym (weigh-flat_map _ (λ y. combined (x ++ y) rest) ys)) xs

  twice : (b : Bool) (n : ℕ) → cond b (cond b n 0) 0 ≡ cond b n 0
  twice true n = refl
  twice false n = refl

  -- every member is tested
  pub all_tested : (rest : List (List Combo)) (xs : List Combo) → weigh where_tested xs ≡ weigh f xs → weigh where_tested (fold (stage q) xs rest) ≡ weigh f (fold (stage q) xs rest)
  all_tested [] xs e = e
  all_tested (ys ∷ rest) xs e = all_tested rest (stage q xs ys) (
      weigh-flat_map _ (λ x. filter (is_tested q) (map (λ y. x ++ y) ys)) xs
      ∙ weigh-same _ _ (λ x.
      weigh-filter _ (is_tested q) (map (λ y. x ++ y) ys)
      ∙ weigh-same _ _ (λ y. twice (is_tested q y) (f y)) (map (λ y. x ++ y) ys)
      ∙ sym (weigh-filter f (is_tested q) (map (λ y. x ++ y) ys))) xs
      ∙ sym (weigh-flat_map f (λ x. filter (is_tested q) (map (λ y. x ++ y) ys)) xs))

-- the equalities that decide are a part of the condition
module _ (a : Reading) where
  abbrev hold : Term × Term → Bool
  hold p = may_equal (a p.0) (a p.1)

  sides_hold : (x : Condition) → is_true a x ≡ true → list_all hold (sides_of x) ≡ true
  sides_hold (AnyOf xs) e = refl
  sides_hold (AllOf xs) e = refl
  sides_hold (NotOf x) e = refl
  sides_hold (Compares s Eq t) e = and_from (hold (s, t)) true (one (a s) (a t) e) refl
    where
      one : (o p : Option Text) → compares_values Eq o p ≡ true → may_equal o p ≡ true
      one None p e = refl
      one (Some u) None e = refl
      one (Some u) (Some w) e = e
  sides_hold (Compares s Ne t) e = refl
  sides_hold (Compares s Lt t) e = refl
  sides_hold (Compares s Le t) e = refl
  sides_hold (Compares s Gt t) e = refl
  sides_hold (Compares s Ge t) e = refl

  both_hold : (ps rest : List (Term × Term)) → list_all hold ps ≡ true → list_all hold rest ≡ true → list_all hold (ps ++ rest) ≡ true
  both_hold ps rest e f = list_all-append hold ps rest ∙ and_from (list_all hold ps) (list_all hold rest) e f

  each_hold : (xs : Conditions) → each_is_true a xs ≡ true → list_all hold (flat_map sides_of (listed xs)) ≡ true
  each_hold none e = refl
  each_hold (more x xs) e =
      both_hold (sides_of x) (flat_map sides_of (listed xs)) (sides_hold x (and_left (is_true a x) (each_is_true a xs) e))
      (each_hold xs (and_right (is_true a x) (each_is_true a xs) e))

  pub equalities_hold : (o : Option Condition) → meets a o ≡ true → list_all hold (equalities o) ≡ true
  equalities_hold None e = refl
  equalities_hold (Some (AnyOf xs)) e = refl
  equalities_hold (Some (AllOf xs)) e = each_hold xs e
  equalities_hold (Some (NotOf x)) e = refl
  equalities_hold (Some (Compares s op t)) e = both_hold (sides_of (Compares s op t)) [] (sides_hold (Compares s op t) e) refl

-- so where the condition is tested too, the stages' test is that of the columns
pub tested_counts : (q : Query) (x : Combo) (n : ℕ) → cond (is_tested q x) (cond (counts q (read q x)) n 0) 0 ≡ cond (is_consistent q x) (cond (counts q (read q x)) n 0) 0
unfolding counts
tested_counts q x n = one (counts q (read q x)) refl
  where
    one : (b : Bool) → counts q (read q x) ≡ b → cond (is_tested q x) (cond b n 0) 0 ≡ cond (is_consistent q x) (cond b n 0) 0
    one true e =
        let h = equalities_hold (read q x) q.condition (and_right (are_defined (read q x) (terms_of_view q)) (meets (read q x) q.condition) e) in
        ap (λ b. cond (is_consistent q x && b) n 0) h ∙ and_true (is_consistent q x)
      where
        and_true : (b : Bool) → cond (b && true) n 0 ≡ cond b n 0
        and_true true = refl
        and_true false = refl
    one false e = none_none (is_tested q x) ∙ sym (none_none (is_consistent q x))
      where
        none_none : (b : Bool) → ◌≡◌ {A = ℕ} (cond b 0 0) 0
        none_none true = refl
        none_none false = refl
