-- What fills a plan.
use Rattle.std.proofs.Common.{◌≡◌, ◌+◌, ◌≤◌, List, [], ◌∷◌, Vec, length, map, get_or, drop, Bool, true, cond, None, refl, ap, sym, ◌∙◌, subst, arith}
use Rattle.std.specs.Global.{Global}
use Rattle.std.proofs.lemmas.List.{length-map}
use Rattle.ss_text.specs.Texts.{Row}
use Rattle.schema_model.specs.Catalogue.{CatalogueValue}
use Rattle.schema_delta.specs.declared.spec.FlatSpec.{FlatSpec}
use Rattle.schema_delta.specs.Flat.{flat}
use Rattle.view_def.specs.Query.{Query}
use Rattle.join_delta.specs.Joins.{JoinValue}
use Rattle.plan_law.specs.Chain.{Joint, Sides, Keeps}
use Rattle.plan_law.specs.PlanRows.{plan_joints, first_rows, further_rows, specs_from}
use Rattle.plan_form.specs.declared.base.Equal.{Equal}
use Rattle.plan_translate.specs.ChainStages.{joint_in, sides_in}
use Rattle.plan_translate.specs.ChainFills.{Fills}
use Rattle.plan_translate.specs.declared.plan.Plan.TheInside.{Inside}
use Rattle.plan_translate.specs.Read.{is_read, left_side}
use Rattle.plan_translate.specs.Parts.{own_tests}
use Rattle.plan_translate.specs.Listed.{rows_passing, own_listed}
use Rattle.plan_translate.specs.Plans.{PlanValue, query_in, JoinsStand}
use Rattle.plan_translate.specs.PlanFields.{query_inside, seen, IsPlan}
use Rattle.plan_translate.proofs.OwnRows.{listed_first, listed_long}
use Rattle.plan_translate.proofs.Moving.{tests_long, joins_long, one_join}

-- the left side of one join
one_stands : (js : List Joint) (xs : List Row) (yss : List (List Row)) → length js ≡ 1 → length yss ≡ 1 → (ks : List Sides) × Keeps js xs yss ks × ((record { left = xs; right = [] }) ∷ [] ≡ map left_side ks)
one_stands [] xs yss one each = absurd (omega (arith, one))
one_stands (j ∷ i ∷ js) xs yss one each = absurd (omega (arith, one))
one_stands (j ∷ []) xs [] one each = absurd (omega (arith, each))
one_stands (j ∷ []) xs (ys ∷ yss) one each = ((record { left = xs; right = ys }) ∷ [], (λ f. refl, λ f. refl, tt), refl)

left_stands : (c : CatalogueValue) (q : Query) → is_read q ≡ true → length (plan_joints q q.decls) ≡ 1 → length (further_rows c q q.decls) ≡ 1 → JoinsStand c q ((record { left = first_rows c q q.decls; right = [] }) ∷ [])
left_stands c q read one each =
    let all = one_stands (plan_joints q q.decls) (first_rows c q q.decls) (further_rows c q q.decls) one each in
    record { sides = all.0; keeps = all.1; kept_are = all.2 ∙ sym (ap (λ (b : Bool). cond b (map left_side all.0) all.0) read) }

-- a list by its first element
by_first : {X : Type 0} (xs : List X) (x : X) → 1 ≤ length xs → x ≡ get_or xs 0 x → xs ≡ x ∷ drop 1 xs
by_first [] x some at = absurd (omega (arith, some))
by_first (y ∷ xs) x some at = ap (λ z. z ∷ xs) (sym at)

by_one : {X : Type 0} (xs : List X) (x : X) → length xs ≡ 1 → x ≡ get_or xs 0 x → xs ≡ x ∷ []
by_one [] x one at = absurd (omega (arith, one))
by_one (y ∷ []) x one at = ap (λ z. z ∷ []) (sym at)
by_one (y ∷ z ∷ xs) x one at = absurd (omega (arith, one))

module _ (i : Inside) (is : IsPlan i) where
  abbrev q : Query
  q = query_inside i

  pub specs_long : length i.specs.items ≡ length i.tests.items
  specs_long = ap length is.specs ∙ sym (tests_long i is)

  pub some_specs : length i.specs.items ≡ length i.joins.items + 1
  some_specs = specs_long ∙ joins_long i is

  module _ (c : CatalogueValue) where
    listed_here : own_listed c i.specs.items (own_tests i.tests.items) ≡ first_rows c q q.decls ∷ further_rows c q q.decls
    listed_here =
        ap (λ (ss : List FlatSpec). own_listed c ss (own_tests i.tests.items)) is.specs
        ∙ ap (λ (ts : List (List Equal)). own_listed c (specs_from q 0 q.decls) ts) is.tests
        ∙ listed_first c q is.profile

    further_long : length (further_rows c q q.decls) ≡ length i.joins.items
    further_long =
        let tests : length (own_tests i.tests.items) ≡ length i.tests.items = length-map i.tests.items _ in
        omega (arith, ap length listed_here, listed_long c i.specs.items (own_tests i.tests.items) (specs_long ∙ sym tests), tests, joins_long i is)

    module _ (first : List Row) (further : List (List Row)) (listed : first ∷ further ≡ own_listed c i.specs.items (own_tests i.tests.items)) where
      first_is : first ≡ first_rows c q q.decls
      first_is = ap (λ (l : List (List Row)). get_or l 0 []) (listed ∙ listed_here)

      further_is : further ≡ further_rows c q q.decls
      further_is = ap (λ (l : List (List Row)). drop 1 l) (listed ∙ listed_here)

      pub each_further : length further ≡ length i.joins.items
      each_further = ap length further_is ∙ further_long

      filled_here : (js : List JoinValue) → Fills (map joint_in i.joins.items) first further js → Fills (plan_joints q q.decls) (first_rows c q q.decls) (further_rows c q q.decls) js
      filled_here js fills =
          subst (λ (xs : List Row). Fills (plan_joints q q.decls) xs (further_rows c q q.decls) js) first_is
          (subst (λ (yss : List (List Row)). Fills (plan_joints q q.decls) first yss js) further_is
          (subst (λ (ks : List Joint). Fills ks first further js) is.joints fills))

      -- as the value says it
      pub filled_in : (p : PlanValue) → seen i ≡ p → (js : List JoinValue) → Fills (map joint_in i.joins.items) first further js
          → Fills (plan_joints (query_in p) (query_in p).decls) (first_rows c (query_in p) (query_in p).decls) (further_rows c (query_in p) (query_in p).decls) js
      filled_in p view js fills =
          subst (λ (p : PlanValue). Fills (plan_joints (query_in p) (query_in p).decls) (first_rows c (query_in p) (query_in p).decls) (further_rows c (query_in p) (query_in p).decls) js) view (filled_here js fills)

    -- the join of a plan that reads rows
    module _ (read : is_read q ≡ true) (spec : FlatSpec) (test : Vec Equal Global) (old new : JoinValue) (spec_at : spec ≡ get_or i.specs.items 0 spec) (test_at : test ≡ get_or i.tests.items 0 test)
        (old_at : old ≡ get_or i.joins.items 0 old) (made : new ≡ record { left_key = old.left_key; right_key = old.right_key; left = rows_passing test.items (flat c spec); right = []; waiting = None }) where
      first_listed : rows_passing test.items (flat c spec) ≡ first_rows c q q.decls
      first_listed =
          let specs : i.specs.items ≡ spec ∷ drop 1 i.specs.items = by_first i.specs.items spec (omega (arith, some_specs)) spec_at in
          let tests : i.tests.items ≡ test ∷ drop 1 i.tests.items = by_first i.tests.items test (omega (arith, joins_long i is)) test_at in
          let all : own_listed c (spec ∷ drop 1 i.specs.items) (own_tests (test ∷ drop 1 i.tests.items)) ≡ first_rows c q q.decls ∷ further_rows c q q.decls =
          sym (ap (λ (ss : List FlatSpec). own_listed c ss (own_tests i.tests.items)) specs ∙ ap (λ (ts : List (Vec Equal Global)). own_listed c (spec ∷ drop 1 i.specs.items) (own_tests ts)) tests) ∙ listed_here in
          ap (λ (l : List (List Row)). get_or l 0 []) all

      left_joints_here : map joint_in (new ∷ []) ≡ plan_joints q q.decls
      left_joints_here = ap (λ (j : JoinValue). joint_in j ∷ []) made ∙ sym (ap (map joint_in) (by_one i.joins.items old (one_join i is read) old_at)) ∙ is.joints

      left_stand_here : JoinsStand c q (map sides_in (new ∷ []))
      left_stand_here =
          let one : length i.joins.items ≡ 1 = one_join i is read in
          let sides : map sides_in (new ∷ []) ≡ (record { left = first_rows c q q.decls; right = [] }) ∷ [] =
          ap (λ (j : JoinValue). sides_in j ∷ []) made ∙ ap (λ (xs : List Row). (record { left = xs; right = [] }) ∷ []) first_listed in
          subst (JoinsStand c q) (sym sides) (left_stands c q read (sym (ap length is.joints) ∙ length-map i.joins.items joint_in ∙ one) (further_long ∙ one))

    -- as the value says it
    module _ (p : PlanValue) (view : seen i ≡ p) (read : is_read (query_in p) ≡ true) (spec : FlatSpec) (test : Vec Equal Global) (old new : JoinValue) (spec_at : spec ≡ get_or i.specs.items 0 spec) (test_at : test ≡ get_or i.tests.items 0 test)
        (old_at : old ≡ get_or i.joins.items 0 old) (made : new ≡ record { left_key = old.left_key; right_key = old.right_key; left = rows_passing test.items (flat c spec); right = []; waiting = None }) where
      read_here : is_read q ≡ true
      read_here = ap (λ (p : PlanValue). is_read (query_in p)) view ∙ read

      pub left_joints : map joint_in (new ∷ []) ≡ plan_joints (query_in p) (query_in p).decls
      left_joints = left_joints_here read_here spec test old new spec_at test_at old_at made ∙ ap (λ (p : PlanValue). plan_joints (query_in p) (query_in p).decls) view

      pub left_stand : JoinsStand c (query_in p) (map sides_in (new ∷ []))
      left_stand = subst (λ (p : PlanValue). JoinsStand c (query_in p) (map sides_in (new ∷ []))) view (left_stand_here read_here spec test old new spec_at test_at old_at made)
