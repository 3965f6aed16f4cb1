-- What is counted is within the pairs of a walk of the change, also where the walk does not come to its end.
use Rattle.std.proofs.Common.{◌≡◌, ◌≤◌, ℕ, suc, List, [], ◌∷◌, ◌++◌, true, false, length, map, arith, refl, ap, sym, ◌∙◌, subst}
use Rattle.std.specs.List.{AllZip, AllByRecursion}
use Rattle.std.proofs.lemmas.List.{length-map}
use Rattle.ss_text.specs.Texts.{Row}
use Rattle.schema_model.specs.Catalogue.{CatalogueValue}
use Rattle.view_def.specs.Query.{Query}
use Rattle.view_def.specs.Profile.{IsViewOfProfile}
use Rattle.operator_law.specs.declared.delta.Signed.{Signed}
use Rattle.operator_law.specs.Bags.{MovesBag, all_signed}
use Rattle.operator_law.proofs.SignedRows.{come-append, go-append, come-up, go-up, come-down, go-down}
use Rattle.join_delta.specs.Joins.{JoinValue}
use Rattle.schema_delta.specs.Net.{SameNet, IsNet}
use Rattle.schema_delta.specs.declared.spec.FlatSpec.{FlatSpec}
use Rattle.schema_delta.specs.Flat.{flat}
use Rattle.plan_law.specs.Columns.{header}
use Rattle.plan_law.specs.Chain.{Joint, Sides, Keeps}
use Rattle.plan_law.specs.PlanRows.{specs_from, plan_joints, first_rows, further_rows}
use Rattle.plan_law.specs.PlanMoves.{FlatMoved, PlanKeeps, first_moves, further_moves}
use Rattle.plan_form.specs.Bases.{BaseValue, bases_from}
use Rattle.plan_translate.specs.ChainStages.{joint_in, sides_in}
use Rattle.plan_translate.specs.ChainCost.{CostsWalk}
use Rattle.plan_translate.proofs.ChainNets.{net_there}
use Rattle.plan_translate.proofs.ChainWhole.{walk_there}
use Rattle.plan_translate.specs.Read.{is_read}
use Rattle.plan_translate.specs.Parts.{bases_of, joint_with, joints_with, each_passing}
use Rattle.plan_translate.specs.Plans.{JoinsStand}
use Rattle.plan_translate.specs.Walked.{CostsOver}
use Rattle.plan_translate.specs.Costs.{CountsWalk}
use Rattle.plan_translate.proofs.Bases.{first_base, plan_joints_with, specs_of}
use Rattle.plan_translate.proofs.Each.{zip_long}
use Rattle.plan_translate.proofs.OwnMoves.{own_in, own_split, each_net, each_long}
use Rattle.plan_translate.proofs.Moving.{kept_over, counts_walk}

-- a walk through joins that are filled over the catalogue, and through those that are kept
pub anew_costs : (c : CatalogueValue) (q : Query) (joins : List JoinValue) (first : List Signed) (further : List (List Signed)) (old new : ℕ) → map joint_in joins ≡ plan_joints q q.decls → PlanKeeps c q (map sides_in joins)
    → CostsWalk (map joint_in joins) (map sides_in joins) first further old new → CostsOver c q first further old new
anew_costs c q joins first further old new are keeps walk =
    record { sides = map sides_in joins; keeps = keeps; walk = subst (λ (js : List Joint). CostsWalk js (map sides_in joins) first further old new) are walk }

pub kept_costs : (c : CatalogueValue) (q : Query) (joins : List JoinValue) (first : List Signed) (further : List (List Signed)) (old new : ℕ) → map joint_in joins ≡ plan_joints q q.decls
    → (is_read q ≡ true → length (plan_joints q q.decls) ≡ 1) → (is_read q ≡ true → first ≡ []) → CostsWalk (map joint_in joins) (map sides_in joins) first further old new → JoinsStand c q (map sides_in joins)
    → CostsOver c q first further old new
kept_costs c q joins first further old new are one none walk stand =
    let over = kept_over c q joins first further walk.moves walk.out old new are one none walk.walks walk.within stand in
    record { sides = over.sides; keeps = over.keeps; walk = record { moves = walk.moves; out = walk.out; walks = over.walks; nets = walk.nets; within = over.within } }

-- where no step is taken there is a walk all the same
keeps_long : (js : List Joint) (xs : List Row) (yss : List (List Row)) (ks : List Sides) → Keeps js xs yss ks → length js ≤ length ks
keeps_long [] xs yss ks keeps = omega arith
keeps_long (j ∷ js) xs [] ks keeps = absurd keeps
keeps_long (j ∷ js) xs (ys ∷ yss) [] keeps = absurd keeps
keeps_long (j ∷ js) xs (ys ∷ yss) (k ∷ ks) keeps = omega (arith, keeps_long js _ yss ks keeps.2)

module _ (c : CatalogueValue) (q : Query) (kept : List Sides) (stand : JoinsStand c q kept) where
  pub over_there : (first : List Signed) (further : List (List Signed)) → length further ≡ length (plan_joints q q.decls) → (n : ℕ) → CostsOver c q first further n n
  over_there first further long n = record {
    sides = stand.sides;
    keeps = stand.keeps;
    walk = walk_there (plan_joints q q.decls) stand.sides first further (keeps_long (plan_joints q q.decls) (first_rows c q q.decls) (further_rows c q q.decls) stand.sides stand.keeps) (omega (arith, long)) n;
  }

nets_there : (mss : List (List Signed)) → (nets : List (List Signed)) × AllZip SameNet mss nets × AllByRecursion IsNet nets
nets_there [] = ([], tt, tt)
nets_there (ms ∷ mss) =
    let net = net_there ms in
    let rest = nets_there mss in
    (net.0 ∷ rest.0, (net.1, rest.1), (net.2, rest.2))

module _ (c c' : CatalogueValue) (q : Query) (profile : IsViewOfProfile q) (kept : List Sides) (stand : JoinsStand c q kept) where
  pub deltas_there : (deltas : List (List Signed)) → FlatMoved c c' q deltas → (n : ℕ) → CountsWalk c c' q n n
  deltas_there deltas moved n =
      let b = first_base q profile in
      let nets = nets_there deltas in
      let tests = map own_in (bases_of q) in
      let first = first_moves q q.decls nets.0 in
      let further = further_moves q q.decls nets.0 in
      let bases_long : length (bases_of q) ≡ suc (length (bases_from q (header q 0 b.first) 1 b.rest)) = ap length b.bases in
      let specs_long : length (bases_of q) ≡ length (specs_from q 0 q.decls) = sym (length-map (bases_of q) (λ (b : BaseValue). b.spec)) ∙ ap length (specs_of q q.decls [] 0) in
      let nets_long : length nets.0 ≡ length (bases_of q) = zip_long SameNet deltas nets.0 nets.1 ∙ zip_long (λ s ms. MovesBag (flat c s) ms (flat c' s)) (specs_from q 0 q.decls) deltas moved ∙ sym specs_long in
      let tests_long : length tests ≡ length (bases_of q) = length-map (bases_of q) own_in in
      let are : each_passing tests nets.0 ≡ first ∷ further = own_split q b tests refl nets.0 (omega (arith, nets_long, bases_long)) in
      let net : AllByRecursion IsNet (first ∷ further) = subst (AllByRecursion IsNet) are (each_net tests nets.0 nets.2) in
      let own_long : length (first ∷ further) ≡ length tests = sym (ap length are) ∙ each_long tests nets.0 (omega (arith, nets_long, tests_long)) in
      let joints : length (plan_joints q q.decls) ≡ length (bases_from q (header q 0 b.first) 1 b.rest) =
      ap length (sym (plan_joints_with q profile)) ∙ ap length (ap joints_with b.bases) ∙ length-map (bases_from q (header q 0 b.first) 1 b.rest) joint_with in
      let over = over_there c q kept stand first further (omega (arith, own_long, tests_long, bases_long, joints)) n in
      counts_walk c c' q deltas nets.0 first further nets.1 refl refl moved n n net.0 net.1 over

  -- all flat rows go, and all of the other catalogue come
  all_move : (xs ys : List Row) → MovesBag xs (all_signed false xs ++ all_signed true ys) ys
  all_move xs ys f =
      omega (
        arith,
        come-append f (all_signed false xs) (all_signed true ys),
        go-append f (all_signed false xs) (all_signed true ys),
        come-down f xs,
        go-down f xs,
        come-up f ys,
        go-up f ys,
      )

  flat_there : (ss : List FlatSpec) → (deltas : List (List Signed)) × AllZip (λ s ms. MovesBag (flat c s) ms (flat c' s)) ss deltas
  flat_there [] = ([], tt)
  flat_there (s ∷ ss) =
      let rest = flat_there ss in
      ((all_signed false (flat c s) ++ all_signed true (flat c' s)) ∷ rest.0, (all_move (flat c s) (flat c' s), rest.1))

  pub change_there : (n : ℕ) → CountsWalk c c' q n n
  change_there n = let all = flat_there (specs_from q 0 q.decls) in deltas_there all.0 all.1 n
