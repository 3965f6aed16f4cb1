-- A plan that keeps nothing stands for the catalogue that has nothing, so to fill it is a change.
use Rattle.std.proofs.Common.{◌≡◌, subst, ℕ, suc, List, [], ◌∷◌, ◌++◌, map, true, refl, ap, sym, ◌∙◌}
use Rattle.std.specs.List.{AllZip}
use Rattle.schema_model.specs.Catalogue.{CatalogueValue}
use Rattle.plan_law.specs.Kinds.{Term, Range}
use Rattle.plan_law.specs.Kinds.range
use Rattle.view_def.specs.Query.{Query}
use Rattle.view_def.specs.Profile.{IsViewOfProfile}
use Rattle.view_meaning.specs.Meaning.{facts}
use Rattle.schema_delta.specs.declared.spec.FlatSpec.{FlatSpec}
use Rattle.schema_delta.specs.Flat.{flat}
use Rattle.plan_law.specs.Columns.{header}
use Rattle.plan_law.specs.Chain.{Joint, Sides, chain, Keeps}
use Rattle.plan_law.specs.PlanRows.{specs_from, joints_from, rows_from, plan_joints, first_rows, further_rows, plan_rows, plan_header, row_facts}
use Rattle.plan_law.specs.PlanMoves.{FlatMoved, PlanKeeps, no_sides}
use Rattle.plan_law.specs.Laws.{IsFilled}
use Rattle.schema_model.proofs.Kept.{no_databases}
use Rattle.plan_law.proofs.First.{first_of}
use Rattle.operator_law.proofs.SignedRows.{all_come as rows_come}
use Rattle.plan_law.proofs.PlanLists.{rows_list_facts}
use Rattle.operator_law.specs.Bags.{weigh, all_signed, MovesBag, SameBag}

abbrev nothing_kept : Joint → Sides
nothing_kept j = record { left = []; right = [] }

keeps_nothing : (q : Query) (ds : List Range) (h : List Term) (k : ℕ) → Keeps (joints_from q h k ds) [] (rows_from [] q h k ds) (map nothing_kept (joints_from q h k ds))
keeps_nothing q [] h k = tt
keeps_nothing q (range.Alias j a ∷ ds) h k = keeps_nothing q ds h (suc k)
keeps_nothing q (d ∷ ds) h k = (λ f. refl, λ f. refl, keeps_nothing q ds (h ++ header q k d) (suc k))

lists_nothing : (q : Query) (ds : List Range) (h : List Term) (k : ℕ) → chain (joints_from q h k ds) [] (rows_from [] q h k ds) ≡ []
lists_nothing q [] h k = refl
lists_nothing q (range.Alias j a ∷ ds) h k = lists_nothing q ds h (suc k)
lists_nothing q (d ∷ ds) h k = lists_nothing q ds (h ++ header q k d) (suc k)

stands_for_nothing : (q : Query) → IsViewOfProfile q → PlanKeeps [] q (no_sides q)
stands_for_nothing q profile =
    let b = first_of q profile in
    subst (λ ds. Keeps (plan_joints q ds) (first_rows [] q ds) (further_rows [] q ds) (map nothing_kept (plan_joints q ds))) (sym b.all) (keeps_nothing q b.rest (header q 0 b.first) 1)

no_facts : (q : Query) → IsViewOfProfile q → SameBag (facts [] q) []
no_facts q profile f =
    let b = first_of q profile in
    let none : plan_rows [] q q.decls ≡ [] = subst (λ ds. plan_rows [] q ds ≡ []) (sym b.all) (lists_nothing q b.rest (header q 0 b.first) 1) in
    rows_list_facts [] q no_databases profile f ∙ ap (λ rows. weigh f (row_facts q (plan_header q) rows)) none

-- all flat rows come
all_come : (c : CatalogueValue) (q : Query) → FlatMoved [] c q (map (λ s. all_signed true (flat c s)) (specs_from q 0 q.decls))
all_come c q = each (specs_from q 0 q.decls)
  where
    each : (ss : List FlatSpec) → AllZip (λ s ms. MovesBag (flat [] s) ms (flat c s)) ss (map (λ s. all_signed true (flat c s)) ss)
    each [] = tt
    each (s ∷ ss) = (rows_come (flat c s), each ss)

pub filled : (c : CatalogueValue) (q : Query) → IsViewOfProfile q → IsFilled c q
filled c q profile = record { stands = stands_for_nothing q profile; facts = no_facts q profile; comes = all_come c q }
