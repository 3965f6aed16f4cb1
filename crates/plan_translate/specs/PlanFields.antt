-- What the fields of a plan are to each other.
use Rattle.std.specs.Prelude.{◌≡◌, List, map, Some, option_map}
use Rattle.view_def.specs.Query.{Query, query_of}
use Rattle.view_def.specs.Profile.{IsViewOfProfile}
use Rattle.operator_law.specs.declared.delta.Signed.{Signed}
use Rattle.join_delta.specs.Joins.{JoinValue}
use Rattle.plan_law.specs.PlanRows.{specs_from, plan_joints}
use Rattle.plan_form.specs.Bases.{BaseValue}
use Rattle.plan_form.specs.Forms.{IsOutputOf}
use Rattle.plan_translate.specs.ChainStages.{joint_in, sides_in, side_moves}
use Rattle.plan_translate.specs.declared.plan.Plan.TheInside.{Inside}
use Rattle.plan_translate.specs.Read.{is_read}
use Rattle.plan_translate.specs.Parts.{bases_of}
use Rattle.plan_translate.specs.Plans.{PlanValue}

abbrev pub query_inside : Inside → Query
query_inside p = query_of p.view.value

abbrev pub seen : Inside → PlanValue
seen p = record {
  view = p.view.value;
  sides = map sides_in p.joins.items;
  waiting = option_map (λ w. map side_moves w.value.items) p.waiting;
}

-- specifications, tests, joins and cells are those of the view, it is known whether rows are read, and what waits does so in
-- each join
pub record IsPlan (p : Inside) : Type 0 where
  pub profile : IsViewOfProfile (query_inside p)
  pub specs : p.specs.items ≡ specs_from (query_inside p) 0 (query_inside p).decls
  pub reads : p.reads ≡ is_read (query_inside p)
  pub tests : map (λ t. t.items) p.tests.items ≡ map (λ (b : BaseValue). b.own) (bases_of (query_inside p))
  pub joints : map joint_in p.joins.items ≡ plan_joints (query_inside p) (query_inside p).decls
  pub output : IsOutputOf (query_inside p) p.output
  pub ready : (ms : List (List Signed × List Signed)) → option_map (λ w. w.value.items) p.waiting ≡ Some ms → map (λ (j : JoinValue). j.waiting) p.joins.items ≡ map Some ms
