use Rattle.std.proofs.Common.{◌≡◌, [], drop, map, ap, sym, ◌∙◌, subst}
use Rattle.view_def.specs.Query.{Query, query_of}
use Rattle.view_def.specs.Profile.{IsViewOfProfile}
use Rattle.plan_law.specs.PlanRows.{specs_from, plan_joints}
use Rattle.plan_form.specs.Bases.{BaseValue, base_value}
use Rattle.plan_form.specs.Forms.{IsOutputOf}
use Rattle.plan_translate.specs.ChainStages.{sides_in}
use Rattle.plan_translate.specs.Read.{reads_rows}
use Rattle.plan_translate.specs.Plans.{JoinsStand}
use Rattle.plan_translate.specs.Parts.{bases_of, fresh_join}
use Rattle.plan_translate.proofs.Bases.{specs_of, made_joints, made_sides, fresh_stand}
use Rattle.plan_translate.proofs.plan.translate.Goals as goal

pub invariant_of-result : goal.invariant_of-result
invariant_of-result c =
    let q : Query = query_of c.args.view.now in
    let q' : Query = query_of c.of.result.value in
    let same : q ≡ q' = ap query_of (sym c.of.ensures) in
    let form = c.in_ok-bases.ensures in
    let bases = c.in_ok-bases.field-0.bases.items in
    let of : map base_value bases ≡ bases_of q = form.bases in
    let made = c.in_ok-joins.ensures ∙ ap (λ bs. map fresh_join (drop 1 bs)) c.deref.ensures.value in
    let specs : c.in_ok-specs.specs.items ≡ specs_from q' 0 q'.decls =
    c.in_ok-specs.ensures.specs ∙ ap (map (λ (b : BaseValue). b.spec)) of ∙ specs_of q q.decls [] 0 ∙ ap (λ (q : Query). specs_from q 0 q.decls) same in
    record {
      profile = subst IsViewOfProfile same c.requires;
      specs = specs;
      reads = c.reads_rows-reads.ensures ∙ ap reads_rows (c.deref-2.ensures.value ∙ specs);
      tests = c.in_ok-specs.ensures.tests ∙ ap (map (λ (b : BaseValue). b.own)) of ∙ ap (λ (q : Query). map (λ (b : BaseValue). b.own) (bases_of q)) same;
      joints = made_joints q c.requires bases c.in_ok-joins.joins.items of made ∙ ap (λ (q : Query). plan_joints q q.decls) same;
      output = subst (λ (q : Query). IsOutputOf q c.in_ok-bases.field-0.output) same form.output;
      ready = λ ms e. absurd (cc e);
    }

pub returns-clause-fresh : goal.returns-clause-fresh
returns-clause-fresh c =
    let q : Query = query_of c.args.view.now in
    let q' : Query = query_of c.of.result.value in
    let same : q ≡ q' = ap query_of (sym c.of.ensures) in
    let form = c.in_ok-bases.ensures in
    let bases = c.in_ok-bases.field-0.bases.items in
    let of : map base_value bases ≡ bases_of q = form.bases in
    let made = c.in_ok-joins.ensures ∙ ap (λ bs. map fresh_join (drop 1 bs)) c.deref.ensures.value in
    let nothing : JoinsStand [] q (map sides_in c.in_ok-joins.joins.items) = subst (JoinsStand [] q) (sym (made_sides q c.requires bases c.in_ok-joins.joins.items of made)) (fresh_stand q c.requires) in
    subst (λ (q : Query). JoinsStand [] q (map sides_in c.in_ok-joins.joins.items)) same nothing
