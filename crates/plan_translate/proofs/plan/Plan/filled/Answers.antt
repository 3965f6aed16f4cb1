use Rattle.std.proofs.Common.{◌≡◌, ◌∷◌, List, Vec, map, length, arith, ap, ◌∙◌, subst}
use Rattle.std.specs.Global.{Global}
use Rattle.std.proofs.lemmas.List.{length-map}
use Rattle.ss_text.specs.Texts.{Row}
use Rattle.join_delta.specs.Joins.{JoinValue}
use Rattle.plan_translate.specs.ChainStages.{joint_in}
use Rattle.plan_translate.specs.ChainFills.{Fills, rows_in}
use Rattle.plan_translate.specs.Parts.{own_tests}
use Rattle.plan_translate.specs.Listed.{own_listed}
use Rattle.plan_translate.proofs.PlanFilled.{specs_long, each_further, filled_in}
use Rattle.plan_translate.proofs.plan.Plan.filled.Goals as goal

pub listed-requires-clause-each : goal.listed-requires-clause-each
listed-requires-clause-each c = omega (arith, ap length c.deref.ensures.value, ap length c.deref-2.ensures.value, specs_long c.self.inside c.self.invariant)

pub filled-requires : goal.filled-requires
filled-requires c =
    let i = c.self.inside in
    let d = c.args.catalogue.now.databases in
    let first : List Row = c.in_ok-first.first.items in
    let further : List (List Row) = rows_in c.in_ok-first.further.items in
    let listed : first ∷ further ≡ own_listed d i.specs.items (own_tests i.tests.items) =
    c.in_ok-first.ensures ∙ ap (λ ss. own_listed d ss (own_tests c.deref-2.result.now)) c.deref.ensures.value ∙ ap (λ ts. own_listed d i.specs.items (own_tests ts)) c.deref-2.ensures.value in
    omega (arith, each_further i c.self.invariant d first further listed, ap length c.deref-3.ensures.value, length-map c.in_ok-first.further.items (λ (v : Vec Row Global). v.items))

pub returns-clause-keeps : goal.returns-clause-keeps
returns-clause-keeps c =
    let i = c.self.inside in
    let p = c.args.self.now in
    let d = c.args.catalogue.now.databases in
    let first : List Row = c.in_ok-first.first.items in
    let further : List (List Row) = rows_in c.in_ok-first.further.items in
    let joins : List JoinValue = c.in_ok-joins.joins.items in
    let listed : first ∷ further ≡ own_listed d i.specs.items (own_tests i.tests.items) =
    c.in_ok-first.ensures ∙ ap (λ ss. own_listed d ss (own_tests c.deref-2.result.now)) c.deref.ensures.value ∙ ap (λ ts. own_listed d i.specs.items (own_tests ts)) c.deref-2.ensures.value in
    let fills = subst (λ (js : List JoinValue). Fills (map joint_in js) first further joins) c.deref-3.ensures.value c.in_ok-joins.ensures in
    let all = filled_in i c.self.invariant d first further listed p c.self.view_is joins fills in
    all.keeps
