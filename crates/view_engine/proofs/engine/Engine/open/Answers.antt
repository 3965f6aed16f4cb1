use Rattle.std.proofs.Common.{sym, ◌∙◌, map}
use Rattle.view_def.specs.Query.{query_of}
use Rattle.flow_law.specs.FactRows.{fact_row}
use Rattle.fact_tables.specs.Counted.{each_fact}
use Rattle.view_meaning.specs.Meaning.{facts, shape_of}
use Rattle.plan_law.specs.PlanMoves.{fact_rows}
use Rattle.view_engine.proofs.FactForms.{can_keep}
use Rattle.view_engine.proofs.Often.{same_rows}
use Rattle.view_engine.proofs.SameRows.{can_fill, same_moves, same_tables}
use Rattle.view_engine.proofs.Standing.{engine_stands}
use Rattle.view_engine.proofs.engine.Engine.open.Goals as goal

pub fill-requires-2 : goal.fill-requires-2
fill-requires-2 g c =
    let d = c.args.catalogue.now.databases in
    let q = query_of c.args.view.now in
    (shape_of q, can_fill d q c.requires.profile c.databases-databases.ensures.sound c.requires.allowed (each_fact c.args.facts) c.requires.facts c.in_ok-tables.tables c.in_ok-tables.ensures)

pub returns-clause-stands : goal.returns-clause-stands
returns-clause-stands g c =
    let d = c.args.catalogue.now.databases in
    let q = query_of c.args.view.now in
    let all = each_fact c.args.facts in
    let sound = c.databases-databases.ensures.sound in
    let fill = can_fill d q c.requires.profile sound c.requires.allowed all c.requires.facts c.in_ok-tables.tables c.in_ok-tables.ensures in
    let can = can_keep d q c.requires.profile sound c.requires.allowed in
    let moves = same_moves (map fact_row all) (fact_rows d q) (λ f. sym (same_rows (facts d q) all c.requires.facts f)) in
    let kept = same_tables (shape_of q) (map fact_row all) (fact_rows d q) moves can c.fill-2.new.self (c.in_ok-fill-2.ensures (shape_of q) fill) in
    engine_stands d c.args.view.now c.fill.new.self c.fill-2.new.self (c.in_ok-fill.ensures.view ∙ c.in_ok-plan.ensures.view) c.requires.profile c.in_ok-fill.ensures.stands kept c.requires.allowed
