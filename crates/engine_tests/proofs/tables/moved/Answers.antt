use Rattle.std.proofs.Common.{sym, subst}
use Rattle.operator_law.specs.Bags.{MovesBag}
use Rattle.engine_tests.proofs.tables.moved.Goals as goal

pub reserve-requires : goal.reserve-requires
reserve-requires g c =
    let r = c.requires in
    let told = c.in-Ok.ensures.lines c.args.shape.now c.args.rows.now.items c.args.after.items r.keeps r.form.moves in
    (c.args.shape.now, c.args.rows.now.items, c.args.after.items, r, record { few = r.form.few; legal = told.legal; clean = told.clean; bear = r.form.bear_new })

pub returns-in_ok-ready-in-Ok : goal.returns-in_ok-ready-in-Ok
returns-in_ok-ready-in-Ok g c =
    let shape = c.args.shape.now in
    let old = c.args.rows.now.items in
    let new = c.args.after.items in
    let r = c.requires in
    let told = c.in-Ok.ensures.lines shape old new r.keeps r.form.moves in
    let ready = c.in_ok-ready-in-Ok.ensures in
    c.commit.ensures shape old new (ready.keeps shape old r.keeps) (subst (λ ms. MovesBag old ms new) (sym ready.made) r.form.moves) (record { few = r.form.few; legal = told.legal; clean = told.clean; bear = r.form.bear_new })
