use Rattle.std.proofs.Common.{sym, subst, ◌∷◌, []}
use Rattle.view_engine.specs.Forms.{CanAddTables}
use Rattle.view_engine.proofs.OneForms.{can_add_one, kept_one}
use Rattle.view_engine.proofs.tables.ViewTables.add.Goals as goal

pub add-requires : goal.add-requires
add-requires g c =
    let w = c.in-OneOfRows.whole in
    let r = c.requires in
    let h = subst (λ v. CanAddTables r.0 v (c.args.fact.now ∷ []) r.1) c.in-OneOfRows.is r.2 in
    (r.1, can_add_one r.0 w.label w.inner r.1 h.keeps c.args.fact.now c.in_ok-key.key c.in_ok-cell.cell c.in_ok-key.ensures c.in_ok-cell.ensures h.form.0 h.can)

pub add-requires-in-OneOfCells : goal.add-requires-in-OneOfCells
add-requires-in-OneOfCells g c =
    let w = c.in-OneOfCells.whole in
    let r = c.requires in
    let h = subst (λ v. CanAddTables r.0 v (c.args.fact.now ∷ []) r.1) c.in-OneOfCells.is r.2 in
    (r.1, can_add_one r.0 w.label w.inner r.1 h.keeps c.args.fact.now c.in_ok-key.key c.in_ok-cell.cell c.in_ok-key.ensures c.in_ok-cell.ensures h.form.0 h.can)

pub returns-in_ok-add-in-OneOfRows : goal.returns-in_ok-add-in-OneOfRows
returns-in_ok-add-in-OneOfRows g c = λ shape rows own.
    let w = c.in-OneOfRows.whole in
    let u = c.add.new.self in
    let made = c.in_ok-add-in-OneOfRows.ensures in
    let h = subst (λ v. CanAddTables shape v (c.args.fact.now ∷ []) rows) c.in-OneOfRows.is own in
    let can = can_add_one shape w.label w.inner rows h.keeps c.args.fact.now c.in_ok-key.key c.in_ok-cell.cell c.in_ok-key.ensures c.in_ok-cell.ensures h.form.0 h.can in
    kept_one shape w.label w.inner rows h.keeps c.args.fact.now c.in_ok-key.key c.in_ok-cell.cell c.in_ok-key.ensures c.in_ok-cell.ensures h.form.0 h.can u.label u.inner (sym made.label) (sym made.shape) (made.keeps rows can)

pub returns-in_ok-add-in-OneOfCells : goal.returns-in_ok-add-in-OneOfCells
returns-in_ok-add-in-OneOfCells g c = λ shape rows own.
    let w = c.in-OneOfCells.whole in
    let u = c.add-in-OneOfCells.new.self in
    let made = c.in_ok-add-in-OneOfCells.ensures in
    let h = subst (λ v. CanAddTables shape v (c.args.fact.now ∷ []) rows) c.in-OneOfCells.is own in
    let can = can_add_one shape w.label w.inner rows h.keeps c.args.fact.now c.in_ok-key.key c.in_ok-cell.cell c.in_ok-key.ensures c.in_ok-cell.ensures h.form.0 h.can in
    kept_one shape w.label w.inner rows h.keeps c.args.fact.now c.in_ok-key.key c.in_ok-cell.cell c.in_ok-key.ensures c.in_ok-cell.ensures h.form.0 h.can u.label u.inner (sym made.label) (sym made.shape) (made.keeps rows can)
