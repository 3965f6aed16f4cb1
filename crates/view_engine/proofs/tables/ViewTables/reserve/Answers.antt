use Rattle.std.proofs.Common.{subst}
use Rattle.view_engine.specs.Forms.{KeepsTables}
use Rattle.view_engine.proofs.OneForms.{bears_one, can_keep_one}
use Rattle.view_engine.proofs.EachForms.{wide_each, can_keep_each}
use Rattle.view_engine.proofs.tables.ViewTables.reserve.Goals as goal

pub reserve-requires-clause-change : goal.reserve-requires-clause-change
reserve-requires-clause-change c =
    let w = c.in-OneOfRows.whole in
    let r = c.requires in
    let keeps = subst (λ v. KeepsTables r.0 v r.1) c.in-OneOfRows.is r.3.keeps in
    bears_one r.0 w.label w.inner r.1 keeps c.args.facts.now r.2 r.3.form

pub reserve-requires-clause-fits : goal.reserve-requires-clause-fits
reserve-requires-clause-fits c =
    let w = c.in-OneOfRows.whole in
    let r = c.requires in
    let keeps = subst (λ v. KeepsTables r.0 v r.1) c.in-OneOfRows.is r.3.keeps in
    (r.1, r.2, keeps.keeps, r.3.form.moves, can_keep_one r.0 w.label w.inner r.1 keeps r.2 r.4)

pub reserve-requires-in-OneOfCells-clause-change : goal.reserve-requires-in-OneOfCells-clause-change
reserve-requires-in-OneOfCells-clause-change c =
    let w = c.in-OneOfCells.whole in
    let r = c.requires in
    let keeps = subst (λ v. KeepsTables r.0 v r.1) c.in-OneOfCells.is r.3.keeps in
    bears_one r.0 w.label w.inner r.1 keeps c.args.facts.now r.2 r.3.form

pub reserve-requires-in-OneOfCells-clause-fits : goal.reserve-requires-in-OneOfCells-clause-fits
reserve-requires-in-OneOfCells-clause-fits c =
    let w = c.in-OneOfCells.whole in
    let r = c.requires in
    let keeps = subst (λ v. KeepsTables r.0 v r.1) c.in-OneOfCells.is r.3.keeps in
    (r.1, r.2, keeps.keeps, r.3.form.moves, can_keep_one r.0 w.label w.inner r.1 keeps r.2 r.4)

pub reserve-requires-in-EachOfRows-clause-change : goal.reserve-requires-in-EachOfRows-clause-change
reserve-requires-in-EachOfRows-clause-change c =
    let w = c.in-EachOfRows.split in
    let r = c.requires in
    let keeps = subst (λ v. KeepsTables r.0 v r.1) c.in-EachOfRows.is r.3.keeps in
    wide_each r.0 w r.1 keeps c.args.facts.now r.2 r.3.form

pub reserve-requires-in-EachOfRows-clause-fits : goal.reserve-requires-in-EachOfRows-clause-fits
reserve-requires-in-EachOfRows-clause-fits c =
    let w = c.in-EachOfRows.split in
    let r = c.requires in
    let keeps = subst (λ v. KeepsTables r.0 v r.1) c.in-EachOfRows.is r.3.keeps in
    (r.1, r.2, keeps.keeps, r.3.form.moves, can_keep_each r.0 w r.1 keeps r.2 r.4)

pub reserve-requires-in-EachOfCells-clause-change : goal.reserve-requires-in-EachOfCells-clause-change
reserve-requires-in-EachOfCells-clause-change c =
    let w = c.in-EachOfCells.split in
    let r = c.requires in
    let keeps = subst (λ v. KeepsTables r.0 v r.1) c.in-EachOfCells.is r.3.keeps in
    wide_each r.0 w r.1 keeps c.args.facts.now r.2 r.3.form

pub reserve-requires-in-EachOfCells-clause-fits : goal.reserve-requires-in-EachOfCells-clause-fits
reserve-requires-in-EachOfCells-clause-fits c =
    let w = c.in-EachOfCells.split in
    let r = c.requires in
    let keeps = subst (λ v. KeepsTables r.0 v r.1) c.in-EachOfCells.is r.3.keeps in
    (r.1, r.2, keeps.keeps, r.3.form.moves, can_keep_each r.0 w r.1 keeps r.2 r.4)
