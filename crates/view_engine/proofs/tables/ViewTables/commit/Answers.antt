use Rattle.std.proofs.Common.{sym, subst, ap, ◌∙◌, Some}
use Rattle.operator_law.specs.Bags.{MovesBag}
use Rattle.view_engine.specs.Forms.{KeepsTables, waiting_in, has_one}
use Rattle.view_engine.proofs.OneForms.{can_keep_one, keeps_on}
use Rattle.view_engine.proofs.EachForms.{can_keep_each, keeps_each}
use Rattle.view_engine.proofs.tables.ViewTables.commit.Goals as goal

pub one-requires : goal.one-requires
one-requires c = c.requires.one ∙ ap has_one c.in-OneOfRows.is

pub commit-requires : goal.commit-requires
commit-requires c = ap waiting_in (sym c.in-OneOfRows.is) ∙ c.requires.waits ∙ ap (λ ms. Some ms) (sym c.one.ensures)

pub returns-in-OneOfRows : goal.returns-in-OneOfRows
returns-in-OneOfRows c = λ shape old new k m can.
    let w = c.in-OneOfRows.whole in
    let s = c.commit.new.self in
    let keeps = subst (λ v. KeepsTables shape v old) c.in-OneOfRows.is k in
    let moves = subst (λ ms. MovesBag old ms new) (sym c.one.ensures) m in
    keeps_on shape w.label w.inner old keeps s.label s.inner c.commit.ensures.alike.0 c.commit.ensures.alike.1 new (c.commit.ensures.moved old new keeps.keeps moves (can_keep_one shape w.label w.inner old keeps new can))

pub one-requires-in-OneOfCells : goal.one-requires-in-OneOfCells
one-requires-in-OneOfCells c = c.requires.one ∙ ap has_one c.in-OneOfCells.is

pub commit-requires-in-OneOfCells : goal.commit-requires-in-OneOfCells
commit-requires-in-OneOfCells c = ap waiting_in (sym c.in-OneOfCells.is) ∙ c.requires.waits ∙ ap (λ ms. Some ms) (sym c.one-in-OneOfCells.ensures)

pub returns-in-OneOfCells : goal.returns-in-OneOfCells
returns-in-OneOfCells c = λ shape old new k m can.
    let w = c.in-OneOfCells.whole in
    let s = c.commit-in-OneOfCells.new.self in
    let keeps = subst (λ v. KeepsTables shape v old) c.in-OneOfCells.is k in
    let moves = subst (λ ms. MovesBag old ms new) (sym c.one-in-OneOfCells.ensures) m in
    keeps_on shape w.label w.inner old keeps s.label s.inner c.commit-in-OneOfCells.ensures.alike.0 c.commit-in-OneOfCells.ensures.alike.1 new (c.commit-in-OneOfCells.ensures.moved old new keeps.keeps moves (can_keep_one shape w.label w.inner old keeps new can))

pub each-requires : goal.each-requires
each-requires c = c.requires.one ∙ ap has_one c.in-EachOfRows.is

pub commit-requires-in-EachOfRows : goal.commit-requires-in-EachOfRows
commit-requires-in-EachOfRows c = ap waiting_in (sym c.in-EachOfRows.is) ∙ c.requires.waits ∙ ap (λ ms. Some ms) (sym c.each.ensures)

pub returns-in-EachOfRows : goal.returns-in-EachOfRows
returns-in-EachOfRows c = λ shape old new k m can.
    let w = c.in-EachOfRows.split in
    let s = c.commit-in-EachOfRows.new.self in
    let keeps = subst (λ v. KeepsTables shape v old) c.in-EachOfRows.is k in
    let moves = subst (λ ms. MovesBag old ms new) (sym c.each.ensures) m in
    keeps_each shape w old keeps s c.commit-in-EachOfRows.ensures.alike.shape new (c.commit-in-EachOfRows.ensures.moved old new keeps.keeps moves (can_keep_each shape w old keeps new can))

pub each-requires-in-EachOfCells : goal.each-requires-in-EachOfCells
each-requires-in-EachOfCells c = c.requires.one ∙ ap has_one c.in-EachOfCells.is

pub commit-requires-in-EachOfCells : goal.commit-requires-in-EachOfCells
commit-requires-in-EachOfCells c = ap waiting_in (sym c.in-EachOfCells.is) ∙ c.requires.waits ∙ ap (λ ms. Some ms) (sym c.each-in-EachOfCells.ensures)

pub returns-in-EachOfCells : goal.returns-in-EachOfCells
returns-in-EachOfCells c = λ shape old new k m can.
    let w = c.in-EachOfCells.split in
    let s = c.commit-in-EachOfCells.new.self in
    let keeps = subst (λ v. KeepsTables shape v old) c.in-EachOfCells.is k in
    let moves = subst (λ ms. MovesBag old ms new) (sym c.each-in-EachOfCells.ensures) m in
    keeps_each shape w old keeps s c.commit-in-EachOfCells.ensures.alike.shape new (c.commit-in-EachOfCells.ensures.moved old new keeps.keeps moves (can_keep_each shape w old keeps new can))
