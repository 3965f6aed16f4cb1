use Rattle.std.proofs.Common.{◌∙◌, sym}
use Rattle.fact_tables.proofs.FactLemmas.{by_key, by_cell}
use Rattle.fact_tables.proofs.fact.Fact.order_in_table.Goals as goal

pub returns-in-Equal : goal.returns-in-Equal
returns-in-Equal t c =
    let a = c.self.inside in
    let b = c.other.inside in
    rw (← c.self.view_is, ← c.other.view_is) (by_cell a.label b.label a.key b.key (t.C.FactCell.cell a.cell) (t.C.FactCell.cell b.cell) _ (sym c.cmp.ensures ∙ c.in-Equal.is) c.order.ensures)

pub returns-in_default : goal.returns-in_default
returns-in_default t c =
    let a = c.self.inside in
    let b = c.other.inside in
    rw (← c.self.view_is, ← c.other.view_is) (by_key a.label b.label a.key b.key (t.C.FactCell.cell a.cell) (t.C.FactCell.cell b.cell) _ c.cmp.ensures c.in_default.not-Equal)
