use Rattle.std.proofs.Common.{◌≡◌, ◌∙◌, sym}
use Rattle.std.specs.declared.cmp.Ordering.TheVariants.{Equal}
use Rattle.ss_text.specs.Texts.{text_cmp}
use Rattle.fact_tables.proofs.FactLemmas.{by_table}
use Rattle.fact_tables.proofs.fact.FactOrd.cmp.Goals as goal

pub returns-in-Equal : goal.returns-in-Equal
returns-in-Equal t c =
    let same : text_cmp c.args.self.now.label c.args.other.now.label ≡ Equal = rw (← c.self.view_is, ← c.other.view_is) (sym c.cmp.ensures ∙ c.in-Equal.is) in
    by_table c.args.self.now c.args.other.now _ same c.order_in_table.ensures
