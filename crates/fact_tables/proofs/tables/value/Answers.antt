use Rattle.std.proofs.Common.{[], Some, rules, refl}
use Rattle.std.specs.Prelude.{not}
use Rattle.std.proofs.lemmas.Fn.{always_returns_same}
use Rattle.ss_text.proofs.GroupLemmas.{partitioned, strict_keys}
use Rattle.flow_law.specs.Facts.{Fact}
use Rattle.flow_law.specs.FactOrder.{cell_cmp, cell_total}
use Rattle.fact_tables.specs.Cells.{is_past}
use Rattle.fact_tables.proofs.ValueLemmas.{found}
use Rattle.fact_tables.proofs.tables.value.Goals as goal

pub returns-in_err-fact_at : goal.returns-in_err-fact_at
returns-in_err-fact_at t c =
    let fs = c.args.facts.now in
    let column = c.args.column.now in
    let cell = λ (f : Fact). f.cell in
    let parts = c.partition_point-place.ensures.partitioned (λ (f : Fact). not (is_past column f)) (always_returns_same _ _ _ (λ a r g k. (search rules, search rules)))
    (partitioned cell_total cell (Some (column, [])) fs (strict_keys cell_cmp cell fs c.requires)) in
    rw (c.from_residual.ensures, ← found column fs c.partition_point-place.result c.requires c.partition_point-place.ensures.bound parts, ← c.in_err-fact_at.ensures.fact) refl

pub returns : goal.returns
returns t c =
    let fs = c.args.facts.now in
    let column = c.args.column.now in
    let cell = λ (f : Fact). f.cell in
    let parts = c.partition_point-place.ensures.partitioned (λ (f : Fact). not (is_past column f)) (always_returns_same _ _ _ (λ a r g k. (search rules, search rules)))
    (partitioned cell_total cell (Some (column, [])) fs (strict_keys cell_cmp cell fs c.requires)) in
    rw (← found column fs c.partition_point-place.result c.requires c.partition_point-place.ensures.bound parts, ← c.in_ok-fact_at.ensures.fact) c.value.ensures
