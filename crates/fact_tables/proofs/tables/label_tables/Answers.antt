use Rattle.std.proofs.Common.{arith, length-drop}
use Rattle.flow_law.specs.Facts.{Fact}
use Rattle.flow_law.specs.FactTables.{fact_table}
use Rattle.ss_text.proofs.KeyLemmas.{text_order}
use Rattle.ss_text.proofs.GroupWalk.{own_sorted, key_fits, some_count, one_more_entry, all_entries}
use Rattle.flow_law.specs.FactOrder.{by_key}
use Rattle.fact_tables.proofs.tables.label_tables.Goals as goal

pub table-requires : goal.table-requires
table-requires t c =
    let counts = rw (c.label-label.ensures, c.facts_from-left.ensures) at c.label_count-count.ensures.count in
    rw c.facts_from-left.ensures
    (own_sorted text_order (λ (f : Fact). f.label) by_key fact_table c.args.facts.now c.requires c.loop-first.from c.in-Some.first.now c.in-Some.ensures.fact c.label_count-count.result counts)

pub put_table-requires-clause-order : goal.put_table-requires-clause-order
put_table-requires-clause-order t c =
    let counts = rw (c.label-label.ensures, c.facts_from-left.ensures) at c.label_count-count.ensures.count in
    rw (c.in_ok-copy.ensures, c.text.ensures, c.label-label.ensures)
    (key_fits text_order (λ (f : Fact). f.label) by_key fact_table c.args.facts.now c.requires c.loop-first.from c.in-Some.first.now c.in-Some.ensures.fact c.label_count-count.result counts
    c.loop-first.tables c.loop-first.invariant.tables)

pub loop-first-smaller : goal.loop-first-smaller
loop-first-smaller t c =
    let counts = rw (c.label-label.ensures, c.facts_from-left.ensures) at c.label_count-count.ensures.count in
    let some = some_count text_order (λ (f : Fact). f.label) by_key fact_table c.args.facts.now c.requires c.loop-first.from c.in-Some.first.now c.in-Some.ensures.fact c.label_count-count.result counts in
    omega (arith, c.in-Some.ensures.there)

pub loop-first-preserved : goal.loop-first-preserved
loop-first-preserved t c =
    let fs = c.args.facts.now in
    let from = c.loop-first.from in
    let counts = rw (c.label-label.ensures, c.facts_from-left.ensures) at c.label_count-count.ensures.count in
    let within = rw c.facts_from-left.ensures at c.label_count-count.ensures.within in
    let table = rw c.facts_from-left.ensures at c.in_ok-table.ensures in
    record {
      tables = rw (c.in_ok-put_table.ensures.ok, c.in_ok-copy.ensures, c.text.ensures, c.label-label.ensures, table)
          (one_more_entry text_order (λ (f : Fact). f.label) by_key fact_table fs c.requires from c.in-Some.first.now c.in-Some.ensures.fact c.label_count-count.result counts
          c.loop-first.tables c.loop-first.invariant.tables);
      within = omega (arith, within, length-drop from fs);
    }

pub returns : goal.returns
returns t c = all_entries text_order (λ (f : Fact). f.label) by_key fact_table c.args.facts.now c.loop-first.from c.loop-first.tables c.in_default.ensures.fact c.loop-first.invariant.tables
