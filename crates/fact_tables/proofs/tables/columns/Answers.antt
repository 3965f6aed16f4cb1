use Rattle.std.proofs.Common.{arith, take}
use Rattle.std.specs.Prelude.{filter_map}
use Rattle.std.proofs.lemmas.Grind.{common_steps}
use Rattle.std.proofs.lemmas.List.Elements.{filter_map-append}
use Rattle.ss_text.proofs.KeyLemmas.{text_order}
use Rattle.ss_text.proofs.GroupLemmas.{strict_ascending}
use Rattle.flow_law.specs.Facts.{column_of}
use Rattle.fact_tables.proofs.ColumnLemmas.{one_more}
use Rattle.fact_tables.proofs.tables.columns.Goals as goal

pub put_column-requires : goal.put_column-requires
put_column-requires t c = rw c.loop-fact.invariant (strict_ascending text_order.total (filter_map column_of (take c.loop-fact.fact-index c.args.facts.now)))

pub loop-fact-preserved : goal.loop-fact-preserved
loop-fact-preserved t c = grind (arith, common_steps, filter_map-append, one_more)
