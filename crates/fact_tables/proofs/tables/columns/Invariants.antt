use Rattle.std.proofs.Common.{◌≡◌, take}
use Rattle.std.specs.Prelude.{filter_map}
use Rattle.ss_text.specs.Texts.{text_cmp}
use Rattle.ss_text.specs.Ascending.{ascending}
use Rattle.flow_law.specs.Facts.{column_of}
use Rattle.fact_tables.proofs.tables.columns.Given as goal

abbrev pub invariant-loop-fact : goal.invariant-loop-fact
invariant-loop-fact t l = l.columns.items ≡ ascending text_cmp (filter_map column_of (take l.fact-index l.facts))
