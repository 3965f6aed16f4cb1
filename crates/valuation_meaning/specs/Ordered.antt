-- The tables of facts in order, with cells or without, and all facts.
use Rattle.flow_law.specs.Tables.{TablesValue}
use Rattle.fact_tables.specs.Counted.{AllFactsValue}
use Rattle.valuation_meaning.specs.declared.evaluation.ViewFacts.{ViewFacts}
use Rattle.valuation_meaning.specs.declared.evaluation.ViewFacts.TheVariants as view_facts
use Rattle.valuation_meaning.specs.declared.evaluation.AllViewFacts.{AllViewFacts}
use Rattle.valuation_meaning.specs.declared.evaluation.AllViewFacts.TheVariants as all_view_facts

abbrev pub tables_of : ViewFacts → TablesValue
tables_of (view_facts.Bare tables) = tables
tables_of (view_facts.WithCells tables) = tables

-- the same where those that come again stand beside
abbrev pub all_of : AllViewFacts → AllFactsValue
all_of (all_view_facts.Bare all) = all
all_of (all_view_facts.WithCells all) = all
