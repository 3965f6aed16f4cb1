-- What stands for a catalogue, and what waits in it.
use Rattle.std.specs.Prelude.{ℕ, List, Option}
use Rattle.std.specs.Bool.{⊤}
use Rattle.schema_model.specs.Catalogue.{CatalogueValue}
use Rattle.schema_model.specs.Changes.{after_all}
use Rattle.schema_model.specs.declared.change.Change.{Change}
use Rattle.flow_law.specs.Tables.{TablesValue}
use Rattle.flow_law.specs.declared.shape.Shape.{Shape}
use Rattle.apply_law.specs.Verdicts.{Verdict, tables_in}

-- the catalogue, the form of the tables, the verdict over each catalogue, and at most how many steps a change of each takes, where that is known
pub record Standing : Type 0 where
  pub catalogue : CatalogueValue
  pub shape : Shape
  pub verdict : CatalogueValue → Verdict
  pub limit : CatalogueValue → Change → Option ℕ

-- its tables are the verdict over its catalogue
abbrev pub tables_of : Standing → TablesValue
tables_of s = tables_in (s.verdict s.catalogue)

-- the verdict over its catalogue after changes, and what it is after them
abbrev pub verdict_after : Standing → List Change → Verdict
verdict_after s gs = s.verdict (after_all s.catalogue gs)

abbrev pub made : Standing → List Change → Standing
made s gs = record s { catalogue = after_all s.catalogue gs }

-- nothing, changes that are proposed, or something else that has to end first
pub data Waiting : Type 0 where
  Idle : Waiting
  Proposes : List Change → Waiting
  Busy : Waiting

abbrev pub IsProposal : Waiting → Type 0
IsProposal (Proposes gs) = ⊤
IsProposal Idle = ⊥
IsProposal Busy = ⊥
