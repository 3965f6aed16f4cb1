-- Facts as they are listed, with cells or without.
use Rattle.std.specs.Prelude.{Bool, true, false, ◌&&◌, is_some, List, Option, option_map}
use denote.Ref.{Bor}
use Rattle.ss_text.specs.Texts.{Text}
use Rattle.view_def.specs.Query.{Query}
use Rattle.flow_law.specs.Facts.{Fact}
use Rattle.valuation_meaning.specs.declared.listed.Held.{Held}
use Rattle.valuation_meaning.specs.declared.listed.Held.TheVariants.{Bare, WithCells}

-- facts, and whether each has a cell or none has
pub record Listed : Type 0 where
  pub items : List Fact
  pub have_cells : Bool

abbrev pub listed : Held → Listed
listed (Bare facts) = record { items = facts.items; have_cells = false }
listed (WithCells facts) = record { items = facts.items; have_cells = true }

-- a column label and a value that is borrowed
abbrev pub cell_value : Option (Text × Bor Text) → Option (Text × Text)
cell_value c = option_map (λ (c : Text × Bor Text). (c.0, c.1.now)) c

-- whether the facts of a view have cells
abbrev pub has_cells : Query → Bool
has_cells q = is_some q.column && is_some q.value
