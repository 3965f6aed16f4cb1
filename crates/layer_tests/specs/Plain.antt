-- A catalogue that has no tables, whatever is in it.
use Rattle.std.specs.Prelude.{◌≡◌, ℕ, List, [], Option, None, Some, unwrap_or}
use Rattle.std.specs.Bool.{⊤}
use Rattle.schema_model.specs.Catalogue.{CatalogueValue}
use Rattle.schema_model.specs.Changes.{after_all}
use Rattle.schema_model.specs.States.{CatalogueState}
use Rattle.schema_model.specs.declared.change.Change.{Change}
use Rattle.flow_law.specs.declared.shape.Shape.{Shape}
use Rattle.apply_law.specs.Standing.{Standing, Waiting, Idle, Proposes}
use Rattle.apply_law.specs.Verdicts.{Makes, first_fault_from}
use Rattle.apply_law.specs.declared.refused.GroupRefused.{GroupRefused}
use Rattle.apply_law.specs.declared.refused.GroupRefused.TheVariants as refused

-- the catalogue, a form of tables, and what is proposed
pub record PlainState : Type 0 where
  pub catalogue : CatalogueValue
  pub shape : Shape
  pub proposed : Option (List Change)

abbrev pub standing_of : PlainState → Standing
standing_of p = record { catalogue = p.catalogue; shape = p.shape; verdict = λ c. Makes []; limit = λ c g. Some 0 }

abbrev pub waiting_by : Option (List Change) → Waiting
waiting_by None = Idle
waiting_by (Some gs) = Proposes gs

abbrev pub proposing : PlainState → List Change → PlainState
proposing p gs = record p { proposed = Some gs }

abbrev pub accepted : PlainState → PlainState
accepted p = record p { catalogue = after_all p.catalogue (unwrap_or p.proposed []); proposed = None }

-- what is proposed waits in the catalogue
abbrev pub WaitsIn : CatalogueState → Option (List Change) → Type 0
WaitsIn c None = ⊤
WaitsIn c (Some gs) = c.group ≡ Some gs

-- the first of some changes that is refused behind those before it, where the first of all is at this place, or there was no memory
abbrev pub IsRefusedFrom : ℕ → CatalogueValue → List Change → GroupRefused → Type 0
IsRefusedFrom place c gs (refused.Change at r) = first_fault_from place c gs ≡ Some (at, r)
IsRefusedFrom place c gs (refused.Illegal label) = ⊥
IsRefusedFrom place c gs (refused.Conflict clash) = ⊥
IsRefusedFrom place c gs refused.NoMemory = ⊤
