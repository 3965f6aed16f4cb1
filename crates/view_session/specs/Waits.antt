-- What waits in a session.
use Rattle.std.specs.Prelude.{List, Option, None, Some}
use Rattle.std.specs.Bool.{⊤}
use Rattle.schema_model.specs.States.{CatalogueState}
use Rattle.schema_model.specs.declared.change.Change.{Change}
use Rattle.view_session.specs.Coming.{NamesState}
use Rattle.view_session.specs.Group.{IsOver}
use Rattle.view_session.specs.Proposals.{proposed_in, CanMake}
use Rattle.view_session.specs.declared.upkeep.Upkeep.{Upkeep}
use Rattle.view_session.specs.declared.waits.Waits.{Waits}
use Rattle.view_session.specs.declared.waits.Waits.TheVariants.{Nothing, Open, Proposed}

-- the changes that the open group holds, where one is open, and those that are proposed, where some are
abbrev pub held_in : Waits → Option (List Change)
held_in (Open group) = Some group.draft.changes
held_in Nothing = None
held_in (Proposed proposal) = None

abbrev pub proposed_by : Waits → Option (List Change)
proposed_by (Proposed proposal) = Some (proposed_in proposal)
proposed_by Nothing = None
proposed_by (Open group) = None

-- the group stands over the catalogue, and what is proposed can be made
abbrev pub CanEnd : CatalogueState → Upkeep → NamesState → Waits → Type 0
CanEnd c u n Nothing = ⊤
CanEnd c u n (Open group) = IsOver group c.databases
CanEnd c u n (Proposed proposal) = CanMake c u n proposal
