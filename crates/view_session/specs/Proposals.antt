-- Changes that are proposed.
use Rattle.std.specs.Prelude.{◌≡◌, List, [], ◌∷◌, Some}
use Rattle.schema_model.specs.Changes.{after_all}
use Rattle.schema_model.specs.States.{CatalogueState}
use Rattle.schema_model.specs.declared.change.Change.{Change}
use Rattle.view_engine.specs.declared.moved.EngineMove.{EngineMove}
use Rattle.view_engine.specs.Engines.{lines_in, EngineMoves}
use Rattle.view_session.specs.Named.{named_by}
use Rattle.view_session.specs.Coming.{NamesState}
use Rattle.view_session.specs.Upkeeps.{view_of, IsReadyFor, IsReadyUpkeep}
use Rattle.view_session.specs.declared.proposal.CatalogueReady.{CatalogueReady}
use Rattle.view_session.specs.declared.proposal.CatalogueReady.TheVariants.{One, All}
use Rattle.view_session.specs.declared.proposal.Proposal.{Proposal}
use Rattle.view_session.specs.declared.upkeep.Upkeep.{Upkeep}

-- the changes that wait in a catalogue
abbrev pub changes_in : CatalogueReady → List Change
changes_in (One g) = g ∷ []
changes_in (All gs) = gs

abbrev pub WaitsIn : CatalogueState → CatalogueReady → Type 0
WaitsIn c (One g) = c.waiting ≡ Some g
WaitsIn c (All gs) = c.group ≡ Some gs

-- the changes that are proposed
abbrev pub proposed_in : Proposal → List Change
proposed_in p = changes_in p.catalogue

-- they wait in a catalogue, with the move of what is kept for it, and their names and those of its lines are expected
pub record CanMake (c : CatalogueState) (u : Upkeep) (n : NamesState) (p : Proposal) : Type 0 where
  pub move : EngineMove
  pub waits : WaitsIn c p.catalogue
  pub moves : EngineMoves c.databases (after_all c.databases (proposed_in p)) (view_of u) move
  pub ready_for : IsReadyFor move p.upkeep
  pub upkeep : IsReadyUpkeep u p.upkeep
  pub names : n.coming ≡ named_by c.databases (proposed_in p) (lines_in move)
