-- A view that is kept up to date: what it stands for, and what a change does to it.
use Rattle.std.specs.Prelude.{◌≡◌, List, [], ◌∷◌, ◌++◌, Option, None, Some, option_map, unwrap_or, ⊤}
use Rattle.schema_model.specs.Catalogue.{CatalogueValue}
use Rattle.schema_model.specs.declared.change.Change.{Change}
use Rattle.schema_model.specs.Changes.{after, after_all}
use Rattle.schema_model.specs.Refusals.{fault}
use Rattle.view_def.specs.Query.{Query}
use Rattle.flow_law.specs.declared.line.TableLine.{TableLine}
use Rattle.flow_law.specs.Tables.{TablesValue}
use Rattle.flow_law.specs.Script.{script}
use Rattle.view_meaning.specs.Meaning.{meaning}
use Rattle.view_meaning.specs.Refusal.{refusal}
use Rattle.flow_law.specs.declared.refused.EvalFault.{EvalFault}
use Rattle.flow_law.specs.declared.refused.EvalFault.TheVariants as eval
use Rattle.view_session.specs.Named.{Names, no_names, with_change, with_changes, with_lines}
use Rattle.view_session.specs.declared.fault.HoldRefused.{HoldRefused}
use Rattle.view_session.specs.declared.fault.HoldRefused.TheVariants as hold
use Rattle.view_session.specs.declared.fault.Refused.{Refused}
use Rattle.view_session.specs.declared.fault.Refused.TheVariants as refused

-- the view, the catalogue that it stands for, what was named since names were last cleared, the changes that the open group holds, where one is open, and those that are proposed, where some are
pub record SessionState : Type 0 where
  pub query : Query
  pub catalogue : CatalogueValue
  pub changed : Names
  pub held : Option (List Change)
  pub proposed : Option (List Change)

-- a session that was just opened
abbrev pub opened : Query → CatalogueValue → SessionState
opened q c = record { query = q; catalogue = c; changed = no_names; held = None; proposed = None }

-- with no names
abbrev pub cleared : SessionState → SessionState
cleared s = record s { changed = no_names }

-- the tables that it stands for
abbrev pub tables_of : SessionState → TablesValue
tables_of s = meaning s.catalogue s.query

-- the lines by which the tables change where the catalogue becomes another
abbrev pub lines_to : SessionState → CatalogueValue → List TableLine
lines_to s c = script (tables_of s) (meaning c s.query)

-- the session with another catalogue, and with the names of the change and of the lines
abbrev pub moved_to : CatalogueValue → SessionState → Change → SessionState
moved_to c s g = record s { catalogue = c; changed = with_lines (with_change s.changed s.catalogue g) (lines_to s c) }

-- the session after a change
abbrev pub moved : SessionState → Change → SessionState
moved s g = moved_to (after s.catalogue g) s g

-- a group opens, holds one more change, and ends
abbrev pub begun : SessionState → SessionState
begun s = record s { held = Some [] }

abbrev pub holding : SessionState → Change → SessionState
holding s g = record s { held = option_map (λ gs. gs ++ g ∷ []) s.held }

abbrev pub closed : SessionState → SessionState
closed s = record s { held = None }

-- the catalogue after the changes that the open group holds; the session's own where none is open
abbrev pub working : SessionState → CatalogueValue
working s = after_all s.catalogue (unwrap_or s.held [])

-- the session after changes, all at once
abbrev pub made : SessionState → List Change → SessionState
made s gs = record s {
  catalogue = after_all s.catalogue gs;
  changed = with_lines (with_changes s.changed s.catalogue gs) (lines_to s (after_all s.catalogue gs));
  held = None;
  proposed = None;
}

-- and after those that the open group holds
abbrev pub committed : SessionState → SessionState
committed s = made s (unwrap_or s.held [])

-- changes are proposed, and are made or dropped
abbrev pub proposing : SessionState → List Change → SessionState
proposing s gs = record s { proposed = Some gs }

abbrev pub accepted : SessionState → SessionState
accepted s = made s (unwrap_or s.proposed [])

abbrev pub dismissed : SessionState → SessionState
dismissed s = record s { proposed = None }

-- the fault of a change, where the view is refused over the changed catalogue
abbrev pub refused_by : EvalFault → Refused
refused_by (eval.Illegal e) = refused.Illegal e
refused_by (eval.Conflict e) = refused.Conflict e
refused_by eval.NoMemory = refused.NoMemory

-- a change of a session is made: the catalogue does not refuse it, and the view over the changed one is not refused
pub record IsAccepted (s : SessionState) (g : Change) : Type 0 where
  pub change : fault s.catalogue g ≡ None
  pub view : refusal (after s.catalogue g) s.query ≡ None

-- a change is refused for this fault of the view over the changed catalogue, or there was no memory
abbrev pub IsRefusedBy : Option EvalFault → Refused → Type 0
IsRefusedBy expected (refused.Change r) = ⊥
IsRefusedBy expected (refused.Illegal e) = expected ≡ Some (eval.Illegal e)
IsRefusedBy expected (refused.Conflict e) = expected ≡ Some (eval.Conflict e)
IsRefusedBy expected refused.NoMemory = ⊤

-- a change of a catalogue is refused by the catalogue, or else by the view over the changed one, or there was no memory
abbrev pub IsRefusedOver : CatalogueValue → Query → Change → Refused → Type 0
IsRefusedOver c q g (refused.Change r) = fault c g ≡ Some r
IsRefusedOver c q g refused.NoMemory = ⊤
IsRefusedOver c q g e = (fault c g ≡ None) × IsRefusedBy (refusal (after c g) q) e

abbrev pub IsRefused : SessionState → Change → Refused → Type 0
IsRefused s g e = IsRefusedOver s.catalogue s.query g e

-- a change is not held, since a catalogue refuses it, or there was no memory; that is the one after those that the group holds
abbrev pub IsNotHeld : CatalogueValue → Change → HoldRefused → Type 0
IsNotHeld c g (hold.Change r) = fault c g ≡ Some r
IsNotHeld c g hold.NoMemory = ⊤

abbrev pub IsHoldRefused : SessionState → Change → HoldRefused → Type 0
IsHoldRefused s g e = IsNotHeld (working s) g e
