-- What waits in a session.
use Rattle.std.proofs.Common.{◌≡◌, ◌∙◌, List, Option, None, Some, refl, sym, ap, subst}
use Rattle.schema_model.specs.Catalogue.{CatalogueValue}
use Rattle.schema_model.specs.States.{CatalogueState}
use Rattle.schema_model.specs.declared.change.Change.{Change}
use Rattle.apply_law.specs.Standing.{Idle}
use Rattle.view_session.specs.Coming.{NamesState}
use Rattle.view_session.specs.Session.{SessionState, proposing, dismissed}
use Rattle.view_session.specs.Verdicts.{waiting_by, waiting_of}
use Rattle.view_session.specs.Group.{IsOver}
use Rattle.view_session.specs.Waits.{CanEnd, proposed_by}
use Rattle.view_session.specs.declared.upkeep.Upkeep.{Upkeep}
use Rattle.view_session.specs.declared.waits.Waits.{Waits}
use Rattle.view_session.specs.declared.waits.Waits.TheVariants.{Nothing, Open, Proposed}

-- it can end whatever was named, where the same names are expected
pub can_end_named : (c : CatalogueState) (u : Upkeep) (n m : NamesState) (w : Waits) → m.coming ≡ n.coming → CanEnd c u n w → CanEnd c u m w
can_end_named c u n m Nothing same h = tt
can_end_named c u n m (Open group) same h = h
can_end_named c u n m (Proposed proposal) same h = record { move = h.move; waits = h.waits; moves = h.moves; ready_for = h.ready_for; upkeep = h.upkeep; names = same ∙ h.names }

-- and over a catalogue of the same databases, where nothing is proposed
pub can_end_linked : (c d : CatalogueState) (u : Upkeep) (n : NamesState) (w : Waits) → d.databases ≡ c.databases → proposed_by w ≡ None → CanEnd c u n w → CanEnd d u n w
can_end_linked c d u n Nothing same none h = tt
can_end_linked c d u n (Open group) same none h = subst (λ (x : CatalogueValue). IsOver group x) (sym same) h
can_end_linked c d u n (Proposed proposal) same none h = absurd (cc none)

-- where nothing waits, nothing is proposed; so what is proposed then is dropped without a trace
pub none_proposed : (held proposed : Option (List Change)) → waiting_by held proposed ≡ Idle → proposed ≡ None
none_proposed None None idle = refl
none_proposed None (Some gs) idle = absurd (cc idle)
none_proposed (Some hs) proposed idle = absurd (cc idle)

pub dropped : (s : SessionState) (gs : List Change) → waiting_of s ≡ Idle → dismissed (proposing s gs) ≡ s
dropped s gs idle = ap (λ (p : Option (List Change)). record s { proposed = p }) (sym (none_proposed s.held s.proposed idle))
