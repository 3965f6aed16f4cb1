-- What waits: changes that are proposed, or nothing.
use Rattle.std.proofs.Common.{◌≡◌, List, Option, None, refl, sym, subst}
use Rattle.schema_model.specs.declared.change.Change.{Change}
use Rattle.apply_law.specs.Standing.{Waiting, Idle, Proposes, IsProposal}
use Rattle.view_session.specs.Verdicts.{waiting_by}

pub is_proposal : (w : Waiting) (gs : List Change) → w ≡ Proposes gs → IsProposal w
is_proposal w gs is = subst IsProposal (sym is) tt

-- a session in which no group is open, and nothing is proposed
pub is_idle : (held proposed : Option (List Change)) → (held ≡ None) × (proposed ≡ None) → waiting_by held proposed ≡ Idle
is_idle held proposed none = rw none.0 (rw none.1 refl)
