-- What is known of the changes that a group holds.
use Rattle.std.proofs.Common.{◌≡◌, ◌∷◌, ◌++◌, [], List, Option, None, Some, refl, sym, ap, subst}
use Rattle.std.specs.Prelude.{IsTrue, unwrap_or, option_map}
use Rattle.std.specs.List.{AllByRecursion}
use Rattle.schema_model.specs.declared.change.Change.{Change}
use Rattle.schema_model.specs.Changes.{after_all, is_well_formed}
use Rattle.schema_model.specs.Refusals.{fault, group_fault}
use Rattle.view_session.specs.Session.{SessionState, holding, working}
use Rattle.change_draft.proofs.DraftLemmas.{accepted_one_more}

-- the changes that a group holds are well formed, and each is accepted after those before it
pub record IsGroup (s : SessionState) : Type 0 where
  pub formed : AllByRecursion (λ g. IsTrue (is_well_formed g)) (unwrap_or s.held [])
  pub accepted : group_fault s.catalogue (unwrap_or s.held []) ≡ None

-- where no group is open, and where one has just opened
pub no_group : (s : SessionState) → unwrap_or s.held [] ≡ [] → IsGroup s
no_group s none = record { formed = subst (AllByRecursion (λ g. IsTrue (is_well_formed g))) (sym none) tt; accepted = ap (group_fault s.catalogue) none }

-- one more
formed_more : (gs : List Change) (g : Change) → AllByRecursion (λ x. IsTrue (is_well_formed x)) gs → IsTrue (is_well_formed g) → AllByRecursion (λ x. IsTrue (is_well_formed x)) (gs ++ g ∷ [])
formed_more [] g h well = (well, tt)
formed_more (x ∷ gs) g h well = (h.0, formed_more gs g h.1 well)

pub one_more : (s : SessionState) (g : Change) → IsTrue (is_well_formed g) → fault (working s) g ≡ None → IsGroup s → IsGroup (holding s g)
one_more s g well fits h = record { formed = each s.held h.formed; accepted = all s.held h.accepted fits }
  where
    each : (o : Option (List Change)) → AllByRecursion (λ x. IsTrue (is_well_formed x)) (unwrap_or o []) → AllByRecursion (λ x. IsTrue (is_well_formed x)) (unwrap_or (option_map (λ gs. gs ++ g ∷ []) o) [])
    each None f = tt
    each (Some gs) f = formed_more gs g f well

    all : (o : Option (List Change)) → group_fault s.catalogue (unwrap_or o []) ≡ None → fault (after_all s.catalogue (unwrap_or o [])) g ≡ None → group_fault s.catalogue (unwrap_or (option_map (λ gs. gs ++ g ∷ []) o) []) ≡ None
    all None f fits = refl
    all (Some gs) f fits = accepted_one_more s.catalogue gs g f fits
