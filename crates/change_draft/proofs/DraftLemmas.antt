-- Changes with one more behind them.
use Rattle.std.proofs.Common.{◌≡◌, ◌∷◌, ◌++◌, ◌∙◌, ◌+◌, ◌<◌, ◌≤◌, ℕ, suc, [], Bool, false, List, Option, Some, None, refl, sym, ap, subst, drop, length, get_or, add-one}
use Rattle.std.proofs.Math.Seq.{drop-cons}
use Rattle.std.proofs.lemmas.List.{drop_all}
use Rattle.std.specs.Prelude.{IsTrue, IfSome, OnOk, Result, Ok, Err}
use Rattle.std.specs.List.{AllByRecursion}
use Rattle.std.specs.Option.{option_or}
use Rattle.schema_model.specs.Catalogue.{CatalogueValue}
use Rattle.schema_model.specs.Changes.{after, after_all, is_well_formed}
use Rattle.schema_model.specs.Refusals.{fault, group_fault}
use Rattle.schema_model.specs.declared.change.Change.{Change}
use Rattle.schema_model.specs.declared.refusal.Refusal.{Refusal}
use Rattle.schema_model.proofs.GroupLemmas.{after_last, first_none}
use Rattle.change_draft.specs.Drafts.{DraftState, StandsOver}

both : (a b : Option Refusal) → a ≡ None → b ≡ None → option_or a b ≡ None
both None b e f = f
both (Some r) b e f = e

-- they are not refused
pub accepted_one_more : (c : CatalogueValue) (gs : List Change) (g : Change) → group_fault c gs ≡ None → fault (after_all c gs) g ≡ None → group_fault c (gs ++ g ∷ []) ≡ None
accepted_one_more c [] g none one = both (fault c g) None one refl
accepted_one_more c (h ∷ hs) g none one =
    let parts = first_none (fault c h) (group_fault (after c h) hs) none in
    both (fault c h) (group_fault (after c h) (hs ++ g ∷ [])) parts.0 (accepted_one_more (after c h) hs g parts.1 one)

-- what holds of all
pub all_more : (P : Change → Type 0) (gs : List Change) (g : Change) → AllByRecursion P gs → P g → AllByRecursion P (gs ++ g ∷ [])
all_more P [] g all one = (one, tt)
all_more P (h ∷ hs) g all one = (all.0, all_more P hs g all.1 one)

-- a draft that holds one change more stands over the same catalogue
pub stands_more : (d : DraftState) (c : CatalogueValue) (hs : List Change) (g : Change) (o : Option CatalogueValue) (due : Bool) → StandsOver d c → IsTrue (is_well_formed g) → fault (after_all c d.changes) g ≡ None → hs ≡ d.changes ++ g ∷ []
    → IfSome o (λ e. e ≡ after (after_all c d.changes) g) → StandsOver (record { changes = hs; after = o; is_due = due }) c
stands_more d c hs g o due over formed accepted more made = rw more record {
  after = kept o made;
  accepted = accepted_one_more c d.changes g over.accepted accepted;
  well_formed = all_more (λ g. IsTrue (is_well_formed g)) d.changes g over.well_formed formed;
}
  where
    kept : (o : Option CatalogueValue) → IfSome o (λ e. e ≡ after (after_all c d.changes) g) → IfSome o (λ e. e ≡ after_all c (d.changes ++ g ∷ []))
    kept None made = made
    kept (Some e) made = made ∙ sym (after_last c d.changes g)

-- where it keeps no catalogue after them, and where it keeps it
pub stands_counted : {T E : Type 0} (r : Result T E) (d : DraftState) (c : CatalogueValue) (hs : List Change) (g : Change) → StandsOver d c → IsTrue (is_well_formed g) → fault (after_all c d.changes) g ≡ None → OnOk r (hs ≡ d.changes ++ g ∷ [])
    → OnOk r (StandsOver (record { changes = hs; after = None; is_due = false }) c)
stands_counted (Ok v) d c hs g over formed accepted more = stands_more d c hs g None false over formed accepted more tt
stands_counted (Err v) d c hs g over formed accepted more = tt

pub kept_is : (d : DraftState) (c k : CatalogueValue) → StandsOver d c → d.after ≡ Some k → k ≡ after_all c d.changes
kept_is d c k over is = subst (λ (o : Option CatalogueValue). IfSome o (λ e. e ≡ after_all c d.changes)) is over.after

pub stands_kept : {T E : Type 0} (r : Result T E) (d : DraftState) (c k e : CatalogueValue) (hs : List Change) (g : Change) → StandsOver d c → IsTrue (is_well_formed g) → fault (after_all c d.changes) g ≡ None → d.after ≡ Some k → OnOk r (hs ≡ d.changes ++ g ∷ []) → OnOk r (e ≡ after k g)
    → OnOk r (StandsOver (record { changes = hs; after = Some e; is_due = false }) c)
stands_kept (Ok v) d c k e hs g over formed accepted is more made = stands_more d c hs g (Some e) false over formed accepted more (made ∙ ap (λ (x : CatalogueValue). after x g) (kept_is d c k over is))
stands_kept (Err v) d c k e hs g over formed accepted is more made = tt

-- the changes that are left from a place on can be made, and come to the same as all of them
pub record IsLeft (c : CatalogueValue) (all : List Change) (now : CatalogueValue) (i : ℕ) : Type 0 where
  pub after_them : after_all now (drop i all) ≡ after_all c all
  pub accepted : group_fault now (drop i all) ≡ None
  pub well_formed : AllByRecursion (λ g. IsTrue (is_well_formed g)) (drop i all)

module _ (c : CatalogueValue) (all : List Change) (now : CatalogueValue) (i : ℕ) (left : IsLeft c all now i) where
  module _ (g : Change) (more : i < length all) (at : g ≡ get_or all i g) where
    next : drop i all ≡ g ∷ drop (i + 1) all
    next = drop-cons all i g more ∙ rw add-one (ap (λ (h : Change). h ∷ drop (suc i) all) (sym at))

    none : (fault now g ≡ None) × (group_fault (after now g) (drop (i + 1) all) ≡ None)
    none = first_none (fault now g) (group_fault (after now g) (drop (i + 1) all)) (sym (ap (group_fault now) next) ∙ left.accepted)

    formed : IsTrue (is_well_formed g) × AllByRecursion (λ g. IsTrue (is_well_formed g)) (drop (i + 1) all)
    formed = subst (AllByRecursion (λ g. IsTrue (is_well_formed g))) next left.well_formed

    pub can_make : (fault now g ≡ None) × IsTrue (is_well_formed g)
    can_make = (none.0, formed.0)

    pub one_made : IsLeft c all (after now g) (i + 1)
    one_made = record { after_them = sym (ap (after_all now) next) ∙ left.after_them; accepted = none.1; well_formed = formed.1 }

  pub all_made : length all ≤ i → now ≡ after_all c all
  all_made done = sym (ap (after_all now) (drop_all i all done)) ∙ left.after_them
