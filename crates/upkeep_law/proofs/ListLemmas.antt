-- Answers that are given behind others.
use Rattle.std.proofs.Common.{◌≡◌, Bool, List, [], ◌∷◌, ◌++◌, refl, sym, ap, ◌∙◌, append_assoc}
use Rattle.outside.specs.Effects.{Effect}
use Rattle.schema_model.specs.Catalogue.{CatalogueValue}
use Rattle.source_law.specs.Synced.{Synced}
use Rattle.view_stages.specs.Open.{OpenValue}
use Rattle.opened_view.specs.Answers.{Answer}
use Rattle.upkeep_law.specs.Given.{AreGiven}
use Rattle.upkeep_law.specs.Lists.{effects_by, view_after, shown_by, last_shown, synced_by, last_synced}

pub effects_append : (xs ys : List Answer) → effects_by (xs ++ ys) ≡ effects_by xs ++ effects_by ys
effects_append [] ys = refl
effects_append (a ∷ xs) ys = ap (λ (es : List Effect). a.effects ++ es) (effects_append xs ys) ∙ sym (append_assoc a.effects (effects_by xs) (effects_by ys))

pub shown_append : (o : OpenValue) (before : CatalogueValue) (xs ys : List Answer) → last_shown o before (xs ++ ys) ≡ last_shown (view_after o xs) (last_shown o before xs) ys
shown_append o before [] ys = refl
shown_append o before (a ∷ xs) ys = shown_append a.view (shown_by a.said o before) xs ys

pub synced_append : (saves : Bool) (o : OpenValue) (before : Synced) (xs ys : List Answer) → last_synced saves o before (xs ++ ys) ≡ last_synced saves (view_after o xs) (last_synced saves o before xs) ys
synced_append saves o before [] ys = refl
synced_append saves o before (a ∷ xs) ys = synced_append saves a.view (synced_by a.said saves o.session before) xs ys

pub given_append : (saves : Bool) (o : OpenValue) (xs ys : List Answer) → AreGiven saves o xs → AreGiven saves (view_after o xs) ys → AreGiven saves o (xs ++ ys)
given_append saves o [] ys h k = k
given_append saves o (a ∷ xs) ys h k = (h.0, given_append saves a.view xs ys h.1 k)
