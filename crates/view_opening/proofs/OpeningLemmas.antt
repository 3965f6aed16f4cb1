-- What an opening did, and what it opens.
use Rattle.std.proofs.Common.{◌≡◌, ◌∙◌, [], Option, None, Some, Result, Ok, Err, sym, ap, subst}
use Rattle.ss_text.specs.Texts.{Row}
use Rattle.outside.specs.Tree.{Tree}
use Rattle.outside.specs.Effects.{World, Contents, contents, performed, Partly}
use Rattle.outside.specs.declared.stop.Stop.{Stop}
use Rattle.outside.proofs.EffectLemmas.{partly_more}
use Rattle.course.specs.Answering.{Reply, Continues, Finishes}
use Rattle.schema_model.specs.Catalogue.{CatalogueValue}
use Rattle.view_def.specs.Query.{Query}
use Rattle.view_stages.specs.Open.{OpenValue, just_opened}
use Rattle.view_stages.specs.Stages.{loaded_or_refused, refusal_of}
use Rattle.view_stages.specs.Opening.{with_view, with_catalogue}
use Rattle.view_stages.proofs.StageLemmas.{refused_label, refused_clash}
use Rattle.flow_law.specs.declared.refused.EvalFault.{EvalFault}
use Rattle.flow_law.specs.declared.refused.EvalFault.TheVariants as eval
use Rattle.flow_law.specs.Faults.{IsFault}
use Rattle.view_meaning.specs.Refusal.{refusal}
use Rattle.opened_view.specs.Steps.{IsFaultFieldsOf}
use Rattle.view_opening.specs.Opens.{Opens, Views}
use Rattle.view_opening.specs.declared.opening.Viewing.TheVariants as viewing
use Rattle.view_opening.specs.declared.opening.Opened.{Opened}
use Rattle.view_opening.specs.declared.opening.Opened.TheVariants as opened_as

-- nothing was done
pub nothing_opened : (r : Reply OpenValue) (old new : World) (e : Stop) → Partly [] (contents old) (contents new) → Opens r old new (Err e)
nothing_opened (Continues es a) old new e h = partly_more [] es (contents old) (contents new) h
nothing_opened (Finishes es v) old new e h = partly_more [] es (contents old) (contents new) h

-- an opening that begins where nothing else was done
pub from_same : (r : Reply OpenValue) (old mid new : World) (x : Result Opened Stop) → contents mid ≡ contents old → Opens r mid new x → Opens r old new x
from_same (Continues es a) old mid new (Ok (opened_as.Open s)) e h = (h.0 ∙ ap (performed es) e, h.1)
from_same (Continues es a) old mid new (Ok (opened_as.Ended v)) e h = h
from_same (Finishes es w) old mid new (Ok (opened_as.Open s)) e h = h
from_same (Finishes es w) old mid new (Ok (opened_as.Ended v)) e h = (h.0 ∙ ap (performed es) e, h.1)
from_same (Continues es a) old mid new (Err f) e h = subst (λ (c : Contents). Partly es c (contents new)) e h
from_same (Finishes es w) old mid new (Err f) e h = subst (λ (c : Contents). Partly es c (contents new)) e h

-- and over a catalogue that was loaded
pub opened_behind : (t : Tree) (q : Query) (c : CatalogueValue) (old mid new : World) (x : Result Opened Stop) → loaded_or_refused t ≡ Ok c → contents mid ≡ contents old → Opens (with_view t q c (refusal_of c q)) mid new x
    → Opens (with_catalogue t q (loaded_or_refused t)) old new x
opened_behind t q c old mid new x loaded e h =
    subst (λ (r : Result CatalogueValue Row). Opens (with_catalogue t q r) old new x) (sym loaded) (from_same (with_view t q c (refusal_of c q)) old mid new x e h)

-- a view over a catalogue was just opened
pub views_fresh : (v : OpenValue) (q : Query) (c : CatalogueValue) (x : Option Row) → Views (viewing.View v) q c x → v ≡ just_opened v.session.query v.session.catalogue
views_fresh v q c None h = h ∙ sym (ap (λ (w : OpenValue). just_opened w.session.query w.session.catalogue) h)
views_fresh v q c (Some fields) h = absurd h

-- a view that is refused over a catalogue
pub refused_views : (f : EvalFault) (row : Row) (c : CatalogueValue) (q : Query) → IsFault (refusal c q) f → IsFaultFieldsOf f row → Views (viewing.Refused row) q c (refusal_of c q)
refused_views (eval.Illegal e) row c q h is = rw (refused_label c q e h) is
refused_views (eval.Conflict e) row c q h is = rw (refused_clash c q e h) is
refused_views eval.NoMemory row c q h is = absurd is
