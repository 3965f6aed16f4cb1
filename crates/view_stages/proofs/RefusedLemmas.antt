-- An opening that was refused changed nothing.
use Rattle.std.proofs.Common.{◌≡◌, true, false, List, [], ◌∷◌, Option, None, Some, ap, ◌∙◌}
use Rattle.std.specs.Prelude.{Result, Ok, Err}
use Rattle.ss_text.specs.Texts.{Row}
use Rattle.outside.specs.Tree.{Tree}
use Rattle.outside.specs.Effects.{Effect, World, Contents, contents, performed}
use Rattle.schema_model.specs.Catalogue.{CatalogueValue}
use Rattle.view_def.specs.Query.{Query}
use Rattle.course.specs.declared.status.Verdict.{Verdict}
use Rattle.course.specs.declared.status.Verdict.TheVariants as verdict
use Rattle.course.specs.Answering.{Reply, Continues, Finishes, Ending}
use Rattle.ss_print.specs.Printing.{refuses}
use Rattle.course.specs.declared.exit.Status.{Status}
use Rattle.course.specs.Course.{Finished, verdict_status, is_refused_status}
use Rattle.course.specs.Idle.{Unchanged}
use Rattle.course.proofs.RefusedLemmas.{same_stored, not_so}
use Rattle.view_stages.specs.Open.{OpenValue}
use Rattle.view_stages.specs.Stages.{DefinitionOrRefusal, loaded_or_refused, refusal_of}
use Rattle.view_stages.specs.Opening.{opening, with_catalogue, with_view}

module _ (t : Tree) (old new : World) (told : old.store.tree ≡ Some t) (s : Status) (refused : is_refused_status s ≡ true) where
  -- what goes on behind an opening refuses nothing
  module _ (behind : Reply OpenValue → Ending) (halts : (es : List Effect) (v : Verdict) → behind (Finishes es v) ≡ record { effects = es; status = v })
      (goes : (es : List Effect) (o : OpenValue) → is_refused_status (verdict_status (behind (Continues es o)).status) ≡ false) where
    halted : (fields : Row) (v : Verdict) (e : Ending) → e ≡ record { effects = refuses fields ∷ []; status = v } → Finished e old new s → Unchanged old new
    halted fields v e is f = same_stored t old new told s refused (ap (λ (x : Contents). x.stored) (f.done ∙ ap (λ (x : Ending). performed x.effects (contents old)) is))

    opened_view : (q : Query) (c : CatalogueValue) (r : Option Row) → Finished (behind (with_view t q c r)) old new s → Unchanged old new
    opened_view q c (Some fields) f = halted fields verdict.NoView _ (halts _ verdict.NoView) f
    opened_view q c None f = not_so t old new told s refused _ f.status (goes _ _)

    opened_over : (q : Query) (r : Result CatalogueValue Row) → Finished (behind (with_catalogue t q r)) old new s → Unchanged old new
    opened_over q (Err fields) f = halted fields verdict.BadCatalogue _ (halts _ verdict.BadCatalogue) f
    opened_over q (Ok c) f = opened_view q c (refusal_of c q) f

    pub opening_unchanged : (d : DefinitionOrRefusal) → Finished (behind (opening t d)) old new s → Unchanged old new
    opening_unchanged (Err fields) f = halted fields verdict.BadDefinition _ (halts _ verdict.BadDefinition) f
    opening_unchanged (Ok a) f = opened_over a.query (loaded_or_refused t) f
