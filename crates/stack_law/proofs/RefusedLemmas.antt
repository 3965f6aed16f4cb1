-- A stack that was refused changed nothing, and the lines of an input end no run with a refusal.
use Rattle.std.proofs.Common.{◌≡◌, ℕ, true, false, List, [], ◌∷◌, ◌++◌, Option, None, Some, map, refl, ap, ◌∙◌}
use Rattle.std.specs.Prelude.{Result, Ok, Err}
use Rattle.std.specs.List.{AllByRecursion}
use Rattle.ss_text.specs.Texts.{Text, Row}
use Rattle.csv_catalog.specs.FileFaults.{first_repeated}
use Rattle.outside.specs.Tree.{Tree}
use Rattle.outside.specs.Effects.{Effect, Write, Remove, Replace, Print, World, Contents, contents, after, performed}
use Rattle.schema_model.specs.Catalogue.{CatalogueValue}
use Rattle.view_def.specs.Query.{Query}
use Rattle.course.specs.declared.status.Verdict.{Verdict}
use Rattle.course.specs.declared.status.Verdict.TheVariants as verdict
use Rattle.course.specs.Answering.{Continues, ending, follow}
use Rattle.course.specs.declared.exit.Status.{Status}
use Rattle.course.specs.Course.{Finished, by_lines, verdict_status, is_refused_status}
use Rattle.course.specs.Idle.{Unchanged}
use Rattle.course.proofs.RefusedLemmas.{same_stored, not_so}
use Rattle.view_stages.specs.Stages.{DefinitionOrRefusal, loaded_or_refused}
use Rattle.upkeep_law.specs.Given.{IsPrint}
use Rattle.upkeep_law.proofs.RefusedLemmas.{end_unrefused}
use Rattle.stack_levels.specs.declared.refusal.LevelRefusal.{LevelRefusal}
use Rattle.stack_levels.specs.Levels.{refused_at, opening_refusal}
use Rattle.stack_answers.specs.Stack.{StackState, stack_at_first}
use Rattle.stack_answers.specs.Answers.{refusal_effects, answer, end_stack, step, finish}
use Rattle.stack_answers.specs.Opening.{all_accepted, with_levels, with_catalogue, twice_fields, with_databases, with_definitions, opening}
use Rattle.stack_law.proofs.GivenLemmas.{refusal_prints}

-- the end of the input refuses nothing, whatever the lines were
lines_unrefused : (lines : List (List ℕ)) (es : List Effect) (s : StackState) → is_refused_status (verdict_status (ending finish (follow step lines (Continues es s))).status) ≡ false
lines_unrefused [] es s = end_unrefused (end_stack s).refused
lines_unrefused (line ∷ lines) es s = lines_unrefused lines (es ++ (answer s line).effects) (answer s line).stack

-- prints leave what is stored
prints_stored : (es : List Effect) (c : Contents) → AllByRecursion IsPrint es → (performed es c).stored ≡ c.stored
prints_stored [] c h = refl
prints_stored (Print bytes ∷ es) c h = prints_stored es (after (Print bytes) c) h.1
prints_stored (Write folder file bytes ∷ es) c h = absurd h.0
prints_stored (Remove folder file ∷ es) c h = absurd h.0
prints_stored (Replace edits ∷ es) c h = absurd h.0

module _ (t : Tree) (old new : World) (told : old.store.tree ≡ Some t) (s : Status) (refused : is_refused_status s ≡ true) (lines : List (List ℕ)) where
  halted : (r : LevelRefusal) (v : Verdict) → Finished (record { effects = refusal_effects r; status = v }) old new s → Unchanged old new
  halted r v f = same_stored t old new told s refused (ap (λ (x : Contents). x.stored) f.done ∙ prints_stored (refusal_effects r) (contents old) (refusal_prints r))

  by_levels : (qs : List Query) (c : CatalogueValue) (o : Option LevelRefusal) → Finished ((by_lines step finish (with_levels t qs c o)).whole lines) old new s → Unchanged old new
  by_levels qs c (Some r) f = halted r verdict.NoView f
  by_levels qs c None f = not_so t old new told s refused _ f.status (lines_unrefused lines [] (stack_at_first qs c))

  by_catalogue : (qs : List Query) (r : Result CatalogueValue Row) → Finished ((by_lines step finish (with_catalogue t qs r)).whole lines) old new s → Unchanged old new
  by_catalogue qs (Err fields) f = halted (refused_at 1 fields) verdict.BadCatalogue f
  by_catalogue qs (Ok c) f = by_levels qs c (opening_refusal c qs) f

  by_databases : (qs : List Query) (o : Option Text) → Finished ((by_lines step finish (with_databases t qs o)).whole lines) old new s → Unchanged old new
  by_databases qs (Some db) f = halted (refused_at 1 (twice_fields db)) verdict.BadDefinition f
  by_databases qs None f = by_catalogue qs (loaded_or_refused t) f

  by_definitions : (r : Result (List Query) Row) → Finished ((by_lines step finish (with_definitions t r)).whole lines) old new s → Unchanged old new
  by_definitions (Err fields) f = halted (refused_at 1 fields) verdict.BadDefinition f
  by_definitions (Ok qs) f = by_databases qs (first_repeated (map (λ (q : Query). q.view_db) qs)) f

  pub stack_unchanged : (ds : List DefinitionOrRefusal) → Finished ((by_lines step finish (opening t ds)).whole lines) old new s → Unchanged old new
  stack_unchanged ds f = by_definitions (all_accepted ds) f
