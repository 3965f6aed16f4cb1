-- What `check` does.
use Rattle.std.specs.Prelude.{[], ◌∷◌, Ok, Err}
use Rattle.outside.specs.Effects.{Effect, Print}
use Rattle.view_def.specs.Print.{print}
use Rattle.course.specs.declared.status.Verdict.{Verdict}
use Rattle.course.specs.declared.status.Verdict.TheVariants as verdict
use Rattle.course.specs.Answering.{Ending}
use Rattle.ss_print.specs.Printing.{refuses}
use Rattle.view_stages.specs.Stages.{DefinitionOrRefusal}

-- one effect, and the end
abbrev pub ends : Effect → Verdict → Ending
ends effect v = record { effects = effect ∷ []; status = v }

-- the canonical text of a definition, as it is, or its refusal
abbrev pub checked : DefinitionOrRefusal → Ending
checked (Err fields) = ends (refuses fields) verdict.BadDefinition
checked (Ok a) = ends (Print (print a.written)) verdict.Done
