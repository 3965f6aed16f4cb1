-- What the steps of an opening answer, against the definitions.
use Rattle.std.specs.Prelude.{◌≡◌, true, Option, None, Some, Result, Ok, Err}
use Rattle.ss_text.specs.Texts.{Row}
use Rattle.schema_model.specs.Catalogue.{CatalogueValue}
use Rattle.view_def.specs.Query.{Query}
use Rattle.outside.specs.Effects.{World, contents, Partly}
use Rattle.outside.specs.declared.stop.Stop.{Stop}
use Rattle.course.specs.Answering.{Reply, effects_of}
use Rattle.course.specs.Course.{verdict_status, is_refused_status}
use Rattle.view_stages.specs.Open.{OpenValue, just_opened}
use Rattle.opened_view.specs.Steps.{Begins, EndsRun}
use Rattle.view_opening.specs.declared.opening.Viewing.{Viewing}
use Rattle.view_opening.specs.declared.opening.Viewing.TheVariants as viewing
use Rattle.view_opening.specs.declared.opening.Opened.{Opened}
use Rattle.view_opening.specs.declared.opening.Opened.TheVariants as opened_as

-- a view that was just opened over a catalogue, or the fields of its refusal
abbrev pub Views : Viewing → Query → CatalogueValue → Option Row → Type 0
Views (viewing.View v) q c None = v ≡ just_opened q c
Views (viewing.View v) q c (Some fields) = ⊥
Views (viewing.Refused row) q c None = ⊥
Views (viewing.Refused row) q c (Some fields) = row ≡ fields

-- a run that an opening ended was refused
abbrev pub IsRefusal : Opened → Type 0
IsRefusal (opened_as.Open v) = Unit {0}
IsRefusal (opened_as.Ended v) = is_refused_status (verdict_status v) ≡ true

-- a view that an opening gives was just opened
abbrev pub IsFresh : Opened → Type 0
IsFresh (opened_as.Open v) = v ≡ just_opened v.session.query v.session.catalogue
IsFresh (opened_as.Ended v) = Unit {0}

-- what the opening of a view did
abbrev pub Opens : Reply OpenValue → World → World → Result Opened Stop → Type 0
Opens r old new (Ok (opened_as.Open o)) = Begins r old new o
Opens r old new (Ok (opened_as.Ended v)) = EndsRun r old new v
Opens r old new (Err e) = Partly (effects_of r) (contents old) (contents new)
