-- What is read of a definition and of the sources, against the definitions.
use Rattle.std.specs.Prelude.{Result, Ok, Err}
use Rattle.ss_text.specs.Texts.{Row}
use Rattle.schema_model.specs.Catalogue.{CatalogueValue}
use Rattle.view_def.specs.Query.{query_of}
use Rattle.view_def.specs.Tree.{tree_of}
use Rattle.view_stages.specs.Stages.{DefinitionOrRefusal}
use Rattle.view_stages.specs.declared.definition.Understood.{Understood}
use Rattle.view_stages.specs.declared.definition.Understood.TheVariants as understood
use Rattle.view_stages.specs.declared.sources.Loading.{Loading}
use Rattle.view_stages.specs.declared.sources.Loading.TheVariants as loading

-- a definition
abbrev pub definition_of : Understood → DefinitionOrRefusal
definition_of (understood.Accepted d) = Ok (record { written = tree_of d.text.value; query = query_of d.view.value })
definition_of (understood.Refused fields) = Err fields

-- a catalogue, or the fields of its refusal
abbrev pub loading_of : Loading → Result CatalogueValue Row
loading_of (loading.Catalogue c) = Ok c.databases
loading_of (loading.Refused fields) = Err fields
