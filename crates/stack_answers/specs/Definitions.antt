-- The definitions of a stack, as they are read in the order of their names.
use Rattle.std.specs.Prelude.{◌≡◌, List, [], ◌∷◌, ◌++◌, length, Option, None, Some, Result, Ok, Err, ⊤}
use Rattle.ss_text.specs.Texts.{Text, Row}
use Rattle.outside.specs.Tree.{Tree}
use Rattle.view_def.specs.Query.{Query}
use Rattle.view_stages.specs.Stages.{DefinitionOrRefusal}
use Rattle.view_stages.specs.Opening.{IsDefinition, definition_bytes}
use Rattle.view_stages.specs.declared.accepted.Definition.{Definition}
use Rattle.stack_levels.specs.Opening.{defined_views}
use Rattle.stack_answers.specs.Opening.{all_accepted}
use Rattle.stack_answers.specs.declared.definitions.Defined.{Defined}
use Rattle.stack_answers.specs.declared.definitions.Defined.TheVariants as defined

-- each name has the definition that its bytes are read as
abbrev pub AreDefinitions : Tree → List Text → List DefinitionOrRefusal → Type 0
AreDefinitions t [] [] = ⊤
AreDefinitions t [] (d ∷ ds) = ⊥
AreDefinitions t (name ∷ names) [] = ⊥
AreDefinitions t (name ∷ names) (d ∷ ds) = IsDefinition name (definition_bytes t name) d × AreDefinitions t names ds

-- the views of definitions, where none was refused
abbrev pub read_as : Option Row → List Definition → Result (List Query) Row
read_as None ds = Ok (defined_views ds)
read_as (Some fields) ds = Err fields

abbrev pub defined_as : Defined → Result (List Query) Row
defined_as (defined.Accepted ds) = Ok (defined_views ds.items)
defined_as (defined.Refused fields) = Err fields

-- there is one for each name, where none was refused
abbrev pub AreAll : List Text → Option Row → List Definition → Type 0
AreAll names None ds = length ds ≡ length names
AreAll names (Some fields) ds = Unit {0}

abbrev pub IsForAll : List Text → Defined → Type 0
IsForAll names (defined.Accepted ds) = length ds.items ≡ length names
IsForAll names (defined.Refused fields) = Unit {0}

-- definitions were read behind others, up to one that is refused with these fields, where one is; the store told this tree
pub record AreRead (told : Option Tree) (names : List Text) (fields : Option Row) (old new : List Definition) : Type 0 where
  pub more : List Definition
  pub are : new ≡ old ++ more
  pub many : AreAll names fields more
  pub as_told : (t : Tree) (ds : List DefinitionOrRefusal) → told ≡ Some t → AreDefinitions t names ds → read_as fields more ≡ all_accepted ds
