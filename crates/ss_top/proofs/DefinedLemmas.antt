-- Each name has a definition.
use Rattle.std.proofs.Common.{List, [], ◌∷◌, map}
use Rattle.ss_text.specs.Texts.{Text}
use Rattle.outside.specs.Tree.{Tree}
use Rattle.view_stages.specs.Opening.{definition_bytes}
use Rattle.view_stages.proofs.DefinitionLemmas.{some_definition}
use Rattle.stack_answers.specs.Definitions.{AreDefinitions}
use Rattle.ss_top.specs.Runs.{Definitions, AreDefined}

module _ (t : Tree) where
  abbrev definition_over : Definitions
  definition_over name = (some_definition name (definition_bytes t name)).0

  each_defined : (names : List Text) → AreDefined names t definition_over
  each_defined [] = tt
  each_defined (name ∷ names) = ((some_definition name (definition_bytes t name)).1, each_defined names)

pub all_defined : (names : List Text) (t : Tree) → (ds : Definitions) × AreDefined names t ds
all_defined names t = (definition_over t, each_defined t names)

-- so are those of a stack, in order
pub in_order : (names : List Text) (t : Tree) (ds : Definitions) → AreDefined names t ds → AreDefinitions t names (map ds names)
in_order [] t ds defined = tt
in_order (name ∷ names) t ds defined = (defined.0, in_order names t ds defined.1)
