-- What holds of lifted lines.
use Rattle.std.specs.Prelude.{◌≡◌, ◌≤◌, length, option_map}
use Rattle.ss_text.specs.Texts.{Text}
use Rattle.flow_law.specs.declared.shape.Shape.{Shape}
use Rattle.flow_law.specs.Tables.{TablesValue}
use Rattle.flow_law.specs.InOrder.{AreTables}
use Rattle.flow_law.specs.Script.{script}
use Rattle.change_script.specs.Fits.{IsForm, TablesFit}
use Rattle.schema_model.specs.Catalogue.{CatalogueValue}
use Rattle.schema_model.specs.Changes.{after_all}
use Rattle.schema_model.specs.Refusals.{group_fault}
use Rattle.schema_model.specs.Sound.{IsSound}
use Rattle.schema_model.specs.declared.refusal.Refusal.TheVariants.{Limit}
use Rattle.view_stack.specs.Stands.{stands}
use Rattle.view_stack.specs.Limits.{lifted_limit}
use Rattle.view_stack.specs.Lifted.{lifted}

-- where a catalogue stands for tables, the lifted lines of the script to others make one that stands for these
abbrev pub LiftedStand : Type 0
LiftedStand =
    (shape : Shape) (db : Text) (c : CatalogueValue) (old new : TablesValue)
    → IsForm shape → IsSound c → AreTables old → AreTables new → TablesFit shape old → TablesFit shape new → stands db shape old c
    → stands db shape new (after_all c (lifted db shape.constants old c (script old new)))

-- and of these the first that is refused is refused by a limit alone: the first that a database of tables passes on the way to the others
abbrev pub LiftedLimit : Type 0
LiftedLimit =
    (shape : Shape) (db : Text) (c : CatalogueValue) (old new : TablesValue)
    → IsForm shape → 1 ≤ length shape.constants → IsSound c → AreTables old → AreTables new → TablesFit shape old → TablesFit shape new → stands db shape old c
    → group_fault c (lifted db shape.constants old c (script old new)) ≡ option_map Limit (lifted_limit db shape old (script old new))
