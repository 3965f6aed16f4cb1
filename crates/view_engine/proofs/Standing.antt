-- An engine stands for a catalogue where its plan and its tables do.
use Rattle.std.proofs.Common.{◌≡◌, None, sym, subst}
use Rattle.schema_model.specs.Catalogue.{CatalogueValue}
use Rattle.view_def.specs.declared.typed.View.{View}
use Rattle.view_def.specs.Query.{query_of}
use Rattle.view_def.specs.Profile.{IsViewOfProfile}
use Rattle.view_meaning.specs.Meaning.{shape_of}
use Rattle.view_meaning.specs.Refusal.{refusal}
use Rattle.plan_law.specs.PlanMoves.{fact_rows}
use Rattle.plan_translate.specs.Plans.{PlanValue, PlanStands}
use Rattle.view_engine.specs.declared.engine.Engine.{Engine}
use Rattle.view_engine.specs.declared.tables.ViewTables.{ViewTables}
use Rattle.view_engine.specs.Forms.{KeepsTables}
use Rattle.view_engine.specs.Engines.{EngineStands}

pub engine_stands : (c : CatalogueValue) (view : View) (plan : PlanValue) (t : ViewTables) → plan.view ≡ view → IsViewOfProfile (query_of view) → PlanStands c plan
    → KeepsTables (shape_of (query_of view)) t (fact_rows c (query_of view)) → refusal c (query_of view) ≡ None
    → let e : Engine = record { plan = plan; tables = t } in EngineStands c e
engine_stands c view plan t same profile stands keeps allowed = record {
  profile = subst (λ (v : View). IsViewOfProfile (query_of v)) (sym same) profile;
  plan = stands;
  tables = subst (λ (v : View). KeepsTables (shape_of (query_of v)) t (fact_rows c (query_of v))) (sym same) keeps;
  allowed = subst (λ (v : View). refusal c (query_of v) ≡ None) (sym same) allowed;
}
