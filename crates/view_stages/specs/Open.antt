-- An opened view.
use Rattle.std.specs.Prelude.{Bool, false, ℕ, List}
use Rattle.ss_text.specs.Texts.{Text}
use Rattle.schema_model.specs.Catalogue.{CatalogueValue}
use Rattle.view_def.specs.Query.{Query}
use Rattle.flow_law.specs.Tables.{labels_of}
use Rattle.view_session.specs.Session.{SessionState, opened, tables_of}

-- the view over its catalogue, the labels of its tables at the last sync, whether some line was refused, and how many were refused in the open group, where one is open
pub record OpenValue : Type 0 where
  pub session : SessionState
  pub synced : List Text
  pub refused : Bool
  pub broken : ℕ

-- a view that was just opened
abbrev pub just_opened : Query → CatalogueValue → OpenValue
just_opened q c = record { session = opened q c; synced = labels_of (tables_of (opened q c)); refused = false; broken = 0 }
